-- Why backtracking to one place is enough: `greedy_start`, `greedy_run`, `greedy_piece` and `greedy_back` keep
-- `Greedy`, and the refusal follows from it by `greedy_stuck` and `greedy_over`.
use Rattle.std.proofs.Common.{◌≡◌, ◌≢◌, ℕ, ◌+◌, ◌<◌, ◌≤◌, ◌⊎◌, inl, inr, List, [], ◌∷◌, ◌++◌, Option, Some, None, length, get_or, take}
use Rattle.std.proofs.Common.{drop, refl, sym, ap, subst, ◌∙◌, arith, append_assoc, append-nil}
use Rattle.std.specs.Char.{IsScalar, encode_utf8}
use Rattle.std.specs.Str.{IsCharBoundary, encode_utf8_all}
use Rattle.std.proofs.lemmas.Str.{encode_same, IsUtf8-encode, IsUtf8-take, IsCharBoundary-start, length-encode, len_utf8_bounds}
use Rattle.std.proofs.lemmas.Bool.{cases_lt}
use Rattle.std.proofs.lemmas.List.{drop-append-le, take-append-drop, take-append-le, length-drop, get_or_append_left, get_or-append-add}
use Rattle.std.proofs.Math.Seq.{drop-append_seam, take-append_seam}
use Rattle.leaf_match.specs.declared.piece.Piece.{Piece}
use Rattle.leaf_match.specs.declared.piece.Piece.TheVariants.{Letter, Run, OneCharacter}
use Rattle.leaf_match.specs.Piece.{StandsFor, Fits}

-- a run that takes nothing, and a run that takes more
Fits-run_none : (ps : List Piece) (s : List ℕ) → Fits ps s → Fits (Run ∷ ps) s
Fits-run_none ps s h = ([], s, refl, tt, h)

Fits-run_more : (ps : List Piece) (front s : List ℕ) → Fits (Run ∷ ps) s → Fits (Run ∷ ps) (front ++ s)
Fits-run_more ps front s h =
    (front ++ h.0, h.1, ap (λ x. front ++ x) h.2 ∙ sym (append_assoc front h.0 h.1), tt, h.4)

-- two runs side by side match what one run matches
Fits-run_run : (ps : List Piece) (s : List ℕ) → Fits (Run ∷ Run ∷ ps) s → Fits (Run ∷ ps) s
Fits-run_run ps s h =
    (h.0 ++ h.4.0, h.4.1, h.2 ∙ ap (λ x. h.0 ++ x) h.4.2 ∙ sym (append_assoc h.0 h.4.0 h.4.1), tt, h.4.4)

-- what fits after a later cut: the last run takes one byte more, and then any
pub FitsLater : Option (List Piece × List ℕ) → Type 0
FitsLater None = ⊥
FitsLater (Some p) = (byte : ℕ) × (rest : List ℕ) × (p.1 ≡ byte ∷ rest) × Fits (Run ∷ p.0) rest

-- a run takes nothing, or a byte and then any
Fits-run_cases : (ps : List Piece) (s : List ℕ) → Fits (Run ∷ ps) s → Fits ps s ⊎ FitsLater (Some (ps, s))
unfolding FitsLater
Fits-run_cases ps s ([], rest, e, _, h) = inl (subst (Fits ps) (sym e) h)
Fits-run_cases ps s (byte ∷ more, rest, e, _, h) = inr (byte, more ++ rest, e, Fits-run_more ps more rest (Fits-run_none ps rest h))

FitsLater-run : (ps : List Piece) (s : List ℕ) → FitsLater (Some (ps, s)) → Fits (Run ∷ ps) s
unfolding FitsLater
FitsLater-run ps s h = subst (Fits (Run ∷ ps)) (sym h.2) (Fits-run_more ps (h.0 ∷ []) h.1 h.3)

-- the first character of a character's bytes is all of them
front_is_all : (c : ℕ) (chars front back : List ℕ) → encode_utf8_all chars ≡ front → front ≢ [] → encode_utf8 c ≡ front ++ back → back ≡ []
front_is_all c [] front back u ne e = absurd (ne (sym u))
front_is_all c (d ∷ chars) front back u ne e =
    let whole : encode_utf8 c ++ [] ≡ encode_utf8 d ++ (encode_utf8_all chars ++ back) =
    append-nil (encode_utf8 c) ∙ e ∙ ap (λ x. x ++ back) (sym u) ∙ append_assoc (encode_utf8 d) (encode_utf8_all chars) back in
    let none = (encode_same c d [] (encode_utf8_all chars ++ back) whole).1 in
    no_back (encode_utf8_all chars) back (sym none)
  where
    no_back : (xs ys : List ℕ) → xs ++ ys ≡ [] → ys ≡ []
    no_back [] ys h = h
    no_back (x ∷ xs) ys h = cc

-- a cut at which a character begins is no cut inside a character
inside : (c d : ℕ) (skip s rest : List ℕ) → IsScalar c → IsScalar d → skip ≢ []
    → encode_utf8 c ++ s ≡ skip ++ (encode_utf8 d ++ rest) → length skip < length (encode_utf8 c) → ⊥
inside c d skip s rest hc hd ne e short =
    let i = length skip in
    let front : take i (encode_utf8 c) ≡ skip =
    sym (take-append-le i (encode_utf8 c) s (omega arith)) ∙ ap (take i) e ∙ take-append_seam skip (encode_utf8 d ++ rest) in
    let some : 0 < length (encode_utf8 d) = omega (arith, length-encode d, len_utf8_bounds d) in
    let lead : get_or (encode_utf8 c) i 0 ≡ get_or (encode_utf8 d) 0 0 =
    sym (get_or_append_left (encode_utf8 c) s 0 i short) ∙ ap (λ x. get_or x i 0) e
    ∙ (let at : get_or (skip ++ (encode_utf8 d ++ rest)) (i + 0) 0 ≡ get_or (encode_utf8 d ++ rest) 0 0 = get_or-append-add skip (encode_utf8 d ++ rest) 0 0 in
    let here : i + 0 ≡ i = omega arith in
    subst (λ k. get_or (skip ++ (encode_utf8 d ++ rest)) k 0 ≡ get_or (encode_utf8 d ++ rest) 0 0) here at)
    ∙ get_or_append_left (encode_utf8 d) rest 0 0 some in
    let start = IsCharBoundary-start (encode_utf8 d) (IsUtf8-encode d hd) in
    let cut : IsCharBoundary (encode_utf8 c) i = (omega arith, λ _ high. subst (λ b. 192 ≤ b) (sym lead) (start.1 some (subst (λ b. 128 ≤ b) lead high))) in
    let text = IsUtf8-take (encode_utf8 c) i (IsUtf8-encode c hc) cut in
    let none = front_is_all c text.0 skip (drop i (encode_utf8 c)) (text.1.1 ∙ front) ne
    (sym (take-append-drop i (encode_utf8 c)) ∙ ap (λ x. x ++ drop i (encode_utf8 c)) front) in
    omega (arith, ap length none, length-drop i (encode_utf8 c), short)

past_character : (c d : ℕ) (skip s rest : List ℕ) → IsScalar c → IsScalar d → skip ≢ []
    → encode_utf8 c ++ s ≡ skip ++ (encode_utf8 d ++ rest) → length (encode_utf8 c) ≤ length skip
past_character c d skip s rest hc hd ne e =
    elim (cases_lt (length skip) (length (encode_utf8 c))) [ inl short ↦ absurd (inside c d skip s rest hc hd ne e short) | inr h ↦ h ]

-- what is left after a letter, and after a character, if the same comes later
later_letter : (byte : ℕ) (skip s rest : List ℕ) → byte ∷ s ≡ skip ++ (byte ∷ rest) → (front : List ℕ) × (s ≡ front ++ rest)
later_letter byte [] s rest e = ([], cc)
later_letter byte (x ∷ skip) s rest e =
    let tail : s ≡ skip ++ (byte ∷ rest) = cc in
    (skip ++ byte ∷ [], tail ∙ sym (append_assoc skip (byte ∷ []) rest))

later_character : (c d : ℕ) (skip s rest : List ℕ) → IsScalar c → IsScalar d
    → encode_utf8 c ++ s ≡ skip ++ (encode_utf8 d ++ rest) → (front : List ℕ) × (s ≡ front ++ rest)
later_character c d [] s rest hc hd e = ([], (encode_same c d s rest e).1)
later_character c d (x ∷ skip) s rest hc hd e =
    let whole = x ∷ skip in
    let n = length (encode_utf8 c) in
    let long : n ≤ length whole = past_character c d whole s rest hc hd (λ h. cc) e in
    let left : s ≡ drop n whole ++ (encode_utf8 d ++ rest) =
    sym (drop-append_seam (encode_utf8 c) s) ∙ ap (drop n) e ∙ drop-append-le n whole (encode_utf8 d ++ rest) long in
    (drop n whole ++ encode_utf8 d, left ∙ sym (append_assoc (drop n whole) (encode_utf8 d) rest))

-- If a piece that is no run takes a front of the text, what fits after any later cut fits after this one.
later_piece : (x : Piece) (ps : List Piece) (part s : List ℕ) → x ≢ Run → StandsFor x part → Fits (Run ∷ x ∷ ps) (part ++ s) → Fits (Run ∷ ps) s
later_piece (Letter byte) ps part s ne h f =
    let e : byte ∷ s ≡ f.0 ++ (byte ∷ f.4.1) = ap (λ x. x ++ s) (sym h) ∙ f.2 ∙ ap (λ x. f.0 ++ x) (f.4.2 ∙ ap (λ x. x ++ f.4.1) f.4.3) in
    let left = later_letter byte f.0 s f.4.1 e in
    subst (Fits (Run ∷ ps)) (sym left.1) (Fits-run_more ps left.0 f.4.1 (Fits-run_none ps f.4.1 f.4.4))
later_piece Run ps part s ne h f = absurd (ne refl)
later_piece OneCharacter ps part s ne h f =
    let taken = f.4.3 in
    let e : encode_utf8 h.0 ++ s ≡ f.0 ++ (encode_utf8 taken.0 ++ f.4.1) =
    ap (λ x. x ++ s) (sym h.2) ∙ f.2 ∙ ap (λ x. f.0 ++ x) (f.4.2 ∙ ap (λ x. x ++ f.4.1) taken.2) in
    let left = later_character h.0 taken.0 f.0 s f.4.1 h.1 taken.1 e in
    subst (Fits (Run ∷ ps)) (sym left.1) (Fits-run_more ps left.0 f.4.1 (Fits-run_none ps f.4.1 f.4.4))

-- a piece that is no run takes one front of a text at most
one_front : (x : Piece) (part s front rest : List ℕ) → x ≢ Run → StandsFor x part → StandsFor x front → part ++ s ≡ front ++ rest → s ≡ rest
one_front (Letter byte) part s front rest ne h k e =
    let same : byte ∷ s ≡ byte ∷ rest = ap (λ x. x ++ s) (sym h) ∙ e ∙ ap (λ x. x ++ rest) k in cc
one_front Run part s front rest ne h k e = absurd (ne refl)
one_front OneCharacter part s front rest ne h k e =
    (encode_same h.0 k.0 s rest (ap (λ x. x ++ s) (sym h.2) ∙ e ∙ ap (λ x. x ++ rest) k.2)).1

-- How far a match has come: the pieces and the text that are left, and what is left after the last run and after
-- what that run has taken.
pub record Greedy (all : List Piece) (text : List ℕ) (ps : List Piece) (s : List ℕ) (back : Option (List Piece × List ℕ)) : Type 0 where
  pub here : Fits ps s → Fits all text
  pub later : FitsLater back → Fits all text
  pub only : Fits all text → Fits ps s ⊎ FitsLater back
  pub passes : FitsLater back → Fits (Run ∷ ps) s

pub greedy_start : (all : List Piece) (text : List ℕ) → Greedy all text all text None
unfolding FitsLater
greedy_start all text = record { here = λ h. h; later = λ h. absurd h; only = λ h. inl h; passes = λ h. absurd h }

pub greedy_run : (all : List Piece) (text : List ℕ) (ps : List Piece) (s : List ℕ) (back : Option (List Piece × List ℕ))
    → Greedy all text (Run ∷ ps) s back → Greedy all text ps s (Some (ps, s))
greedy_run all text ps s back g = record {
  here = λ h. g.here (Fits-run_none ps s h);
  later = λ h. g.here (FitsLater-run ps s h);
  only = λ h. elim (g.only h) [ inl now ↦ Fits-run_cases ps s now | inr later ↦ Fits-run_cases ps s (Fits-run_run ps s (g.passes later)) ];
  passes = FitsLater-run ps s;
}

pub greedy_piece : (all : List Piece) (text : List ℕ) (x : Piece) (ps : List Piece) (part s : List ℕ)
    (back : Option (List Piece × List ℕ)) → x ≢ Run → StandsFor x part → Greedy all text (x ∷ ps) (part ++ s) back
    → Greedy all text ps s back
greedy_piece all text x ps part s back ne h g = record {
  here = λ f. g.here (part, s, refl, h, f);
  later = g.later;
  only = λ f. elim (g.only f) [
    | inl now ↦ inl (subst (Fits ps) (sym (one_front x part s now.0 now.1 ne h now.3 now.2)) now.4)
    | inr later ↦ inr later
  ];
  passes = λ f. later_piece x ps part s ne h (g.passes f);
}

pub greedy_back : (all : List Piece) (text : List ℕ) (ps : List Piece) (s : List ℕ) (qs : List Piece) (byte : ℕ)
    (rest : List ℕ) → ¬ (Fits ps s) → Greedy all text ps s (Some (qs, byte ∷ rest))
    → Greedy all text qs rest (Some (qs, rest))
unfolding FitsLater
greedy_back all text ps s qs byte rest stuck g = record {
  here = λ f. g.later (byte, rest, refl, Fits-run_none qs rest f);
  later = λ f. g.later (byte, rest, refl, FitsLater-run qs rest f);
  only = λ f. elim (g.only f) [
    | inl now ↦ absurd (stuck now)
    | inr w ↦ let same : rest ≡ w.1 = cc in
        Fits-run_cases qs rest (subst (Fits (Run ∷ qs)) (sym same) w.3)
  ];
  passes = FitsLater-run qs rest;
}

-- no cut is left to come back to
pub greedy_stuck : (all : List Piece) (text : List ℕ) (ps : List Piece) (s : List ℕ) → ¬ (Fits ps s) → Greedy all text ps s None → ¬ (Fits all text)
unfolding FitsLater
greedy_stuck all text ps s stuck g f = elim (g.only f) [ inl now ↦ stuck now | inr later ↦ later ]

pub greedy_over : (all : List Piece) (text : List ℕ) (ps : List Piece) (s : List ℕ) (qs : List Piece) → ¬ (Fits ps s)
    → Greedy all text ps s (Some (qs, [])) → ¬ (Fits all text)
unfolding FitsLater
greedy_over all text ps s qs stuck g f =
    elim (g.only f) [ inl now ↦ stuck now | inr w ↦ let none : [] ≡ w.0 ∷ w.1 = w.2 in cc ]
