-- The pieces and the text from a place on.
use Rattle.std.proofs.Common.{◌≡◌, ◌≢◌, ℕ, suc, ◌+◌, ◌^◌, ◌<◌, ◌≤◌, inl, inr, List, [], ◌∷◌, ◌++◌, Some, None, length, get_or, drop}
use Rattle.std.proofs.Common.{slice_get, slice_range, refl, sym, ap, subst, ◌∙◌, arith, add-one}
use Rattle.std.specs.Char.{IsScalar, encode_utf8, len_utf8}
use Rattle.std.specs.Str.{IsCharBoundary}
use Rattle.std.proofs.lemmas.Option.{slice_get_within, slice_get_cases, get_or_from_slice_get}
use Rattle.std.proofs.lemmas.Str.{IsUtf8-encode, IsCharBoundary-start, length-encode, len_utf8_bounds, drop_past_char}
use Rattle.std.proofs.lemmas.List.{length-drop, length-append, get_or-drop, get_or_append_left}
use Rattle.std.proofs.lemmas.Grind.{common_steps}
use Rattle.std.proofs.Math.Seq.{drop-cons}
use Rattle.std.proofs.Math.ListN.{drop_of_length-le}
use Rattle.leaf_match.specs.declared.piece.Piece.{Piece}
use Rattle.leaf_match.specs.declared.piece.Piece.TheVariants.{OneCharacter}
use Rattle.leaf_match.specs.Piece.{Fits}
use Rattle.leaf_match.specs.Place.{Takes, IsBehind, IsPieceAt}

pub IsPieceAt-from_get : (ps : List Piece) (i : ℕ) (x : Piece) → i + 1 < 2 ^ 64 → slice_get ps i ≡ Some x → IsPieceAt ps i x
IsPieceAt-from_get ps i x small e =
    let within = slice_get_within ps i x e in
    (small, within, drop-cons ps i x within ∙ ap (λ y. y ∷ drop (suc i) ps) (get_or_from_slice_get ps i x x e) ∙ ap (λ k. x ∷ drop k ps) (sym (add-one i)))

drop-past_pieces : (ps : List Piece) (i : ℕ) → slice_get ps i ≡ None → drop i ps ≡ []
drop-past_pieces ps i e = elim (slice_get_cases ps i).1 [
  | inl w ↦ let no : None ≡ Some w.0 = sym e ∙ w.2 in cc
  | inr w ↦ drop_of_length-le ps w.0
]

-- no piece is left: the text fits if it ends too
pub Fits-past_pieces : (ps : List Piece) (i : ℕ) (s : List ℕ) (at : ℕ) → slice_get ps i ≡ None → length s ≤ at → Fits (drop i ps) (drop at s)
Fits-past_pieces ps i s at e over = rw (drop-past_pieces ps i e) (drop_of_length-le s over)

pub not_Fits-past_pieces : (ps : List Piece) (i : ℕ) (s : List ℕ) (at : ℕ) → slice_get ps i ≡ None → at ≤ length s
    → at ≢ length s → ¬ (Fits (drop i ps) (drop at s))
not_Fits-past_pieces ps i s at e within ne f =
    let none : drop at s ≡ [] = rw (drop-past_pieces ps i e) at f in
    omega (arith, ap length none, length-drop at s)

pub slice_range-to_end : (s : List ℕ) (at : ℕ) → slice_range s at (length s) ≡ drop at s
slice_range-to_end s at = grind (arith, common_steps)

-- the text does not fit if its next piece takes no front of it
pub not_Fits-from_stuck : (x : Piece) (ps : List Piece) (s : List ℕ) → ((rest : List ℕ) → ¬ (Takes x s rest)) → ¬ (Fits (x ∷ ps) s)
not_Fits-from_stuck x ps s none f = none f.1 (f.0, f.3, f.2)

-- a character begins the text only at a place where the text may be cut
pub no_character_inside : (s : List ℕ) (at : ℕ) (rest : List ℕ) → at ≤ length s → ¬ (IsCharBoundary s at) → ¬ (Takes OneCharacter (drop at s) rest)
no_character_inside s at rest within inside t =
    let c = t.1.0 in
    let e : drop at s ≡ encode_utf8 c ++ rest = t.2 ∙ ap (λ x. x ++ rest) t.1.2 in
    let some : 0 < length (encode_utf8 c) = omega (arith, length-encode c, len_utf8_bounds c) in
    let here : at + 0 ≡ at = omega arith in
    let lead : get_or s at 0 ≡ get_or (encode_utf8 c) 0 0 =
    ap (λ k. get_or s k 0) (sym here) ∙ sym (get_or-drop at s 0 0) ∙ ap (λ x. get_or x 0 0) e ∙ get_or_append_left (encode_utf8 c) rest 0 0 some in
    let start = IsCharBoundary-start (encode_utf8 c) (IsUtf8-encode c t.1.1) in
    inside (within, λ _ high. subst (λ b. 192 ≤ b) (sym lead) (start.1 some (subst (λ b. 128 ≤ b) lead high)))

pub no_character_in_none : (s rest : List ℕ) → length s ≡ 0 → ¬ (Takes OneCharacter s rest)
no_character_in_none s rest empty t =
    omega (arith, length-encode t.1.0, len_utf8_bounds t.1.0, ap length (t.2 ∙ ap (λ x. x ++ rest) t.1.2), length-append (encode_utf8 t.1.0) rest, empty)

pub IsBehind-character : (s : List ℕ) (at c : ℕ) (rest : List ℕ) → at ≤ length s → IsScalar c
    → drop at s ≡ encode_utf8 c ++ rest → IsBehind OneCharacter s at (Some (at + len_utf8 c))
IsBehind-character s at c rest within scalar e =
    let width = length-encode c in
    let long : length s ≡ at + (len_utf8 c + length rest) =
    omega (arith, length-drop at s, ap length e, length-append (encode_utf8 c) rest, width) in
    (omega arith, (encode_utf8 c, (c, scalar, refl), e ∙ ap (λ x. encode_utf8 c ++ x) (sym (drop_past_char s rest at c e))))
