-- A writer that keeps what is before it: `kept_further` and `kept_after`; one turn of a quoted text: `quoted_turn`.
use Rattle.std.proofs.Common.{◌≡◌, ℕ, List, [], ◌∷◌, ◌++◌, length, take, drop, flat_map, sym, ap, ◌∙◌, append_assoc}
use Rattle.std.proofs.{Math.Seq.take-append_seam, lemmas.List.take-append-drop, lemmas.List.append-nil, lemmas.Grind.flat_map-append, Common.zero, Common.suc}
use Rattle.json_text.specs.{Tree.Tree, Tree.items_of, Tree.members_of}
use Rattle.json_text.specs.Compact.{escape, items_text, more_items_text, members_text, more_members_text}

-- what stood before is what a longer list begins with
begins : (a b : List ℕ) → take (length a) b ≡ a → b ≡ a ++ drop (length a) b
begins a b h = sym (take-append-drop (length a) b) ∙ ap (λ t. t ++ drop (length a) b) h

pub kept_after : (a b x c : List ℕ) → take (length a) b ≡ a → c ≡ b ++ x → take (length a) c ≡ a
kept_after a b x c h e = ap (take (length a)) (e ∙ ap (λ t. t ++ x) (begins a b h) ∙ append_assoc a (drop (length a) b) x)
    ∙ take-append_seam a (drop (length a) b ++ x)

pub kept_further : (a b c : List ℕ) → take (length a) b ≡ a → take (length b) c ≡ b → take (length a) c ≡ a
kept_further a b c h k = kept_after a b (drop (length b) c) c h (begins b c k)

-- the plain bytes at the front, and what is left
pub quoted_front : (out rest front back : List ℕ) (n : ℕ) → front ≡ take n rest → back ≡ drop n rest → flat_map escape (take n rest) ≡ take n rest
    → (out ++ front) ++ flat_map escape back ≡ out ++ flat_map escape rest
quoted_front out rest front back n is cut plain = let split : flat_map escape rest ≡ take n rest ++ flat_map escape (drop n rest) =
    ap (flat_map escape) (sym (take-append-drop n rest)) ∙ flat_map-append escape (take n rest) (drop n rest)
    ∙ ap (λ t. t ++ flat_map escape (drop n rest)) plain in
    ap (λ t. (out ++ t) ++ flat_map escape back) is ∙ ap (λ t. (out ++ take n rest) ++ flat_map escape t) cut
    ∙ append_assoc out (take n rest) (flat_map escape (drop n rest)) ∙ ap (λ t. out ++ t) (sym split)

-- the plain bytes at the front, an escape, and what is left
pub quoted_turn : (out rest after : List ℕ) (n b : ℕ) (front : List ℕ) → front ≡ take n rest → flat_map escape (take n rest) ≡ take n rest
    → drop n rest ≡ b ∷ after → ((out ++ front) ++ escape b) ++ flat_map escape after ≡ out ++ flat_map escape rest
quoted_turn out rest after n b front is plain cut = let split : flat_map escape rest ≡ take n rest ++ (escape b ++ flat_map escape after) =
    ap (flat_map escape) (sym (take-append-drop n rest)) ∙ flat_map-append escape (take n rest) (drop n rest)
    ∙ ap (λ t. t ++ flat_map escape (drop n rest)) plain ∙ ap (λ t. take n rest ++ flat_map escape t) cut in
    ap (λ t. ((out ++ t) ++ escape b) ++ flat_map escape after) is ∙ append_assoc (out ++ take n rest) (escape b) (flat_map escape after)
    ∙ append_assoc out (take n rest) (escape b ++ flat_map escape after) ∙ ap (λ t. out ++ t) (sym split)

-- the text of the items from a place on: after the first one each has its comma
abbrev pub items_left : ℕ → List Tree → List ℕ
items_left zero ts = items_text (items_of ts)
items_left (suc i) ts = more_items_text (items_of ts)

abbrev pub members_left : ℕ → List (List ℕ × Tree) → List ℕ
members_left zero ms = members_text (members_of ms)
members_left (suc i) ms = more_members_text (members_of ms)

-- nothing is left after the last one
pub items_left_none : (i : ℕ) (ts : List Tree) → ts ≡ [] → items_left i ts ≡ []
items_left_none zero ts e = ap (λ ts. items_text (items_of ts)) e
items_left_none (suc i) ts e = ap (λ ts. more_items_text (items_of ts)) e

pub members_left_none : (i : ℕ) (ms : List (List ℕ × Tree)) → ms ≡ [] → members_left i ms ≡ []
members_left_none zero ms e = ap (λ ms. members_text (members_of ms)) e
members_left_none (suc i) ms e = ap (λ ms. more_members_text (members_of ms)) e

-- the closing byte after what is inside
pub closed : (old out inside left : List ℕ) (front back : ℕ) → left ≡ [] → out ++ left ≡ (old ++ front ∷ []) ++ inside
    → out ++ back ∷ [] ≡ old ++ front ∷ (inside ++ back ∷ [])
closed old out inside left front back none whole = ap (λ t. t ++ back ∷ [])
    (sym (ap (λ t. out ++ t) none ∙ append-nil out) ∙ whole ∙ append_assoc old (front ∷ []) inside) ∙ append_assoc old (front ∷ inside) (back ∷ [])
