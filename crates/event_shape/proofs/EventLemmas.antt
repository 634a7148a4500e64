-- The members of an event as they are pushed: `text_pushed`.
use Rattle.std.proofs.Common.{◌≡◌, ℕ, ◌+◌, ◌<◌, List, [], ◌∷◌, ◌++◌, length, take, get_or, map, sym, ap, ◌∙◌, refl}
use Rattle.std.proofs.lemmas.List.{take_more, map-append}
use Rattle.json_text.specs.Tree.{text}
use Rattle.json_text.specs.View.{tree_of, trees_of}
use Rattle.json_text.specs.declared.value.Json.{Json}
use Rattle.json_text.specs.declared.value.Json.TheVariants.{Str}
use Rattle.json_text.proofs.ViewLemmas.{tree_of_text}

pub text_pushed : (items pushed : List Json) (texts : List (List ℕ)) (i : ℕ) (t r : List ℕ) → i < length texts → trees_of items ≡ map text (take i texts)
    → pushed ≡ items ++ Str t ∷ [] → t ≡ r → r ≡ get_or texts i r → trees_of pushed ≡ map text (take (i + 1) texts)
text_pushed items pushed texts i t r lt before is same at =
    ap trees_of is ∙ map-append tree_of items (Str t ∷ [])
    ∙ ap (λ xs. xs ++ tree_of (Str t) ∷ []) before
    ∙ ap (λ x. map text (take i texts) ++ x ∷ []) (tree_of_text t ∙ ap text (same ∙ at))
    ∙ sym (ap (map text) (take_more texts i r lt) ∙ map-append text (take i texts) (get_or texts i r ∷ []))

pub eight_pushed : {X : Type 0} {m0 m1 m2 m3 m4 m5 m6 m7 m8 : List X} {p1 p2 p3 p4 p5 p6 p7 p8 : X} → m0 ≡ []
    → m1 ≡ m0 ++ p1 ∷ [] → m2 ≡ m1 ++ p2 ∷ [] → m3 ≡ m2 ++ p3 ∷ [] → m4 ≡ m3 ++ p4 ∷ [] → m5 ≡ m4 ++ p5 ∷ [] → m6 ≡ m5 ++ p6 ∷ []
    → m7 ≡ m6 ++ p7 ∷ [] → m8 ≡ m7 ++ p8 ∷ [] → m8 ≡ p1 ∷ p2 ∷ p3 ∷ p4 ∷ p5 ∷ p6 ∷ p7 ∷ p8 ∷ []
eight_pushed e0 e1 e2 e3 e4 e5 e6 e7 e8 = rw (e8, e7, e6, e5, e4, e3, e2, e1, e0) refl
