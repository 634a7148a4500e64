-- A list that got one more item, or two, as its images: `mapped`, `mapped_twice`.
use Rattle.std.proofs.Common.{◌≡◌, List, [], ◌∷◌, ◌++◌, map, ap, ◌∙◌, append_assoc}
use Rattle.std.proofs.lemmas.List.{map-append}

pub mapped : {A B : Type 0} (f : A → B) (old new : List A) (a : A) → new ≡ old ++ a ∷ [] → map f new ≡ map f old ++ f a ∷ []
mapped f old new a is = ap (map f) is ∙ map-append f old (a ∷ [])

-- the same of two more
pub mapped_twice : {A B : Type 0} (f : A → B) (old mid new : List A) (a b : A) → mid ≡ old ++ a ∷ [] → new ≡ mid ++ b ∷ []
    → map f new ≡ map f old ++ f a ∷ f b ∷ []
mapped_twice f old mid new a b first second =
    mapped f mid new b second ∙ ap (λ (l : List _). l ++ f b ∷ []) (mapped f old mid a first) ∙ append_assoc (map f old) (f a ∷ []) (f b ∷ [])
