-- Conditions in an order: what it says of each that no fault is there (`kept`, `both_none`, `two_none`); a first fault that is
-- there (`found_first`); two lists, one after the other (`passed_front`, `found_front`); and faults that are renamed (`mapped`).
use Rattle.std.proofs.Common.{◌≡◌, Bool, true, false, List, [], ◌∷◌, ◌++◌, map, Option, Some, None, refl, ap}
use Rattle.std.specs.Option.{option_map}
use Rattle.json_text.specs.Checks.{unless, first_fault}

-- a condition that holds, and those after it
pub kept : {F : Type 0} (b : Bool) (f : F) (rest : List (Option F)) → first_fault (unless b f ∷ rest) ≡ None → (b ≡ true) × (first_fault rest ≡ None)
kept true f rest none = (refl, none)
kept false f rest none = let never : Some f ≡ None = none in absurd cc

pub found_first : {F : Type 0} (o : Option F) (rest : List (Option F)) (f : F) → o ≡ Some f → first_fault (o ∷ rest) ≡ Some f
found_first o rest f is = ap (λ first. first_fault (first ∷ rest)) is

pub passed_front : {F : Type 0} (xs ys : List (Option F)) → first_fault xs ≡ None → first_fault (xs ++ ys) ≡ first_fault ys
passed_front [] ys none = refl
passed_front (None ∷ xs) ys none = passed_front xs ys none
passed_front (Some f ∷ xs) ys none = let never : Some f ≡ None = none in absurd cc

pub found_front : {F : Type 0} (xs ys : List (Option F)) (f : F) → first_fault xs ≡ Some f → first_fault (xs ++ ys) ≡ Some f
found_front [] ys f is = absurd cc
found_front (None ∷ xs) ys f is = found_front xs ys f is
found_front (Some g ∷ xs) ys f is = is

pub both_none : {F : Type 0} (xs ys : List (Option F)) → first_fault (xs ++ ys) ≡ None → (first_fault xs ≡ None) × (first_fault ys ≡ None)
both_none [] ys none = (refl, none)
both_none (None ∷ xs) ys none = both_none xs ys none
both_none (Some f ∷ xs) ys none = let never : Some f ≡ None = none in absurd cc

pub two_none : {F : Type 0} (a b : Option F) → first_fault (a ∷ b ∷ []) ≡ None → (a ≡ None) × (b ≡ None)
two_none None None none = (refl, refl)
two_none None (Some f) none = let never : Some f ≡ None = none in absurd cc
two_none (Some f) b none = let never : Some f ≡ None = none in absurd cc

pub mapped : {F G : Type 0} (g : F → G) (xs : List (Option F)) → first_fault (map (option_map g) xs) ≡ option_map g (first_fault xs)
mapped g [] = refl
mapped g (None ∷ xs) = mapped g xs
mapped g (Some f ∷ xs) = refl
