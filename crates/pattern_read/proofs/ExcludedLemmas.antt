-- Texts as they are read, one after another; the values of a list, there and back: `trees_back`; what `anything-but` excludes.
use Rattle.std.proofs.Common.{◌≡◌, ℕ, true, false, List, [], ◌∷◌, ◌++◌, Option, Some, None, Ok, Err, Result, map, refl, sym, ap, ◌∙◌, subst}
use Rattle.std.specs.Prelude.{if◌then◌else◌}
use Rattle.std.specs.Option.{option_map}
use Rattle.std.proofs.lemmas.Bool.{cond-true, cond-false}
use Rattle.std.proofs.lemmas.Option.{none-some}
use Rattle.json_text.specs.Tree.{Tree, text, number, list, items_of}
use Rattle.pattern_meaning.specs.Pattern.{Test, same, anything_but, tests_of}
use Rattle.pattern_meaning.specs.PatternView.{test_of, test_step}
use Rattle.pattern_meaning.specs.declared.pattern.LeafTest.{LeafTest, fold-roll-LeafTest}
use Rattle.pattern_meaning.specs.declared.pattern.LeafTest.TheVariants.{AnythingBut, rolls-AnythingBut}
use Rattle.pattern_read.specs.Test.{IsOperand, AreExcluded, are_alike}
use Rattle.json_text.specs.Access.{trees_in}
use Rattle.pattern_read.specs.Check.{operand, operand_checks}
use Rattle.pattern_read.specs.Reading.{IsReported, Gives}
use Rattle.pattern_read.specs.declared.fault.Why.TheVariants.{BadOperand}
use Rattle.pattern_read.specs.declared.fault.Fault.{Fault}
use Rattle.pattern_read.specs.declared.fault.Fault.TheVariants as fault
use Rattle.pattern_read.specs.declared.kind.Kind.TheVariants as kind
use Rattle.pattern_read.proofs.CheckLemmas.{reported_here}

-- texts, and those of what is left
abbrev pub texts_with : List (List ℕ) → Option (List (List ℕ)) → Option (List (List ℕ))
texts_with done rest = option_map (λ ts. done ++ ts) rest

pub trees_back : (ts : List Tree) → trees_in (items_of ts) ≡ ts
trees_back [] = refl
trees_back (t ∷ ts) = ap (λ xs. t ∷ xs) (trees_back ts)

pub but_test : (v : _) → test_of (AnythingBut v) ≡ anything_but (tests_of (map test_of v.items))
but_test v = ap test_of (sym (rolls-AnythingBut v)) ∙ fold-roll-LeafTest Test test_step _

pub listed_excluded : (xs : List Tree) (ts : List Test) → are_alike xs ≡ true → ts ≡ map same xs → AreExcluded (list (items_of xs)) ts
listed_excluded xs ts alike e =
    subst (λ zs. option_map (map same) (if are_alike zs then Some zs else None) ≡ Some ts) (sym (trees_back xs))
    (ap (option_map (map same)) (cond-true (are_alike xs) (Some xs) None alike) ∙ ap Some (sym e))

none_listed : (xs : List Tree) (ts : List Test) → are_alike xs ≡ false → AreExcluded (list (items_of xs)) ts → ⊥
none_listed xs ts unlike h =
    let g = subst (λ zs. option_map (map same) (if are_alike zs then Some zs else None) ≡ Some ts) (trees_back xs) h in
    none-some ts (sym (ap (option_map (map same)) (cond-false (are_alike xs) (Some xs) None unlike)) ∙ g)

pub unlike_reported : (xs : List Tree) → are_alike xs ≡ false
    → IsReported (operand_checks kind.AnythingBut (list (items_of xs))) (fault.Refused BadOperand None)
unlike_reported xs unlike =
    reported_here (operand kind.AnythingBut (list (items_of xs))) (λ h. none_listed xs h.1.0 unlike h.1.1)

-- a number or a text that is excluded
pub number_excluded : (s : List ℕ) (r : Result LeafTest Fault) → Gives test_of (λ test. test ≡ anything_but (tests_of (same (number s) ∷ []))) [] r
    → Gives test_of (IsOperand kind.AnythingBut (number s)) (operand_checks kind.AnythingBut (number s)) r
number_excluded s (Ok x) h = (same (number s) ∷ [], refl, h)
number_excluded s (Err (fault.Refused why path)) h = absurd h.1
number_excluded s (Err fault.NoMemory) h = tt

pub text_excluded : (s : List ℕ) (r : Result LeafTest Fault) → Gives test_of (λ test. test ≡ anything_but (tests_of (same (text s) ∷ []))) [] r
    → Gives test_of (IsOperand kind.AnythingBut (text s)) (operand_checks kind.AnythingBut (text s)) r
text_excluded s (Ok x) h = (same (text s) ∷ [], refl, h)
text_excluded s (Err (fault.Refused why path)) h = absurd h.1
text_excluded s (Err fault.NoMemory) h = tt
