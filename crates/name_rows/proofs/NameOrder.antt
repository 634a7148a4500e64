-- The byte order of names. Other files cite `Less_trans`, `Less_from_Greater`, `Greater_from_Less`, `same_name`,
-- and what a comparison says of the test of equality (`bytes_eq_itself`, `bytes_eq_Less`, `bytes_eq_Greater`).
use Rattle.std.proofs.Common.{◌≡◌, ℕ, true, false, List, sym, ◌∙◌, ap}
use Rattle.std.specs.Cmp.Lexicographic.{slice_cmp}
use Rattle.std.specs.Ordering.{nat_cmp, ordering_reverse, is_eq}
use Rattle.std.specs.Str.{bytes_eq}
use Rattle.std.specs.declared.cmp.Ordering.TheVariants.{Less, Equal, Greater}
use Rattle.std.proofs.lemmas.Cmp.{nat_list_cmp_total, tied_itself}
use Rattle.std.proofs.lemmas.Map.Lookups.{exact_bytes}
use Rattle.std.proofs.lemmas.Map.Text.{is_eq-slice_cmp}

pub Less_trans : (x y z : List ℕ) → slice_cmp nat_cmp x y ≡ Less → slice_cmp nat_cmp y z ≡ Less → slice_cmp nat_cmp x z ≡ Less
Less_trans x y z = nat_list_cmp_total.trans x y z

pub Less_from_Greater : (x y : List ℕ) → slice_cmp nat_cmp x y ≡ Greater → slice_cmp nat_cmp y x ≡ Less
Less_from_Greater x y e = nat_list_cmp_total.antisymm y x ∙ ap ordering_reverse e

pub Greater_from_Less : (x y : List ℕ) → slice_cmp nat_cmp x y ≡ Less → slice_cmp nat_cmp y x ≡ Greater
Greater_from_Less x y e = nat_list_cmp_total.antisymm y x ∙ ap ordering_reverse e

pub bytes_eq_itself : (x : List ℕ) → bytes_eq x x ≡ true
bytes_eq_itself x = sym (is_eq-slice_cmp x x) ∙ ap is_eq (tied_itself nat_list_cmp_total x)

pub same_name : (x y : List ℕ) → slice_cmp nat_cmp x y ≡ Equal → x ≡ y
same_name = exact_bytes

pub bytes_eq_Less : (x y : List ℕ) → slice_cmp nat_cmp x y ≡ Less → bytes_eq x y ≡ false
bytes_eq_Less x y e = sym (is_eq-slice_cmp x y) ∙ ap is_eq e

pub bytes_eq_Greater : (x y : List ℕ) → slice_cmp nat_cmp x y ≡ Greater → bytes_eq x y ≡ false
bytes_eq_Greater x y e = sym (is_eq-slice_cmp x y) ∙ ap is_eq e
