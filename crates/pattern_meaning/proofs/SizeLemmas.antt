-- A value in a list or an object is a value, and smaller: `item_below`, `member_below`.
use Rattle.std.proofs.Common.{◌≡◌, ℕ, zero, suc, ◌<◌, ◌≤◌, List, [], ◌∷◌, length, get_or, Some, None, inl, inr}
use Rattle.std.proofs.Common.{sym, ap, ◌∙◌, subst, arith}
use Rattle.std.specs.Str.{bytes_eq}
use Rattle.std.proofs.lemmas.Bool.{cases_Bool, cond-true, cond-false}
use Rattle.json_text.specs.Tree.{Tree, null, truth, number, text, list, object, Members, no_members, member, items_of}
use Rattle.json_text.specs.Compact.{IsValue, AreItems, AreMembers}
use Rattle.json_text.specs.Access.{member_in}
use Rattle.json_text.specs.View.{tree_of, trees_of}
use Rattle.json_text.specs.declared.value.Json.{Json}
use Rattle.pattern_meaning.specs.View.{has_view}
use Rattle.pattern_meaning.specs.Meets.{IsNode, with_view, seen_member, size_of, items_size, members_size}

pub item_below : (xs : List Json) (i : ℕ) (x : Json) → i < length xs → x ≡ get_or xs i x → AreItems (items_of (trees_of xs))
    → (size_of (tree_of x) ≤ items_size (items_of (trees_of xs))) × IsValue (tree_of x)
item_below [] i x inside is are = absurd (omega (arith, inside))
item_below (y ∷ ys) zero x inside is are =
    let same : tree_of x ≡ tree_of y = ap tree_of is in
    (omega (arith, ap size_of same), subst IsValue (sym same) are.0)
item_below (y ∷ ys) (suc i) x inside is are =
    let rest = item_below ys i x (omega (arith, inside)) is are.1 in
    (omega (arith, rest.0), rest.1)

same_value : (t x : Tree) → Some t ≡ Some x → t ≡ x
same_value t x e = cc

viewed_value : (t x : Tree) → with_view (Some t) ≡ Some x → t ≡ x
viewed_value t x e = elim (cases_Bool (has_view t)) [
  | inl there ↦ same_value t x (sym (cond-true (has_view t) (Some t) None there) ∙ e)
  | inr none ↦ absurd (nothing_there (sym (cond-false (has_view t) (Some t) None none) ∙ e))
]
  where
    nothing_there : None ≡ Some x → ⊥
    nothing_there h = cc

members_below : (key : List ℕ) (ms : Members) (x : Tree) → AreMembers ms → with_view (member_in key ms) ≡ Some x
    → (size_of x ≤ members_size ms) × IsValue x
members_below key no_members x are e = cc
members_below key (member k t ms) x are e = elim (cases_Bool (bytes_eq k key)) [
  | inl same ↦
      let is = viewed_value t x (sym (ap with_view (cond-true (bytes_eq k key) (Some t) (member_in key ms) same)) ∙ e) in
      (omega (arith, ap size_of is), subst IsValue is are.2)
  | inr other ↦
      let rest = members_below key ms x are.3 (sym (ap with_view (cond-false (bytes_eq k key) (Some t) (member_in key ms) other)) ∙ e) in
      (omega (arith, rest.0), rest.1)
]

pub member_below : (key : List ℕ) (t x : Tree) → IsNode t → seen_member key t ≡ Some x → (size_of x < size_of t) × IsValue x
member_below key null x is e = cc
member_below key (truth b) x is e = cc
member_below key (number n) x is e = cc
member_below key (text t) x is e = cc
member_below key (list items) x is e = cc
member_below key (object ms) x is e = let r = members_below key ms x is.0 e in (omega (arith, r.0), r.1)

pub some_size : (t : Tree) → 1 ≤ size_of t
some_size null = omega arith
some_size (truth b) = omega arith
some_size (number n) = omega arith
some_size (text t) = omega arith
some_size (list items) = omega arith
some_size (object ms) = omega arith
