-- A value is one pattern at most: `one_pattern_of`; and so is a text: `one_pattern`.
use Rattle.std.proofs.Common.{◌≡◌, ℕ, Bool, true, false, List, [], ◌∷◌, ◌++◌, Option, Some, None, inl, inr, sym, ap, ◌∙◌, subst}
use Rattle.std.proofs.lemmas.Bool.{both_ways}
use Rattle.std.proofs.lemmas.Option.{same_Some}
use Rattle.json_text.specs.Tree.{Tree, number, text, list, object, Items, no_items, item, Members, no_members, member}
use Rattle.json_text.specs.Node.{Node, value_of}
use Rattle.json_text.proofs.OneValue.{one_value}
use Rattle.pattern_meaning.specs.Pattern.{Test, wildcard, anything_but, numeric, cidr, tests_of, Pattern, pattern, Field, tests, below, fields_of, branches_of}
use Rattle.pattern_meaning.specs.declared.comparison.Comparison.{Comparison}
use Rattle.pattern_read.specs.Kind.{named_in}
use Rattle.pattern_read.specs.Test.{IsOperand, IsTest, IsNamedTest, IsTextTest, AreTextTests, AreExcluded, AreComparisons, IsComparison, AreEach}
use Rattle.json_text.specs.Access.{trees_in}
use Rattle.pattern_read.specs.Value.{IsPatternOf, AreMembers, IsFieldOf, IsOr, AreBranches}
use Rattle.pattern_read.specs.Text.{IsPatternText}
use Rattle.pattern_read.specs.declared.kind.Kind.{Kind}
use Rattle.pattern_read.specs.declared.kind.Kind.TheVariants.{Prefix, Suffix, EqualsIgnoreCase, Wildcard, AnythingBut, Numeric, Cidr}
use Rattle.pattern_read.proofs.OneLeafLemmas.{one_wildcard, one_number, one_network}

each_one : {X Y : Type 0} (Is : X → Y → Type 0) → ((x : X) (y z : Y) → Is x y → Is x z → y ≡ z)
    → (xs : List X) (ys zs : List Y) → AreEach Is xs ys → AreEach Is xs zs → ys ≡ zs
each_one Is one [] ys zs h g = h ∙ sym g
each_one Is one (x ∷ xs) ys zs h g =
    h.2 ∙ ap (λ y. y ∷ h.1) (one x h.0 g.0 h.3 g.3) ∙ ap (λ r. g.0 ∷ r) (each_one Is one xs h.1 g.1 h.4 g.4) ∙ sym g.2

one_text_test : (kind : Kind) (t : List ℕ) (a b : Test) → IsTextTest kind t a → IsTextTest kind t b → a ≡ b
one_text_test Prefix t a b h g = h ∙ sym g
one_text_test Suffix t a b h g = h ∙ sym g
one_text_test EqualsIgnoreCase t a b h g = h ∙ sym g
one_text_test Wildcard t a b h g = h.2 ∙ ap wildcard (one_wildcard t g.0 h.0 g.1 h.1) ∙ sym g.2
one_text_test _ t a b h g = absurd h

one_excluded_object : (named : Option (Kind × Tree)) (a b : List Test) → AreTextTests named a → AreTextTests named b → a ≡ b
one_excluded_object None a b h g = absurd h
one_excluded_object (Some named) a b h g =
    let texts = same_Some h.0 g.0 (sym h.1 ∙ g.1) in
    each_one (IsTextTest named.0) (one_text_test named.0) g.0 a b (subst (λ ts. AreEach (IsTextTest named.0) ts a) texts h.2) g.2

one_excluded : (t : Tree) (a b : List Test) → AreExcluded t a → AreExcluded t b → a ≡ b
one_excluded (object ms) a b h g = one_excluded_object (named_in ms) a b h g
one_excluded t a b h g = same_Some a b (sym h ∙ g)

one_comparison : (x y : Tree) (a b : Comparison) → IsComparison x y a → IsComparison x y b → a ≡ b
one_comparison (text name) (number spelling) a b h g =
    let operator = same_Some a.operator b.operator (sym h.0 ∙ g.0) in
    let bound = one_number spelling a.bound b.bound h.1 g.1 in
    λ i. record { operator = operator i; bound = bound i }
one_comparison _ _ a b h g = absurd h

one_numeric : (t : Tree) (a b : List Comparison) → AreComparisons t a → AreComparisons t b → a ≡ b
one_numeric (list (item x (item y no_items))) a b h g = h.2 ∙ ap (λ c. c ∷ []) (one_comparison x y h.0 g.0 h.1 g.1) ∙ sym g.2
one_numeric (list (item x (item y (item z (item w no_items))))) a b h g =
    h.4 ∙ ap (λ c. c ∷ h.1 ∷ []) (one_comparison x y h.0 g.0 h.2 g.2) ∙ ap (λ c. g.0 ∷ c ∷ []) (one_comparison z w h.1 g.1 h.3 g.3) ∙ sym g.4
one_numeric _ a b h g = absurd h

one_operand : (kind : Kind) (t : Tree) (a b : Test) → IsOperand kind t a → IsOperand kind t b → a ≡ b
one_operand Wildcard (text t) a b h g = one_text_test Wildcard t a b h g
one_operand AnythingBut t a b h g = h.2 ∙ ap (λ ts. anything_but (tests_of ts)) (one_excluded t h.0 g.0 h.1 g.1) ∙ sym g.2
one_operand Numeric t a b h g = h.2 ∙ ap numeric (one_numeric t h.0 g.0 h.1 g.1) ∙ sym g.2
one_operand Cidr (text t) a b h g = h.2 ∙ ap cidr (one_network t h.0 g.0 h.1 g.1) ∙ sym g.2
one_operand kind t a b h g = same_Some a b (sym h ∙ g)

one_named : (named : Option (Kind × Tree)) (a b : Test) → IsNamedTest named a → IsNamedTest named b → a ≡ b
one_named None a b h g = absurd h
one_named (Some named) a b h g = one_operand named.0 named.1 a b h g

one_test : (t : Tree) (a b : Test) → IsTest t a → IsTest t b → a ≡ b
one_test (list items) a b h g = absurd h
one_test (object ms) a b h g = one_named (named_in ms) a b h g
one_test t a b h g = h ∙ sym g

mutual
  pub one_pattern_of : (root : Bool) (t : Tree) (p q : Pattern) → IsPatternOf root t p → IsPatternOf root t q → p ≡ q
  one_pattern_of root (object ms) p q h g =
      let one = one_members root ms h.1.0 g.1.0 h.1.1 g.1.1 h.1.2 g.1.2 in
      h.1.3 ∙ ap (λ fs. pattern (fields_of fs) (branches_of h.1.1)) one.0 ∙ ap (λ bs. pattern (fields_of g.1.0) (branches_of bs)) one.1 ∙ sym g.1.3
  one_pattern_of root _ p q h g = absurd h

  one_members : (root : Bool) (ms : Members) (fs gs : List (List ℕ × Field)) (bs cs : List Pattern)
      → AreMembers root ms fs bs → AreMembers root ms gs cs → (fs ≡ gs) × (bs ≡ cs)
  one_members root no_members fs gs bs cs h g = (h.0 ∙ sym g.0, h.1 ∙ sym g.1)
  one_members root (member key t ms) fs gs bs cs h g = elim h [
    | inl (mine, rest, matched, made, more, e) ↦ elim g [
      | inl (mine2, rest2, matched2, made2, more2, e2) ↦
          let one = one_members root ms fs gs rest rest2 more more2 in
          (one.0, e ∙ ap (λ m. m ++ rest) (one_or root t mine mine2 made made2) ∙ ap (λ r. mine2 ++ r) one.1 ∙ sym e2)
      | inr (f2, rest2, unlike2, may2, made2, more2, e2) ↦ absurd (both_ways _ unlike2 matched)
    ]
    | inr (f, rest, unlike, may, made, more, e) ↦ elim g [
      | inl (mine2, rest2, matched2, made2, more2, e2) ↦ absurd (both_ways _ unlike matched2)
      | inr (f2, rest2, unlike2, may2, made2, more2, e2) ↦
          let one = one_members root ms rest rest2 bs cs more more2 in
          (e ∙ ap (λ x. (key, x) ∷ rest) (one_field t f f2 made made2) ∙ ap (λ r. (key, f2) ∷ r) one.0 ∙ sym e2, one.1)
    ]
  ]

  one_field : (t : Tree) (f g : Field) → IsFieldOf t f → IsFieldOf t g → f ≡ g
  one_field (list items) f g h k = h.1.2 ∙ ap tests (each_one IsTest one_test (trees_in items) h.1.0 k.1.0 h.1.1 k.1.1) ∙ sym k.1.2
  one_field (object ms) f g h k =
      let m = h.1.1 in
      let n = k.1.1 in
      let one = one_members false ms m.0 n.0 m.1 n.1 m.2 n.2 in
      let same : h.0 ≡ k.0 =
      m.3 ∙ ap (λ fs. pattern (fields_of fs) (branches_of m.1)) one.0 ∙ ap (λ bs. pattern (fields_of n.0) (branches_of bs)) one.1 ∙ sym n.3 in
      h.2 ∙ ap below same ∙ sym k.2
  one_field _ f g h k = absurd h

  one_or : (root : Bool) (t : Tree) (bs cs : List Pattern) → IsOr root t bs → IsOr root t cs → bs ≡ cs
  one_or root (list items) bs cs h g = one_branches root items bs cs h.1 g.1
  one_or root _ bs cs h g = absurd h

  one_branches : (root : Bool) (items : Items) (bs cs : List Pattern) → AreBranches root items bs → AreBranches root items cs → bs ≡ cs
  one_branches root no_items bs cs h g = h ∙ sym g
  one_branches root (item t items) bs cs h g =
      h.2 ∙ ap (λ p. p ∷ h.1) (one_pattern_of root t h.0 g.0 h.3 g.3) ∙ ap (λ r. g.0 ∷ r) (one_branches root items h.1 g.1 h.4 g.4) ∙ sym g.2

-- a text is one pattern only
pub one_pattern : {text : List ℕ} {p q : Pattern} → IsPatternText text p → IsPatternText text q → p ≡ q
one_pattern {text} {p} {q} a b =
    let same : a.node ≡ b.node = one_value 100 100 text a.node b.node a.spelled b.spelled in
    one_pattern_of true (value_of a.node) p q a.stands_for (subst (λ (n : Node). IsPatternOf true (value_of n) q) (sym same) b.stands_for)
