-- What a spelled text represents is a value: `text_is_value`; its levels are no more than the text's: `text_within`.
use Rattle.std.proofs.Common.{◌≡◌, ◌≢◌, ℕ, max, ◌+◌, ◌≤◌, true, false, List, [], ◌∷◌, length, sym, arith, IsUtf8}
use Rattle.std.proofs.{lemmas.Bool.cond_both, lemmas.Bool.both_ways, lemmas.Slice.Eq.bytes_eq-Decides}
use Rattle.std.specs.Str.{bytes_eq}
use Rattle.json_text.specs.{Tree.Tree, Tree.items_of, Tree.members_of}
use Rattle.json_text.specs.Node.{Node, null_node, truth_node, number_node, text_node, list_node, object_node, Nodes, no_nodes, node, Fields, no_fields, field}
use Rattle.json_text.specs.Node.{with_member, value_of, values_of, members_after, levels_of, levels_of_nodes, levels_of_fields}
use Rattle.json_text.specs.Grammar.{SpellsValue, SpellsItems, SpellsMoreItems, SpellsMembers, SpellsMoreMembers, IsText}
use Rattle.json_text.specs.Compact.{LacksKey, IsValue, AreItems, AreMembers, tree_levels, items_levels, members_levels}
use Rattle.json_text.proofs.CharacterReads.{characters_utf8}

-- another key is lacking as before
lacks_with : (k key : List ℕ) (t : Tree) (ms : List (List ℕ × Tree)) → k ≢ key → LacksKey k (members_of ms) → LacksKey k (members_of (with_member key t ms))
lacks_with k key t [] apart h = (apart, tt)
lacks_with k key t (m ∷ ms) apart h = cond_both (bytes_eq key m.0) ((m.0, t) ∷ ms) (m ∷ with_member key t ms) (λ x. LacksKey k (members_of x)) (λ _. (h.0, h.1))
    (λ _. (h.0, lacks_with k key t ms apart h.1))

-- one member more, or another value of one
with_member_are : (key : List ℕ) (t : Tree) (ms : List (List ℕ × Tree)) → IsUtf8 key → IsValue t → AreMembers (members_of ms)
    → AreMembers (members_of (with_member key t ms))
with_member_are key t [] u v h = (u, tt, v, tt)
with_member_are key t (m ∷ ms) u v h =
    cond_both (bytes_eq key m.0) ((m.0, t) ∷ ms) (m ∷ with_member key t ms) (λ x. AreMembers (members_of x)) (λ _. (h.0, h.1, v, h.3))
    (λ f. let other = λ (e : m.0 ≡ key). both_ways (bytes_eq key m.0) f ((bytes_eq-Decides key m.0).1 (sym e)) in
    (h.0, lacks_with m.0 key t ms other h.1, h.2, with_member_are key t ms u v h.3))

mutual
  node_is_value : (n : Node) (at : ℕ) (bytes : List ℕ) → SpellsValue at bytes n → IsValue (value_of n)
  node_is_value null_node at bytes h = tt
  node_is_value (truth_node true) at bytes h = tt
  node_is_value (truth_node false) at bytes h = tt
  node_is_value (number_node spelling) at bytes h = h.1
  node_is_value (text_node t) at bytes h = characters_utf8 h.2
  node_is_value (list_node ns) at bytes h = nodes_are_items ns (at + 1) h.0 h.2
  node_is_value (object_node fs) at bytes h = fields_are_members fs (at + 1) h.0 h.2

  nodes_are_items : (ns : Nodes) (at : ℕ) (bytes : List ℕ) → SpellsItems at bytes ns → AreItems (items_of (values_of ns))
  nodes_are_items no_nodes at bytes h = tt
  nodes_are_items (node n ns) at bytes h = (node_is_value n (at + length h.3.0) h.3.1 h.3.5, more_nodes_are_items ns (at + length h.0) h.1 h.4)

  more_nodes_are_items : (ns : Nodes) (at : ℕ) (bytes : List ℕ) → SpellsMoreItems at bytes ns → AreItems (items_of (values_of ns))
  more_nodes_are_items no_nodes at bytes h = tt
  more_nodes_are_items (node n ns) at bytes h = (node_is_value n (at + 1 + length h.3.0) h.3.1 h.3.5, more_nodes_are_items ns (at + 1 + length h.0) h.1 h.4)

  fields_are_members : (fs : Fields) (at : ℕ) (bytes : List ℕ) → SpellsMembers at bytes fs → AreMembers (members_of (members_after [] fs))
  fields_are_members no_fields at bytes h = tt
  fields_are_members (field place key n fs) at bytes h = more_fields_are_members fs (at + length h.0) h.1 ((key, value_of n) ∷ []) h.4
      (characters_utf8 h.3.7.2, tt, node_is_value n (at + length h.3.0 + length h.3.1 + length h.3.2 + 1 + length h.3.9.0) h.3.9.1 h.3.9.5, tt)

  more_fields_are_members : (fs : Fields) (at : ℕ) (bytes : List ℕ) (ms : List (List ℕ × Tree)) → SpellsMoreMembers at bytes fs → AreMembers (members_of ms)
      → AreMembers (members_of (members_after ms fs))
  more_fields_are_members no_fields at bytes ms h g = g
  more_fields_are_members (field place key n fs) at bytes ms h g = more_fields_are_members fs (at + 1 + length h.0) h.1 (with_member key (value_of n) ms) h.4
      (with_member_are key (value_of n) ms (characters_utf8 h.3.7.2)
      (node_is_value n (at + 1 + length h.3.0 + length h.3.1 + length h.3.2 + 1 + length h.3.9.0) h.3.9.1 h.3.9.5) g)

pub text_is_value : (levels : ℕ) (bytes : List ℕ) (n : Node) → IsText levels bytes n → IsValue (value_of n)
text_is_value levels bytes n h = let s = h.spelled in node_is_value n (0 + length s.0) s.1 s.5

with_member_levels : (key : List ℕ) (t : Tree) (ms : List (List ℕ × Tree))
    → members_levels (members_of (with_member key t ms)) ≤ max (members_levels (members_of ms)) (tree_levels t)
with_member_levels key t [] = omega arith
with_member_levels key t (m ∷ ms) = cond_both (bytes_eq key m.0) ((m.0, t) ∷ ms) (m ∷ with_member key t ms)
    (λ x. members_levels (members_of x) ≤ max (members_levels (members_of (m ∷ ms))) (tree_levels t)) (λ _. omega arith)
    (λ _. let h : members_levels (members_of (with_member key t ms)) ≤ max (members_levels (members_of ms)) (tree_levels t) = with_member_levels key t ms in
    omega arith)

mutual
  levels_kept : (n : Node) → tree_levels (value_of n) ≤ levels_of n
  levels_kept null_node = omega arith
  levels_kept (truth_node b) = omega arith
  levels_kept (number_node spelling) = omega arith
  levels_kept (text_node t) = omega arith
  levels_kept (list_node ns) = omega (arith, levels_of_items_kept ns)
  levels_kept (object_node fs) = omega (arith, levels_of_members_kept fs [])

  levels_of_items_kept : (ns : Nodes) → items_levels (items_of (values_of ns)) ≤ levels_of_nodes ns
  levels_of_items_kept no_nodes = omega arith
  levels_of_items_kept (node n ns) = omega (arith, levels_kept n, levels_of_items_kept ns)

  levels_of_members_kept : (fs : Fields) (ms : List (List ℕ × Tree))
      → members_levels (members_of (members_after ms fs)) ≤ max (members_levels (members_of ms)) (levels_of_fields fs)
  levels_of_members_kept no_fields ms = omega arith
  levels_of_members_kept (field place key n fs) ms =
      omega (arith, levels_of_members_kept fs (with_member key (value_of n) ms), with_member_levels key (value_of n) ms, levels_kept n)

pub text_within : (levels : ℕ) (bytes : List ℕ) (n : Node) → IsText levels bytes n → tree_levels (value_of n) ≤ levels
text_within levels bytes n h = let a : tree_levels (value_of n) ≤ levels_of n = levels_kept n in let b : levels_of n ≤ levels = h.within in omega arith
