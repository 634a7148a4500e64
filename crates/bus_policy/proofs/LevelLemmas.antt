-- A stored policy has few levels: `stored_levels`.
use Rattle.std.proofs.Common.{◌≡◌, ◌≤◌, ℕ, suc, Bool, true, false, ◌&&◌, List, [], ◌∷◌, ◌++◌, Option, Some, None, codes, refl, sym, ap, ◌∙◌}
use Rattle.std.proofs.Common.{subst, inl, inr, arith}
use Rattle.std.specs.Prelude.{unwrap_or}
use Rattle.std.specs.Str.{bytes_eq}
use Rattle.std.proofs.lemmas.Bool.{cases_Bool, both_ways, cond-true, cond-false}
use Rattle.std.proofs.lemmas.Slice.Eq.{bytes_eq-Decides}
use Rattle.json_text.specs.Tree.{Tree, null, truth, number, text, list, object, Items, no_items, item, Members, no_members, member}
use Rattle.json_text.specs.Compact.{LacksKey, IsValue, AreItems, AreMembers, tree_levels, items_levels, members_levels}
use Rattle.json_text.specs.Access.{member_in, member_of}
use Rattle.bus_policy.specs.Parts.{statements_of, text_passes}
use Rattle.bus_policy.specs.Grammar.{each_item, each_member, is_object_of, are_texts, any_text, member_is, is_version, is_principal_word}
use Rattle.bus_policy.specs.Grammar.{is_principal_value, is_operator, is_key, are_keys, is_condition, is_statement_key, first_fault}
use Rattle.bus_policy.specs.Stored.{default_version, policy_with, IsStored}
use Rattle.bus_policy.proofs.GrammarLemmas.{RightParts, right_parts, first_right, sid_right}
use Rattle.bus_policy.proofs.StoredLemmas.{faultless, versioned, statements_are_values}

parts_true : (a b : Bool) → a && b ≡ true → (a ≡ true) × (b ≡ true)
parts_true true true h = (refl, refl)
parts_true true false h = absurd (cc h)
parts_true false b h = absurd (cc h)

text_levels : (test : List ℕ → Bool) (t : Tree) → text_passes test t ≡ true → tree_levels t ≤ 0
text_levels test (text t) h = omega arith
text_levels test null h = absurd (cc h)
text_levels test (truth b) h = absurd (cc h)
text_levels test (number spelling) h = absurd (cc h)
text_levels test (list items) h = absurd (cc h)
text_levels test (object inside) h = absurd (cc h)

items_flat : (test : List ℕ → Bool) (items : Items) → each_item (text_passes test) items ≡ true → items_levels items ≤ 0
items_flat test no_items h = omega arith
items_flat test (item t items) h =
    let p = parts_true (text_passes test t) (each_item (text_passes test) items) h in
    let a : tree_levels t ≤ 0 = text_levels test t p.0 in
    let b : items_levels items ≤ 0 = items_flat test items p.1 in
    omega arith

texts_levels : (test : List ℕ → Bool) (t : Tree) → are_texts test t ≡ true → tree_levels t ≤ 1
texts_levels test (text t) h = omega arith
texts_levels test (list items) h = let a : items_levels items ≤ 0 = items_flat test items h in omega arith
texts_levels test null h = absurd (cc h)
texts_levels test (truth b) h = absurd (cc h)
texts_levels test (number spelling) h = absurd (cc h)
texts_levels test (object inside) h = absurd (cc h)

-- members whose values have at most n levels
each_levels : (n : ℕ) (test : List ℕ → Tree → Bool)
    → ((key : List ℕ) (t : Tree) → test key t ≡ true → tree_levels t ≤ n) → (ms : Members) → each_member test ms ≡ true
    → members_levels ms ≤ n
each_levels n test each no_members h = omega arith
each_levels n test each (member key t ms) h =
    let p = parts_true (test key t) (each_member test ms) h in
    let a : tree_levels t ≤ n = each key t p.0 in
    let b : members_levels ms ≤ n = each_levels n test each ms p.1 in
    omega arith

object_levels : (n : ℕ) (test : List ℕ → Tree → Bool)
    → ((key : List ℕ) (t : Tree) → test key t ≡ true → tree_levels t ≤ n) → (t : Tree) → is_object_of test t ≡ true
    → tree_levels t ≤ suc n
object_levels n test each (object inside) h = let a : members_levels inside ≤ n = each_levels n test each inside h in omega arith
object_levels n test each null h = absurd (cc h)
object_levels n test each (truth b) h = absurd (cc h)
object_levels n test each (number spelling) h = absurd (cc h)
object_levels n test each (text t) h = absurd (cc h)
object_levels n test each (list items) h = absurd (cc h)

keys_levels : (t : Tree) → are_keys t ≡ true → tree_levels t ≤ 2
keys_levels t h = object_levels 1 (λ key texts. is_key key && are_texts any_text texts)
    (λ key texts g. texts_levels any_text texts (parts_true (is_key key) (are_texts any_text texts) g).1) t h

condition_levels : (t : Tree) → is_condition t ≡ true → tree_levels t ≤ 3
condition_levels t h = object_levels 2 (λ operator keys. is_operator operator && are_keys keys)
    (λ operator keys g. keys_levels keys (parts_true (is_operator operator) (are_keys keys) g).1) t h

principal_levels : (t : Tree) → is_principal_value t ≡ true → tree_levels t ≤ 2
principal_levels (text t) h = omega arith
principal_levels (object no_members) h = omega arith
principal_levels (object (member key u no_members)) h =
    let a : tree_levels u ≤ 1 = texts_levels is_principal_word u (parts_true (bytes_eq key (codes "AWS")) (are_texts is_principal_word u) h).1 in omega arith
principal_levels (object (member key u (member other v ms))) h = absurd (cc h)
principal_levels null h = absurd (cc h)
principal_levels (truth b) h = absurd (cc h)
principal_levels (number spelling) h = absurd (cc h)
principal_levels (list items) h = absurd (cc h)

within : (a n : ℕ) → a ≤ n → n ≤ 3 → a ≤ 3
within a n h g = omega arith

-- the value of each known member
known_levels : (absent : Bool) (n : ℕ) (test : Tree → Bool) → ((t : Tree) → test t ≡ true → tree_levels t ≤ n) → n ≤ 3
    → (o : Option Tree) (t : Tree) → member_is absent test o ≡ true → o ≡ Some t → tree_levels t ≤ 3
known_levels absent n test each small o t h is = within (tree_levels t) n (each t (sym (ap (member_is absent test) is) ∙ h)) small

same_key : (a b : List ℕ) → bytes_eq a b ≡ true → a ≡ b
same_key a b h = (bytes_eq-Decides a b).0 h

member_levels : (earlier : List Tree) (s : Tree) (key : List ℕ) (t : Tree) → sid_right earlier s ≡ true → RightParts s
    → is_statement_key key ≡ true → member_of key s ≡ Some t → tree_levels t ≤ 3
member_levels earlier s key t sid r known is =
    elim (cases_Bool (bytes_eq key (codes "Sid"))) [
      | inl a ↦ known_levels true 0 _ (text_levels _) (omega arith) (member_of (codes "Sid") s) t sid
          (ap (λ k. member_of k s) (sym (same_key key (codes "Sid") a)) ∙ is)
      | inr a ↦ elim (cases_Bool (bytes_eq key (codes "Effect"))) [
        | inl b ↦ known_levels false 0 _ (text_levels _) (omega arith) (member_of (codes "Effect") s) t r.effect
            (ap (λ k. member_of k s) (sym (same_key key (codes "Effect") b)) ∙ is)
        | inr b ↦ elim (cases_Bool (bytes_eq key (codes "Principal"))) [
          | inl c ↦ known_levels false 2 is_principal_value principal_levels (omega arith) (member_of (codes "Principal") s) t
              r.principal (ap (λ k. member_of k s) (sym (same_key key (codes "Principal") c)) ∙ is)
          | inr c ↦ elim (cases_Bool (bytes_eq key (codes "Action"))) [
            | inl d ↦ known_levels false 1 _ (texts_levels any_text) (omega arith) (member_of (codes "Action") s) t
                r.action (ap (λ k. member_of k s) (sym (same_key key (codes "Action") d)) ∙ is)
            | inr d ↦ elim (cases_Bool (bytes_eq key (codes "Resource"))) [
              | inl e ↦ known_levels false 1 _ (texts_levels any_text) (omega arith) (member_of (codes "Resource") s) t
                  r.resource (ap (λ k. member_of k s) (sym (same_key key (codes "Resource") e)) ∙ is)
              | inr e ↦ elim (cases_Bool (bytes_eq key (codes "Condition"))) [
                | inl f ↦ known_levels true 3 is_condition condition_levels (omega arith)
                    (member_of (codes "Condition") s) t r.condition
                    (ap (λ k. member_of k s) (sym (same_key key (codes "Condition") f)) ∙ is)
                | inr f ↦ let unknown : is_statement_key key ≡ false = rw (a, b, c, d, e, f) refl in absurd (both_ways (is_statement_key key) unknown known)
              ]
            ]
          ]
        ]
      ]
    ]

-- a key that is there is one that passes
looked_up : (test : List ℕ → Bool) (ms : Members) (key : List ℕ) (t : Tree) → each_member (λ k u. test k) ms ≡ true
    → member_in key ms ≡ Some t → test key ≡ true
looked_up test no_members key t h is = absurd (cc is)
looked_up test (member name u ms) key t h is =
    let p = parts_true (test name) (each_member (λ k v. test k) ms) h in
    elim (cases_Bool (bytes_eq name key)) [
      | inl same ↦ sym (ap test (same_key name key same)) ∙ p.0
      | inr other ↦ looked_up test ms key t p.1 (sym (cond-false (bytes_eq name key) (Some u) (member_in key ms) other) ∙ is)
    ]

lacks_none : (key : List ℕ) (ms : Members) → LacksKey key ms → member_in key ms ≡ None
lacks_none key no_members h = refl
lacks_none key (member name t ms) h = elim (cases_Bool (bytes_eq name key)) [
  | inl same ↦ absurd (h.0 (sym (same_key name key same)))
  | inr other ↦ cond-false (bytes_eq name key) (Some t) (member_in key ms) other ∙ lacks_none key ms h.1
]

-- members each of whose values is looked up by its key
by_key : (n : ℕ) (ms : Members) → AreMembers ms → ((key : List ℕ) (t : Tree) → member_in key ms ≡ Some t → tree_levels t ≤ n) → members_levels ms ≤ n
by_key n no_members v h = omega arith
by_key n (member name t ms) v h =
    let a : tree_levels t ≤ n = h name t (cond-true (bytes_eq name name) (Some t) (member_in name ms) ((bytes_eq-Decides name name).1 refl)) in
    let b : members_levels ms ≤ n = by_key n ms v.3 (λ key u is. elim (cases_Bool (bytes_eq name key)) [
      | inl same ↦ let none = lacks_none key ms (subst (λ k. LacksKey k ms) (same_key name key same) v.1) in absurd (cc (none, is))
      | inr other ↦ h key u (cond-false (bytes_eq name key) (Some t) (member_in key ms) other ∙ is)
    ]) in
    omega arith

statement_levels : (earlier : List Tree) (s : Tree) → sid_right earlier s ≡ true → RightParts s → IsValue s → tree_levels s ≤ 4
statement_levels earlier null sid r v = omega arith
statement_levels earlier (truth b) sid r v = omega arith
statement_levels earlier (number spelling) sid r v = omega arith
statement_levels earlier (text t) sid r v = omega arith
statement_levels earlier (list items) sid r v = absurd (cc (r.known))
statement_levels earlier (object inside) sid r v =
    let a : members_levels inside ≤ 3 =
    by_key 3 inside v (λ key t is. member_levels earlier (object inside) key t sid r
    (looked_up is_statement_key inside key t r.known is) is) in omega arith

statements_levels : (earlier : List Tree) (ss : Items) → first_fault earlier ss ≡ None → AreItems ss → items_levels ss ≤ 4
statements_levels earlier no_items h v = omega arith
statements_levels earlier (item s ss) h v =
    let p = first_right earlier s ss h in
    let r = right_parts earlier s p.0 in
    let a : tree_levels s ≤ 4 = statement_levels earlier s r.0 r.1 v.0 in
    let b : items_levels ss ≤ 4 = statements_levels (earlier ++ s ∷ []) ss p.1 v.1 in
    omega arith

policy_levels : (version : Tree) (ss : Items) → tree_levels version ≤ 0 → items_levels ss ≤ 4 → tree_levels (policy_with version ss) ≤ 100
policy_levels version ss v s = omega arith

pub stored_levels : (policy : Tree) → IsStored policy → tree_levels policy ≤ 100
stored_levels policy k =
    let parts = faultless policy k.is_policy in
    let version = unwrap_or (member_of (codes "Version") policy) default_version in
    let within_hundred = policy_levels version (statements_of policy) (text_levels is_version version (versioned (member_of (codes "Version") policy) parts.1))
    (statements_levels [] (statements_of policy) parts.2 (statements_are_values policy k.is_value)) in
    subst (λ t. tree_levels t ≤ 100) k.stored within_hundred
