-- Policies that are changed stay policies: `allowed_first`, `allowed_more`, `without_stored`.
use Rattle.std.proofs.Common.{◌≡◌, ℕ, Bool, true, false, not, ◌||◌, ◌&&◌, List, [], ◌∷◌, ◌++◌, length, Option, Some, None, codes, refl, ap, ◌∙◌, arith, nat_eq}
use Rattle.std.specs.Prelude.{unwrap_or, nat_lt, IsTrue}
use Rattle.std.specs.List.{list_any, list_all}
use Rattle.std.specs.Char.{is_ascii_digit}
use Rattle.std.specs.Str.{IsUtf8, bytes_eq}
use Rattle.std.proofs.lemmas.Bool.{cond_both, both_ways}
use Rattle.std.proofs.lemmas.Slice.Eq.{bytes_eq-Decides}
use Rattle.std.proofs.lemmas.Bool.Decides.{nat_tests}
use Rattle.std.proofs.lemmas.Str.{IsUtf8-append}
use Rattle.json_text.specs.Tree.{Tree, Items, no_items, item}
use Rattle.json_text.specs.Compact.{IsValue, AreItems}
use Rattle.json_text.proofs.WrittenUtf8.{small_utf8}
use Rattle.event_shape.specs.Names.{is_account, bus_arn}
use Rattle.json_text.specs.Access.{member_of}
use Rattle.bus_policy.specs.Parts.{statements_of, has_sid, root_arn}
use Rattle.bus_policy.specs.Grammar.{each_item, is_principal_value, statement_fault, first_fault}
use Rattle.json_text.specs.Access.{is_object}
use Rattle.bus_policy.specs.Stored.{default_version, policy_with, IsStored}
use Rattle.bus_policy.specs.Change.{IsAccountGiven, principal_for, allow_for, with_last, first_policy, with_statement, without_sid}
use Rattle.bus_policy.specs.Change.{without_statement, some_has_sid}
use Rattle.bus_policy.proofs.AccountLemmas.{is_root_of}
use Rattle.bus_policy.proofs.GrammarLemmas.{parts_right, right_first, last_right, fewer_right, trees_in}
use Rattle.bus_policy.proofs.StoredLemmas.{faultless, objects, versioned, version_value, member_of_value, statements_are_values, stored_with}

apart : (a b : List ℕ) → bytes_eq a b ≡ false → a ≡ b → ⊥
apart a b differ e = both_ways (bytes_eq a b) differ ((bytes_eq-Decides a b).1 e)

both_true : (a b : Bool) → a ≡ true → b ≡ true → a && b ≡ true
both_true a b h g = rw (h, g) refl

parts_true : (a b : Bool) → a && b ≡ true → (a ≡ true) × (b ≡ true)
parts_true true true h = (refl, refl)
parts_true true false h = absurd (cc h)
parts_true false b h = absurd (cc h)

objects_with : (ss : Items) (s : Tree) → each_item is_object ss ≡ true → is_object s ≡ true → each_item is_object (with_last ss s) ≡ true
objects_with no_items s h g = both_true (is_object s) true g refl
objects_with (item t ss) s h g = let p = parts_true (is_object t) (each_item is_object ss) h in
    both_true (is_object t) (each_item is_object (with_last ss s)) p.0 (objects_with ss s p.1 g)

objects_without : (sid : List ℕ) (ss : Items) → each_item is_object ss ≡ true → each_item is_object (without_sid sid ss) ≡ true
objects_without sid no_items h = refl
objects_without sid (item t ss) h =
    let p = parts_true (is_object t) (each_item is_object ss) h in
    cond_both (has_sid sid t) (without_sid sid ss) (item t (without_sid sid ss)) (λ x. each_item is_object x ≡ true)
    (λ _. objects_without sid ss p.1) (λ _. both_true (is_object t) (each_item is_object (without_sid sid ss)) p.0 (objects_without sid ss p.1))

values_with : (ss : Items) (s : Tree) → AreItems ss → IsValue s → AreItems (with_last ss s)
values_with no_items s h g = (g, tt)
values_with (item t ss) s h g = (h.0, values_with ss s h.1 g)

values_without : (sid : List ℕ) (ss : Items) → AreItems ss → AreItems (without_sid sid ss)
values_without sid no_items h = tt
values_without sid (item t ss) h =
    cond_both (has_sid sid t) (without_sid sid ss) (item t (without_sid sid ss)) AreItems
    (λ _. values_without sid ss h.1) (λ _. (h.0, values_without sid ss h.1))

-- a stored policy with other statements
other_statements : (policy : Tree) (ss : Items) → IsStored policy → each_item is_object ss ≡ true → first_fault [] ss ≡ None → AreItems ss
    → IsStored (policy_with (unwrap_or (member_of (codes "Version") policy) default_version) ss)
other_statements policy ss k o f v =
    let version = member_of (codes "Version") policy in
    stored_with (unwrap_or version default_version) ss (versioned version (faultless policy k.is_policy).1) o f
    (version_value version (member_of_value (codes "Version") policy k.is_value)) v

with_stored : (policy s : Tree) → IsStored policy → statement_fault (trees_in (statements_of policy)) s ≡ None
    → is_object s ≡ true → IsValue s → IsStored (with_statement policy s)
with_stored policy s k right o v =
    let parts = faultless policy k.is_policy in
    let ss = statements_of policy in
    other_statements policy (with_last ss s) k (objects_with ss s (objects (member_of (codes "Statement") policy) parts.0) o) (last_right [] ss s parts.2 right)
    (values_with ss s (statements_are_values policy k.is_value) v)

pub without_stored : (policy : Tree) (sid : List ℕ) → IsStored policy → IsStored (without_statement policy sid)
without_stored policy sid k =
    let parts = faultless policy k.is_policy in
    let ss = statements_of policy in
    other_statements policy (without_sid sid ss) k
    (objects_without sid ss (objects (member_of (codes "Statement") policy) parts.0)) (fewer_right sid ss parts.2)
    (values_without sid ss (statements_are_values policy k.is_value))

first_stored : (s : Tree) → statement_fault [] s ≡ None → is_object s ≡ true → IsValue s → IsStored (first_policy s)
first_stored s right o v =
    stored_with default_version (item s no_items) refl (both_true (is_object s) true o refl) (right_first [] s no_items right refl)
    (small_utf8 (codes "2012-10-17") refl) (v, tt)

or_right : (a b : Bool) → b ≡ true → a || b ≡ true
or_right true b h = refl
or_right false b h = h

principal_right : (account : Option (List ℕ)) → IsAccountGiven account → is_principal_value (principal_for account) ≡ true
principal_right None h = refl
principal_right (Some account) h = or_right (is_account (root_arn account)) _ (is_root_of (root_arn account) account refl ∙ h)

-- the Sids of a list of statements
sids_in : (sid : List ℕ) (ss : Items) → list_any (has_sid sid) (trees_in ss) ≡ some_has_sid sid ss
sids_in sid no_items = refl
sids_in sid (item s ss) = ap (λ b. has_sid sid s || b) (sids_in sid ss)

allow_right : (earlier : List Tree) (sid : List ℕ) (account : Option (List ℕ)) (bus : List ℕ) → list_any (has_sid sid) earlier ≡ false → IsAccountGiven account
    → statement_fault earlier (allow_for sid account bus) ≡ None
allow_right earlier sid account bus fresh given =
    parts_right earlier (allow_for sid account bus) (ap not fresh)
    (record { effect = refl; principal = principal_right account given; action = refl; resource = refl; condition = refl; known = refl })

digit_small : (b : ℕ) → is_ascii_digit b ≡ true → nat_lt b 128 ≡ true
digit_small b h = grind (arith, nat_tests)

digits_small : (a : List ℕ) → list_all is_ascii_digit a ≡ true → list_all (λ b. nat_lt b 128) a ≡ true
digits_small [] h = refl
digits_small (b ∷ bs) h = let p = parts_true (is_ascii_digit b) (list_all is_ascii_digit bs) h in
    both_true (nat_lt b 128) (list_all (λ c. nat_lt c 128) bs) (digit_small b p.0) (digits_small bs p.1)

root_utf8 : (account : List ℕ) → IsTrue (is_account account) → IsUtf8 (root_arn account)
root_utf8 account h =
    IsUtf8-append (codes "arn:aws:iam::") (account ++ codes ":root") (small_utf8 (codes "arn:aws:iam::") refl)
    (IsUtf8-append account (codes ":root")
    (small_utf8 account (digits_small account
    (parts_true (nat_eq (length account) 12) (list_all is_ascii_digit account) h).1))
    (small_utf8 (codes ":root") refl))

principal_value : (account : Option (List ℕ)) → IsAccountGiven account → IsValue (principal_for account)
principal_value None h = small_utf8 (codes "*") refl
principal_value (Some account) h = (small_utf8 (codes "AWS") refl, tt, root_utf8 account h, tt)

bus_utf8 : (bus : List ℕ) → IsUtf8 bus → IsUtf8 (bus_arn bus)
bus_utf8 bus h = IsUtf8-append (codes "arn:aws:events:us-east-1:111122223333:event-bus/") bus
    (small_utf8 (codes "arn:aws:events:us-east-1:111122223333:event-bus/") refl) h

allow_value : (sid : List ℕ) (account : Option (List ℕ)) (bus : List ℕ) → IsUtf8 sid → IsAccountGiven account → IsUtf8 bus → IsValue (allow_for sid account bus)
allow_value sid account bus s given b = (
  small_utf8 (codes "Sid") refl,
  (apart _ _ refl, (apart _ _ refl, (apart _ _ refl, (apart _ _ refl, tt)))),
  s,
  (
    small_utf8 (codes "Effect") refl,
    (apart _ _ refl, (apart _ _ refl, (apart _ _ refl, tt))),
    small_utf8 (codes "Allow") refl,
    (
      small_utf8 (codes "Principal") refl,
      (apart _ _ refl, (apart _ _ refl, tt)),
      principal_value account given,
      (
        small_utf8 (codes "Action") refl,
        (apart _ _ refl, tt),
        small_utf8 (codes "events:PutEvents") refl,
        (
          small_utf8 (codes "Resource") refl,
          tt,
          bus_utf8 bus b,
          tt,
        ),
      ),
    ),
  ),
)

pub allowed_first : (sid : List ℕ) (account : Option (List ℕ)) (bus : List ℕ) → IsUtf8 sid → IsAccountGiven account
    → IsUtf8 bus → IsStored (first_policy (allow_for sid account bus))
allowed_first sid account bus s given b =
    first_stored (allow_for sid account bus) (allow_right [] sid account bus refl given) refl (allow_value sid account bus s given b)

pub allowed_more : (policy : Tree) (sid : List ℕ) (account : Option (List ℕ)) (bus : List ℕ) → IsStored policy → some_has_sid sid (statements_of policy) ≡ false
    → IsUtf8 sid → IsAccountGiven account → IsUtf8 bus → IsStored (with_statement policy (allow_for sid account bus))
allowed_more policy sid account bus k fresh s given b =
    with_stored policy (allow_for sid account bus) k
    (allow_right (trees_in (statements_of policy)) sid account bus (sids_in sid (statements_of policy) ∙ fresh)
    given) refl
    (allow_value sid account bus s given b)
