-- What is stored of a policy is a policy in the form in which it is stored: `stored_is_stored`.
use Rattle.std.proofs.Common.{◌≡◌, ℕ, Bool, true, false, not, cond, List, [], Option, Some, None, codes, refl}
use Rattle.std.specs.Prelude.{unwrap_or}
use Rattle.std.specs.Str.{bytes_eq}
use Rattle.std.proofs.lemmas.Bool.{cond_both}
use Rattle.json_text.specs.Tree.{Tree, null, truth, number, text, list, object, Items, Members, no_members, member}
use Rattle.json_text.specs.Compact.{IsValue, AreItems, AreMembers}
use Rattle.json_text.proofs.WrittenUtf8.{small_utf8}
use Rattle.bus_policy.specs.declared.fault.PolicyCause.{PolicyCause}
use Rattle.bus_policy.specs.declared.fault.PolicyCause.TheVariants.{NotObject, BadVersion}
use Rattle.json_text.specs.Access.{member_in, member_of}
use Rattle.bus_policy.specs.Parts.{statements_in, statements_of, text_passes}
use Rattle.bus_policy.specs.Grammar.{each_item, are_statements, member_is, is_version, first_fault, IsPolicy}
use Rattle.json_text.specs.Access.{is_object}
use Rattle.bus_policy.specs.Stored.{default_version, policy_with, stored_of, IsStored}

-- the value is one, if there is one
abbrev pub AreValue : Option Tree → Type 0
AreValue None = Unit {0}
AreValue (Some t) = IsValue t

abbrev chosen : Bool → Bool → Option (PolicyCause × ℕ) → Option (PolicyCause × ℕ)
chosen a b rest = cond (not a) (Some (NotObject, 0)) (cond (not b) (Some (BadVersion, 0)) rest)

none_chosen : (a b : Bool) (rest : Option (PolicyCause × ℕ)) → chosen a b rest ≡ None → (a ≡ true) × (b ≡ true) × (rest ≡ None)
none_chosen true true rest h = (refl, refl, h)
none_chosen true false rest h = cc
none_chosen false b rest h = cc

-- the parts of a policy without a fault
pub faultless : (t : Tree) → IsPolicy t
    → (member_is false are_statements (member_of (codes "Statement") t) ≡ true)
    × (member_is true (text_passes is_version) (member_of (codes "Version") t) ≡ true)
    × (first_fault [] (statements_of t) ≡ None)
faultless t h = none_chosen _ _ _ h

faultless_with : (version : Tree) (ss : Items) → text_passes is_version version ≡ true
    → each_item is_object ss ≡ true → first_fault [] ss ≡ None → IsPolicy (policy_with version ss)
faultless_with version ss v o f = rw (o, v) f

pub objects : (o : Option Tree) → member_is false are_statements o ≡ true → each_item is_object (statements_in o) ≡ true
objects None h = refl
objects (Some null) h = refl
objects (Some (truth b)) h = refl
objects (Some (number spelling)) h = refl
objects (Some (text t)) h = refl
objects (Some (list items)) h = h
objects (Some (object inside)) h = refl

pub versioned : (o : Option Tree) → member_is true (text_passes is_version) o ≡ true → text_passes is_version (unwrap_or o default_version) ≡ true
versioned None h = refl
versioned (Some t) h = h

member_value : (key : List ℕ) (ms : Members) → AreMembers ms → AreValue (member_in key ms)
member_value key no_members h = tt
member_value key (member name t ms) h =
    cond_both (bytes_eq name key) (Some t) (member_in key ms) AreValue (λ _. h.2) (λ _. member_value key ms h.3)

pub member_of_value : (key : List ℕ) (t : Tree) → IsValue t → AreValue (member_of key t)
member_of_value key null h = tt
member_of_value key (truth b) h = tt
member_of_value key (number spelling) h = tt
member_of_value key (text t) h = tt
member_of_value key (list items) h = tt
member_of_value key (object inside) h = member_value key inside h

statements_value : (o : Option Tree) → AreValue o → AreItems (statements_in o)
statements_value None h = tt
statements_value (Some null) h = tt
statements_value (Some (truth b)) h = tt
statements_value (Some (number spelling)) h = tt
statements_value (Some (text t)) h = tt
statements_value (Some (list items)) h = h
statements_value (Some (object inside)) h = (h, tt)

pub statements_are_values : (t : Tree) → IsValue t → AreItems (statements_of t)
statements_are_values t h = statements_value (member_of (codes "Statement") t) (member_of_value (codes "Statement") t h)

pub version_value : (o : Option Tree) → AreValue o → IsValue (unwrap_or o default_version)
version_value None h = small_utf8 (codes "2012-10-17") refl
version_value (Some t) h = h

policy_value : (version : Tree) (ss : Items) → IsValue version → AreItems ss → IsValue (policy_with version ss)
policy_value version ss v s = (small_utf8 (codes "Version") refl, ((λ e. cc), tt), v, (small_utf8 (codes "Statement") refl, tt, s, tt))

pub stored_with : (version : Tree) (ss : Items) → text_passes is_version version ≡ true → each_item is_object ss ≡ true
    → first_fault [] ss ≡ None → IsValue version → AreItems ss → IsStored (policy_with version ss)
stored_with version ss v o f value items = record { is_policy = faultless_with version ss v o f; stored = refl; is_value = policy_value version ss value items }

pub stored_is_stored : (t : Tree) → IsPolicy t → IsValue t → IsStored (stored_of t)
stored_is_stored t h value =
    let parts = faultless t h in
    stored_with (unwrap_or (member_of (codes "Version") t) default_version) (statements_of t)
    (versioned (member_of (codes "Version") t) parts.1) (objects (member_of (codes "Statement") t) parts.0) parts.2
    (version_value (member_of (codes "Version") t) (member_of_value (codes "Version") t value)) (statements_are_values t value)
