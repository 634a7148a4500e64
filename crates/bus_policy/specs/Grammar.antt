-- Which JSON values are policies, and the first fault of any other. The grammar is that of policies in the AWS IAM User Guide, with the
-- differences that docs/CLAIMS.md lists.
use Rattle.std.specs.Prelude.{◌≡◌, ℕ, ◌+◌, Bool, true, false, not, ◌&&◌, ◌||◌, List, [], ◌∷◌, ◌++◌, length, take, drop, find, Option, Some}
use Rattle.std.specs.Prelude.{None, codes, if◌then◌else◌}
use Rattle.std.specs.List.{list_any}
use Rattle.std.specs.Str.{bytes_eq}
use Rattle.json_text.specs.Tree.{Tree, null, truth, number, text, list, object, Items, no_items, item, Members, no_members, member}
use Rattle.event_shape.specs.Names.{is_account}
use Rattle.bus_policy.specs.declared.fault.PolicyCause.{PolicyCause}
use Rattle.bus_policy.specs.declared.fault.PolicyCause.TheVariants.{TooLong, NotJson, TooDeep, KeyTwice, NotObject, BadVersion, BadSid}
use Rattle.bus_policy.specs.declared.fault.PolicyCause.TheVariants.{BadEffect, BadPrincipal, BadAction, BadResource, BadCondition}
use Rattle.bus_policy.specs.declared.fault.PolicyCause.TheVariants.{UnknownMember}
use Rattle.json_text.specs.Access.{is_object, member_of}
use Rattle.bus_policy.specs.Parts.{statements_of, text_passes, has_sid, root_arn}

abbrev pub each_item : (Tree → Bool) → Items → Bool
each_item test no_items = true
each_item test (item t items) = test t && each_item test items

abbrev pub each_member : (List ℕ → Tree → Bool) → Members → Bool
each_member test no_members = true
each_member test (member key t members) = test key t && each_member test members

-- an object, each of whose members passes the test
abbrev pub is_object_of : (List ℕ → Tree → Bool) → Tree → Bool
is_object_of test (object inside) = each_member test inside
is_object_of test null = false
is_object_of test (truth b) = false
is_object_of test (number spelling) = false
is_object_of test (text t) = false
is_object_of test (list items) = false

-- a text that passes the test, or a list of such texts, which may be empty
abbrev pub are_texts : (List ℕ → Bool) → Tree → Bool
are_texts test (text t) = test t
are_texts test (list items) = each_item (text_passes test) items
are_texts test null = false
are_texts test (truth b) = false
are_texts test (number spelling) = false
are_texts test (object inside) = false

abbrev pub any_text : List ℕ → Bool
any_text t = true

-- what an absent member is, and what one that is there has to be
abbrev pub member_is : Bool → (Tree → Bool) → Option Tree → Bool
member_is absent test None = absent
member_is absent test (Some t) = test t

-- an object, or a list of objects
abbrev pub are_statements : Tree → Bool
are_statements (object inside) = true
are_statements (list items) = each_item is_object items
are_statements null = false
are_statements (truth b) = false
are_statements (number spelling) = false
are_statements (text t) = false

-- the two versions of the policy language
abbrev pub is_version : List ℕ → Bool
is_version version = bytes_eq version (codes "2008-10-17") || bytes_eq version (codes "2012-10-17")

-- a text that no earlier statement has as its Sid
abbrev pub is_new_sid : List Tree → List ℕ → Bool
is_new_sid earlier sid = not (list_any (has_sid sid) earlier)

abbrev pub is_effect : List ℕ → Bool
is_effect effect = bytes_eq effect (codes "Allow") || bytes_eq effect (codes "Deny")

-- the root's ARN of the twelve digits after its fixed front
abbrev pub is_root : List ℕ → Bool
is_root word = let account = take 12 (drop 13 word) in is_account account && bytes_eq word (root_arn account)

abbrev pub is_principal_word : List ℕ → Bool
is_principal_word word = bytes_eq word (codes "*") || (is_account word || is_root word)

-- one member `AWS`, with words for accounts
abbrev pub is_one_principal : Members → Bool
is_one_principal (member key t no_members) = bytes_eq key (codes "AWS") && are_texts is_principal_word t
is_one_principal no_members = false
is_one_principal (member key t (member _ _ _)) = false

-- `"*"`, or an object whose one member `AWS` has words for accounts
abbrev pub is_principal_value : Tree → Bool
is_principal_value (text t) = bytes_eq t (codes "*")
is_principal_value (object inside) = is_one_principal inside
is_principal_value null = false
is_principal_value (truth b) = false
is_principal_value (number spelling) = false
is_principal_value (list items) = false

abbrev pub is_operator : List ℕ → Bool
is_operator operator = bytes_eq operator (codes "StringEquals") || bytes_eq operator (codes "StringLike")

abbrev pub is_key : List ℕ → Bool
is_key key = bytes_eq key (codes "events:source") || bytes_eq key (codes "events:detail-type")

-- of each key its texts
abbrev pub are_keys : Tree → Bool
are_keys t = is_object_of (λ key texts. is_key key && are_texts any_text texts) t

-- of each operator its keys
abbrev pub is_condition : Tree → Bool
is_condition t = is_object_of (λ operator keys. is_operator operator && are_keys keys) t

abbrev pub is_statement_key : List ℕ → Bool
is_statement_key key =
    list_any (bytes_eq key) (codes "Sid" ∷ codes "Effect" ∷ codes "Principal" ∷ codes "Action" ∷ codes "Resource" ∷ codes "Condition" ∷ [])

-- The statement, after the statements before it, has a fault of this cause.
-- Shown by: tables bus_policy.rows: the_first_fault_is_reported_at_its_place.
abbrev pub has_fault : List Tree → Tree → PolicyCause → Bool
has_fault earlier s BadSid = not (member_is true (text_passes (is_new_sid earlier)) (member_of (codes "Sid") s))
has_fault earlier s BadEffect = not (member_is false (text_passes is_effect) (member_of (codes "Effect") s))
has_fault earlier s BadPrincipal = not (member_is false is_principal_value (member_of (codes "Principal") s))
has_fault earlier s BadAction = not (member_is false (are_texts any_text) (member_of (codes "Action") s))
has_fault earlier s BadResource = not (member_is false (are_texts any_text) (member_of (codes "Resource") s))
has_fault earlier s BadCondition = not (member_is true is_condition (member_of (codes "Condition") s))
has_fault earlier s UnknownMember = not (is_object_of (λ key t. is_statement_key key) s)
has_fault earlier s TooLong = false
has_fault earlier s NotJson = false
has_fault earlier s TooDeep = false
has_fault earlier s KeyTwice = false
has_fault earlier s NotObject = false
has_fault earlier s BadVersion = false

-- The first fault of a statement, in the order Sid, Effect, Principal, Action, Resource, Condition, any other member.
-- Shown by: tables bus_policy.rows: the_first_fault_is_reported_at_its_place.
abbrev pub statement_fault : List Tree → Tree → Option PolicyCause
statement_fault earlier s =
    find (has_fault earlier s) (BadSid ∷ BadEffect ∷ BadPrincipal ∷ BadAction ∷ BadResource ∷ BadCondition ∷ UnknownMember ∷ [])

-- a statement's fault at its place, or else the first fault of the later statements
abbrev pub fault_or : ℕ → Option PolicyCause → Option (PolicyCause × ℕ) → Option (PolicyCause × ℕ)
fault_or place None others = others
fault_or place (Some cause) others = Some (cause, place)

-- the first faulty statement's fault, after the earlier statements
abbrev pub first_fault : List Tree → Items → Option (PolicyCause × ℕ)
first_fault earlier no_items = None
first_fault earlier (item s statements) =
    fault_or (length earlier + 1) (statement_fault earlier s) (first_fault (earlier ++ s ∷ []) statements)

-- The first fault of a policy's value with the place of its statement from 1, or 0 for the whole policy.
-- Shown by: tables bus_policy.rows: the_first_fault_is_reported_at_its_place.
abbrev pub fault_of : Tree → Option (PolicyCause × ℕ)
fault_of policy =
    if not (member_is false are_statements (member_of (codes "Statement") policy)) then Some (NotObject, 0) else
    if not (member_is true (text_passes is_version) (member_of (codes "Version") policy)) then Some (BadVersion, 0) else
    first_fault [] (statements_of policy)

-- The value has no fault.
-- Shown by: tables bus_policy.rows: the_first_fault_is_reported_at_its_place.
abbrev pub IsPolicy : Tree → Type 0
IsPolicy policy = fault_of policy ≡ None
