-- The parts of a policy's JSON value.
use Rattle.std.specs.Prelude.{ℕ, Bool, false, List, ◌++◌, Option, Some, None, codes}
use Rattle.std.specs.Str.{bytes_eq}
use Rattle.json_text.specs.Tree.{Tree, null, truth, number, text, list, object, Items, no_items, item}
use Rattle.json_text.specs.Access.{member_of}

-- The statements of a policy, in order: one object is a list of one. What is no policy may have none.
abbrev pub statements_in : Option Tree → Items
statements_in None = no_items
statements_in (Some (object inside)) = item (object inside) no_items
statements_in (Some (list items)) = items
statements_in (Some null) = no_items
statements_in (Some (truth b)) = no_items
statements_in (Some (number spelling)) = no_items
statements_in (Some (text t)) = no_items

-- The statements of a policy; a single object is a list of one.
-- Shown by: tables bus_policy.rows: version_and_statements_are_stored_and_read_back.
abbrev pub statements_of : Tree → Items
statements_of policy = statements_in (member_of (codes "Statement") policy)

-- the value is a text that passes the test
abbrev pub text_passes : (List ℕ → Bool) → Tree → Bool
text_passes test (text t) = test t
text_passes test null = false
text_passes test (truth b) = false
text_passes test (number spelling) = false
text_passes test (list items) = false
text_passes test (object inside) = false

-- the member is there, and is this text
abbrev pub is_text : List ℕ → Option Tree → Bool
is_text t None = false
is_text t (Some value) = text_passes (λ other. bytes_eq other t) value

-- The statement has this Sid.
-- Shown by: tables bus_policy.rows: names_follow_the_places_after_a_removal.
abbrev pub has_sid : List ℕ → Tree → Bool
has_sid sid statement = is_text sid (member_of (codes "Sid") statement)

-- The statement has this Effect.
-- Shown by: tables bus_policy.rows: one_account_is_allowed_but_for_one_source.
abbrev pub has_effect : List ℕ → Tree → Bool
has_effect effect statement = is_text effect (member_of (codes "Effect") statement)

-- The ARN of an account's root, which represents the account: `arn:aws:iam::444455556666:root`.
-- Shown by: tables bus_policy.rows: a_policy_of_the_guides_form_is_decided_by_all_its_statements.
abbrev pub root_arn : List ℕ → List ℕ
root_arn account = codes "arn:aws:iam::" ++ (account ++ codes ":root")
