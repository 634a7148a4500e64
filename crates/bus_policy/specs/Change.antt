-- Statements that are added to a policy, and that are removed.
use Rattle.std.specs.Prelude.{ℕ, Bool, false, ◌||◌, List, [], ◌∷◌, Option, Some, None, codes, if◌then◌else◌, unwrap_or, IsTrue}
use Rattle.json_text.specs.Tree.{Tree, text, object, Items, no_items, item, members_of}
use Rattle.event_shape.specs.Names.{is_account, bus_arn}
use Rattle.json_text.specs.Access.{member_of}
use Rattle.bus_policy.specs.Parts.{statements_of, has_sid, root_arn}
use Rattle.bus_policy.specs.Stored.{default_version, policy_with}

-- The Principal of an Allow that is added: `"*"`, or `AWS` with the ARN of the account's root.
-- Shown by: tables bus_policy.rows: a_statement_is_added_at_the_end.
abbrev pub principal_for : Option (List ℕ) → Tree
principal_for None = text (codes "*")
principal_for (Some account) = object (members_of ((codes "AWS", text (root_arn account)) ∷ []))

-- Everyone, or an account of twelve digits.
-- Shown by: tables bus_policy.rows: a_statement_is_added_at_the_end.
abbrev pub IsAccountGiven : Option (List ℕ) → Type 0
IsAccountGiven None = Unit {0}
IsAccountGiven (Some account) = IsTrue (is_account account)

-- The Allow to put events on a bus.
-- Shown by: tables bus_policy.rows: a_statement_is_added_at_the_end.
abbrev pub allow_for : List ℕ → Option (List ℕ) → List ℕ → Tree
allow_for sid account bus = object (members_of (
    (codes "Sid", text sid)
    ∷ (codes "Effect", text (codes "Allow"))
    ∷ (codes "Principal", principal_for account)
    ∷ (codes "Action", text (codes "events:PutEvents"))
    ∷ (codes "Resource", text (bus_arn bus))
    ∷ []
    ))

abbrev pub with_last : Items → Tree → Items
with_last no_items t = item t no_items
with_last (item s items) t = item s (with_last items t)

-- The policy of this one statement.
-- Shown by: tables bus_policy.rows: a_statement_is_added_at_the_end.
abbrev pub first_policy : Tree → Tree
first_policy statement = policy_with default_version (item statement no_items)

-- The policy with the statement as its last.
-- Shown by: tables bus_policy.rows: a_statement_is_added_at_the_end.
abbrev pub with_statement : Tree → Tree → Tree
with_statement policy statement =
    policy_with (unwrap_or (member_of (codes "Version") policy) default_version) (with_last (statements_of policy) statement)

abbrev pub without_sid : List ℕ → Items → Items
without_sid sid no_items = no_items
without_sid sid (item s items) = if has_sid sid s then without_sid sid items else item s (without_sid sid items)

-- The policy without the statement of a Sid.
-- Shown by: tables bus_policy.rows: names_follow_the_places_after_a_removal.
abbrev pub without_statement : Tree → List ℕ → Tree
without_statement policy sid =
    policy_with (unwrap_or (member_of (codes "Version") policy) default_version) (without_sid sid (statements_of policy))

-- Some statement has the Sid. A name made for a statement without a Sid does not count.
-- Shown by: tables bus_policy.rows: names_follow_the_places_after_a_removal.
abbrev pub some_has_sid : List ℕ → Items → Bool
some_has_sid sid no_items = false
some_has_sid sid (item s items) = has_sid sid s || some_has_sid sid items
