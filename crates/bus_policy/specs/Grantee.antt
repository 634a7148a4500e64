-- Whom the code's statements allow, and what the code says of a removal.
use Rattle.std.specs.Prelude.{◌≡◌, ◌≢◌, ℕ, true, false, List, Option, Some, None}
use Rattle.json_text.specs.Tree.{Tree, no_items}
use Rattle.bus_policy.specs.declared.change.Grantee.{Grantee}
use Rattle.bus_policy.specs.declared.change.Grantee.TheVariants.{Everyone, Account}
use Rattle.bus_policy.specs.declared.change.Removed.{Removed}
use Rattle.bus_policy.specs.declared.change.Removed.TheVariants.{NotThere, Last, Rest}
use Rattle.bus_policy.specs.Parts.{statements_of}
use Rattle.bus_policy.specs.Change.{some_has_sid, without_sid, without_statement}

-- The account of a `Grantee`, or none for everyone.
-- Shown by: tables bus_policy.rows: a_statement_is_added_at_the_end.
abbrev pub account_given : Grantee → Option (List ℕ)
account_given Everyone = None
account_given (Account account) = Some account.now

-- What a removal reports: no statement has the Sid; or it was the only one; or this policy is left.
-- Shown by: tables bus_policy.rows: names_follow_the_places_after_a_removal.
abbrev pub IsRemoved : Tree → List ℕ → Removed → Type 0
IsRemoved policy sid NotThere = some_has_sid sid (statements_of policy) ≡ false
IsRemoved policy sid Last = (some_has_sid sid (statements_of policy) ≡ true) × (without_sid sid (statements_of policy) ≡ no_items)
IsRemoved policy sid (Rest rest) =
    (some_has_sid sid (statements_of policy) ≡ true) × (without_sid sid (statements_of policy) ≢ no_items) × (rest ≡ without_statement policy sid)
