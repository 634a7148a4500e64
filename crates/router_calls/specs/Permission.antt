-- What PutPermission and RemovePermission make of a bus's policy.
use Rattle.std.specs.Prelude.{◌≡◌, ℕ, Bool, false, List, Option, Some, None}
use Rattle.json_text.specs.Tree.{Tree, Items, no_items, item}
use Rattle.json_text.specs.Compact.{compact_text}
use Rattle.bus_policy.specs.Parts.{statements_of}
use Rattle.bus_policy.specs.Change.{allow_for, first_policy, with_statement, some_has_sid, without_sid, without_statement}
use Rattle.name_rows.specs.Rows.{named}
use Rattle.rule_table.specs.RuleSet.{Bus, RuleSet}
use Rattle.router_requests.specs.Request.{Action, put_statement, remove_statement}
use Rattle.router_requests.specs.Verdict.{IsPolicyOf}

-- the policy of a bus, which may be missing: the one that its text is, if it has one
abbrev pub IsPolicyThere : Option Bus → Option Tree → Type 0
IsPolicyThere None policy = policy ≡ None
IsPolicyThere (Some bus) policy = IsPolicyOf bus.policy policy

-- The policy of the bus that a PutPermission or RemovePermission of a statement names. Another action needs none.
-- Shown by: tables router_calls.rows: each_change_is_answered.
abbrev pub IsPolicyNamed : RuleSet → Action → Option Tree → Type 0
IsPolicyNamed set (put_statement bus sid account) policy = IsPolicyThere (named (λ b. b.name) bus set.buses) policy
IsPolicyNamed set (remove_statement bus sid) policy = IsPolicyThere (named (λ b. b.name) bus set.buses) policy
IsPolicyNamed set action policy = policy ≡ None

-- Some statement of the policy has this StatementId as its Sid. Without a policy there is no statement.
-- Shown by: tables router_calls.rows: each_change_is_answered.
abbrev pub has_statement : List ℕ → Option Tree → Bool
has_statement sid None = false
has_statement sid (Some policy) = some_has_sid sid (statements_of policy)

-- The policy with one more statement, the last, which lets the account, or everyone, put events on the bus.
-- Shown by: a_statement_put_first.edit.
abbrev pub granting : List ℕ → List ℕ → Option (List ℕ) → Option Tree → Tree
granting bus sid account None = first_policy (allow_for sid account bus)
granting bus sid account (Some policy) = with_statement policy (allow_for sid account bus)

-- The text of a policy if statements are left in it. With its last statement the policy goes.
-- Shown by: tables router_calls.rows: each_change_is_answered.
abbrev pub unless_empty : Items → Tree → Option (List ℕ)
unless_empty no_items policy = None
unless_empty (item statement_value statements) policy = Some (compact_text policy)

-- The policy without the statements of a StatementId.
-- Shown by: tables router_calls.rows: each_change_is_answered.
abbrev pub revoking : List ℕ → Option Tree → Option (List ℕ)
revoking sid None = None
revoking sid (Some policy) = unless_empty (without_sid sid (statements_of policy)) (without_statement policy sid)
