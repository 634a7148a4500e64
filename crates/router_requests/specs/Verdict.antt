-- The verdict on an entry of a PutEvents.
use Rattle.std.specs.Prelude.{◌≡◌, ℕ, List, Option, Some, None, Result, Ok, Err}
use Rattle.json_text.specs.Tree.{Tree}
use Rattle.event_shape.specs.Unnumbered.{Unnumbered}
use Rattle.event_shape.specs.declared.entry.EntryFault.{EntryFault}
use Rattle.bus_policy.specs.Text.{IsPolicyText}
use Rattle.bus_policy.specs.Verdict.{Asker, Verdict, allowed, denied_by, no_allow, IsBusVerdict}
use Rattle.name_rows.specs.Rows.{named}
use Rattle.rule_table.specs.RuleSet.{Bus, RuleSet}
use Rattle.router_requests.specs.declared.seen.SeenVerdict.{SeenVerdict}
use Rattle.router_requests.specs.declared.seen.SeenVerdict.TheVariants.{Fault, NoBus, DeniedBy, NotAllowed, Allowed}

-- the policy of the text, if there is a text
abbrev pub IsPolicyOf : Option (List ℕ) → Option Tree → Type 0
IsPolicyOf None policy = policy ≡ None
IsPolicyOf (Some t) policy = (value : Tree) × IsPolicyText t value × (policy ≡ Some value)

-- who asks to put the event on its bus
abbrev pub asker_for : List ℕ → Unnumbered → Asker
asker_for caller event =
    record { account = caller; bus = event.bus; source = event.event.source; detail_type = event.event.detail_type }

-- a policy's verdict, as an entry's
abbrev pub seen_verdict : Verdict → SeenVerdict
seen_verdict allowed = Allowed
seen_verdict (denied_by statement_name) = DeniedBy statement_name
seen_verdict no_allow = NotAllowed

-- The verdict on an event whose bus is this one, or does not exist.
-- Shown by: a_policy_before_the_bus.edit.
abbrev pub IsVerdictOn : Option Bus → List ℕ → Unnumbered → SeenVerdict → Type 0
IsVerdictOn None caller event seen = seen ≡ NoBus
IsVerdictOn (Some bus) caller event seen = (policy : Option Tree) × (verdict : Verdict) × IsPolicyOf bus.policy policy
    × IsBusVerdict policy (asker_for caller event) verdict × (seen ≡ seen_verdict verdict)

-- The verdict on an entry of a caller: its own fault; or its bus does not exist; or what its bus's policy says of the caller and the event.
-- Shown by: tables router_core.rows: a_policy_decides_who_publishes.
abbrev pub IsEntryVerdict : RuleSet → List ℕ → Result Unnumbered EntryFault → SeenVerdict → Type 0
IsEntryVerdict set caller (Err fault) seen = seen ≡ Fault fault
IsEntryVerdict set caller (Ok event) seen = IsVerdictOn (named (λ b. b.name) event.bus set.buses) caller event seen
