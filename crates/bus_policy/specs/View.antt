-- Askers and verdicts of the code, as the definitions have them.
use Rattle.bus_policy.specs.Verdict as spec
use Rattle.bus_policy.specs.declared.asker.Asker.{Asker}
use Rattle.bus_policy.specs.declared.verdict.Verdict.{Verdict}
use Rattle.bus_policy.specs.declared.verdict.Verdict.TheVariants.{Allowed, DeniedBy, NoAllow}

-- What contracts see of the code's `Asker`: the caller's account, and the bus, source and detail type of the event.
-- Shown by: tables bus_policy.rows: source_and_detail_type_have_to_fit.
abbrev pub asker_of : Asker → spec.Asker
asker_of a = record { account = a.account.now; bus = a.bus.now; source = a.source.now; detail_type = a.detail_type.now }

-- What contracts see of the code's `Verdict`.
-- Shown by: tables bus_policy.rows: the_first_deny_is_reported.
abbrev pub verdict_of : Verdict → spec.Verdict
verdict_of Allowed = spec.allowed
verdict_of (DeniedBy name) = spec.denied_by name.now
verdict_of NoAllow = spec.no_allow
