use Rattle.std.proofs.Common.{◌≡◌, Err, ap, sym, subst}
use Rattle.router_requests.specs.View.{accepted_of, entry_of}
use Rattle.router_core.specs.Admitted.{IsEntryAdmitted}
use Rattle.router_core.specs.Ready.{IsPartOf, IsMadeOn}
use Rattle.router_requests.specs.declared.batch.Entry.{Entry}
use Rattle.duty_journal.specs.declared.fault.ReplayFault.TheVariants.{NotAdmitted}
use Rattle.duty_journal.proofs.RedoLemmas.{event_from}
use Rattle.duty_journal.proofs.admit.admit_one.Goals as goal

pub returns-in-Ok-clause-ok : goal.returns-in-Ok-clause-ok
returns-in-Ok-clause-ok c =
    let t = c.args.tables.now in
    subst (λ (e : Entry). IsEntryAdmitted c.args.moment (entry_of e) t × (IsPartOf c.args.moment t.set (entry_of e) c.in-Ok.part × IsMadeOn c.args.moment t (entry_of e) c.in-Ok.part)) (sym c.in-Control.is)
    (c.in-Ok.ensures.ok.0, (c.in-Ok.ensures.ok.1, tt))

pub returns-in-Err-clause-refused : goal.returns-in-Err-clause-refused
returns-in-Err-clause-refused c = λ refused admitted.
    let t = c.args.tables.now in
    let same : c.in-Err.fault ≡ NotAdmitted = cc in
    c.in-Err.ensures.refused (ap Err same) (subst (λ (e : Entry). IsEntryAdmitted c.args.moment (entry_of e) t) c.in-Control.is admitted)

pub returns-in-Ok-admit_event-clause-ok : goal.returns-in-Ok-admit_event-clause-ok
returns-in-Ok-admit_event-clause-ok c =
    let t = c.args.tables.now in
    let ok = c.in-Ok-admit_event.ensures.ok in
    let admitted = event_from t (accepted_of c.in-Accepted.event) c.events-number.result c.set.result.now c.events-number.ensures
    c.set.ensures ok.0 in
    subst (λ (e : Entry). IsEntryAdmitted c.args.moment (entry_of e) t × (IsPartOf c.args.moment t.set (entry_of e) c.in-Ok-admit_event.part × IsMadeOn c.args.moment t (entry_of e) c.in-Ok-admit_event.part)) (sym c.in-Accepted.is)
    (admitted, (ok.1 t.set, tt))

pub returns-in-Ok-admit_start-clause-ok : goal.returns-in-Ok-admit_start-clause-ok
returns-in-Ok-admit_start-clause-ok c =
    let t = c.args.tables.now in
    subst (λ (e : Entry). IsEntryAdmitted c.args.moment (entry_of e) t
    × (IsPartOf c.args.moment t.set (entry_of e) c.in-Ok-admit_start.part × IsMadeOn c.args.moment t (entry_of e) c.in-Ok-admit_start.part))
    (sym c.in-ReplayStarted.is) c.in-Ok-admit_start.ensures.ok

pub returns-in-Err-admit_start-clause-refused : goal.returns-in-Err-admit_start-clause-refused
returns-in-Err-admit_start-clause-refused c = λ refused admitted.
    let t = c.args.tables.now in
    let same : c.in-Err-admit_start.fault ≡ NotAdmitted = cc in
    c.in-Err-admit_start.ensures.refused (ap Err same) (subst (λ (e : Entry). IsEntryAdmitted c.args.moment (entry_of e) t) c.in-ReplayStarted.is admitted)

pub returns-in-Ok-admit_step-clause-ok : goal.returns-in-Ok-admit_step-clause-ok
returns-in-Ok-admit_step-clause-ok c =
    let t = c.args.tables.now in
    let ok = c.in-Ok-admit_step.ensures.ok in
    subst (λ (e : Entry). IsEntryAdmitted c.args.moment (entry_of e) t
    × (IsPartOf c.args.moment t.set (entry_of e) c.in-Ok-admit_step.part × IsMadeOn c.args.moment t (entry_of e) c.in-Ok-admit_step.part))
    (sym c.in-ReplayStepped.is) (ok.0, (ok.1 c.args.moment, tt))

pub returns-in-Err-admit_step-clause-refused : goal.returns-in-Err-admit_step-clause-refused
returns-in-Err-admit_step-clause-refused c = λ refused admitted.
    let t = c.args.tables.now in
    let same : c.in-Err-admit_step.fault ≡ NotAdmitted = cc in
    c.in-Err-admit_step.ensures.refused (ap Err same) (subst (λ (e : Entry). IsEntryAdmitted c.args.moment (entry_of e) t) c.in-ReplayStepped.is admitted)
