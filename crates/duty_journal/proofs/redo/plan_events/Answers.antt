use Rattle.std.proofs.Common.{◌≡◌, ◌++◌, Err, inr, map, ap, sym, subst, ◌∙◌, arith}
use Rattle.std.proofs.lemmas.Bool.Decides.{nat_tests}
use Rattle.std.proofs.lemmas.List.{length-map}
use Rattle.router_requests.specs.View.{entry_of}
use Rattle.router_core.specs.Ready.{ArePartsOf}
use Rattle.router_core.proofs.StartLemmas.{events_start_none, made_on}
use Rattle.duty_journal.specs.declared.fault.ReplayFault.TheVariants.{NotAdmitted}
use Rattle.duty_journal.proofs.RedoLemmas.{events_from, events_to, several_events}
use Rattle.duty_journal.proofs.redo.plan_events.Goals as goal

pub returns-in-Ok-clause-ok : goal.returns-in-Ok-clause-ok
returns-in-Ok-clause-ok c =
    let moment = c.args.moment in
    let t = c.args.tables.now in
    let es = map entry_of c.args.entries.now in
    let ok = c.in-Ok.ensures.ok in
    let up = events_from moment es t c.events-number.result c.set.result.now c.events-number.ensures c.set.ensures ok.0 in
    let size = length-map c.args.entries.now entry_of in
    let items = ok.1.1 ∙ ap (λ ps. ps ++ ok.1.0) c.new-parts.ensures.items in (
      inr (omega (arith, size, c.requires.several), grind (arith, nat_tests, size, c.if-entries-gt10.false), up.0),
      up.1,
      (
        subst (ArePartsOf moment t.set es) (sym items) (ok.1.2 t.set),
        made_on moment es c.admit_events.new.parts.items t (events_start_none es up.0),
      ),
    )

pub returns-in-Err-clause-refused : goal.returns-in-Err-clause-refused
returns-in-Err-clause-refused c = λ refused both.
    let moment = c.args.moment in
    let t = c.args.tables.now in
    let es = map entry_of c.args.entries.now in
    let same : c.in-Err.fault ≡ NotAdmitted = cc in
    let all = several_events es (omega (arith, length-map c.args.entries.now entry_of, c.requires.several)) both.0 in
    c.in-Err.ensures.refused (ap Err same)
    (events_to moment es t c.events-number.result c.set.result.now c.events-number.ensures c.set.ensures all both.1)
