use Rattle.router_history.specs.Held.{held_claim}
use Rattle.router_sessions.proofs.SeatedLemmas.{record_made, record_refused}
use Rattle.router_sessions.proofs.delivery.SeatedDutyBook.record_of.Goals as goal

pub returns-clause-sound : goal.returns-clause-sound
returns-clause-sound g c =
    let (seated, calls) = c.requires.sound in
    ((calls.records _ _ c.args.held c.args.outcome c.record_of.result seated c.requires.holds c.requires.fits c.record_of.ensures).0, calls)

pub returns-clause-rests : goal.returns-clause-rests
returns-clause-rests g c =
    let (seated, calls) = c.requires.sound in
    (calls.records _ _ c.args.held c.args.outcome c.record_of.result seated c.requires.holds c.requires.fits c.record_of.ensures).1

pub returns-clause-recorded : goal.returns-clause-recorded
returns-clause-recorded g c =
    let (seated, calls) = c.requires.sound in
    record_made g.N.Naming.seat (held_claim c.args.held) c.args.outcome _ _ c.record_of.result
    (calls.records _ _ c.args.held c.args.outcome c.record_of.result seated c.requires.holds c.requires.fits c.record_of.ensures).2

pub returns-clause-refused : goal.returns-clause-refused
returns-clause-refused g c =
    let (seated, calls) = c.requires.sound in
    record_refused g.N.Naming.seat (held_claim c.args.held) c.args.outcome _ _ c.record_of.result
    (calls.records _ _ c.args.held c.args.outcome c.record_of.result seated c.requires.holds c.requires.fits c.record_of.ensures).2
