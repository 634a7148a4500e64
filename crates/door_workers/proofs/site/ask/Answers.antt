use Rattle.std.proofs.Common.{sym, subst}
use Rattle.atomic_table.specs.Seated.{TableId}
use Rattle.std.proofs.lemmas.Bool.{MatchBool-at_true, MatchBool-at_false}
use Rattle.shared_door.proofs.RestLemmas.{still_rests}
use Rattle.door_workers.proofs.ServingLemmas.{worked_later, is_knocked}
use Rattle.door_workers.proofs.site.ask.Goals as goal

pub returns-then-goes_on-clause-rests : goal.returns-then-goes_on-clause-rests
returns-then-goes_on-clause-rests g c =
    let ((_, first, _, _), _, one) = c.goes_on.ensures.pass in let ((_, second, _, _), _, two) = c.knock.ensures.pass in
    let rests = still_rests g.V.Story.made_by g.V.Served.rests g.met.V.Served.keeps in
    rests c.goes_on.new.pass.seat.me.0 c.knock.new.pass.seat.me.0 second two
    (rests c.args.worker.now.pass.seat.me.0 c.goes_on.new.pass.seat.me.0 first one c.requires.rests)

pub returns-then-goes_on-clause-worked : goal.returns-then-goes_on-clause-worked
returns-then-goes_on-clause-worked g c =
    let ((_, first, _, _), _, one) = c.goes_on.ensures.pass in let ((_, second, _, _), _, two) = c.knock.ensures.pass in let w = c.args.worker.now in
    let later = worked_later g.W.Work.did g.V.Story.made_by g.met.W.Work.lasts w.front.items in
    later c.goes_on.new.pass.seat c.knock.new.pass.seat w.lent.value w.own second two
    (later w.pass.seat c.goes_on.new.pass.seat w.lent.value w.own first one c.requires.worked)

pub returns-then-goes_on-clause-knocked : goal.returns-then-goes_on-clause-knocked
returns-then-goes_on-clause-knocked g c = let k = c.knock in
    is_knocked g.N.Naming.tickets g.N.Naming.acts _ _ k.new.pass.seat.me.0.seen k.result k.ensures.knocks k.ensures.seen.1

pub returns-else-goes_on-clause-rests : goal.returns-else-goes_on-clause-rests
returns-else-goes_on-clause-rests g c =
    let ((_, first, _, _), _, one) = c.goes_on.ensures.pass in let ((_, second, _, _), _, two) = c.stop.ensures.pass in
    let rests = still_rests g.V.Story.made_by g.V.Served.rests g.met.V.Served.keeps in
    rests c.goes_on.new.pass.seat.me.0 c.stop.new.caller.seat.me.0 second two
    (rests c.args.worker.now.pass.seat.me.0 c.goes_on.new.pass.seat.me.0 first one c.requires.rests)

pub returns-else-goes_on-clause-worked : goal.returns-else-goes_on-clause-worked
returns-else-goes_on-clause-worked g c =
    let ((_, first, _, _), _, one) = c.goes_on.ensures.pass in let ((_, second, _, _), _, two) = c.stop.ensures.pass in let w = c.args.worker.now in
    let later = worked_later g.W.Work.did g.V.Story.made_by g.met.W.Work.lasts w.front.items in
    later c.goes_on.new.pass.seat c.stop.new.caller.seat w.lent.value w.own second two
    (later w.pass.seat c.goes_on.new.pass.seat w.lent.value w.own first one c.requires.worked)

pub knock-requires-clause-goes_on : goal.knock-requires-clause-goes_on
knock-requires-clause-goes_on g c κs lives = let seen = c.goes_on.new.pass.seat.me.0.seen in
    MatchBool-at_true (¬ g.V.Served.stops seen) (g.V.Served.stops seen) c.if-goes_on.true c.goes_on.ensures.stops

pub stop-requires-clause-stops : goal.stop-requires-clause-stops
stop-requires-clause-stops g c κs lives = let seen = c.goes_on.new.pass.seat.me.0.seen in
    MatchBool-at_false (¬ g.V.Served.stops seen) (g.V.Served.stops seen) c.if-goes_on.false c.goes_on.ensures.stops

pub goes_on-requires-clause-works : goal.goes_on-requires-clause-works
goes_on-requires-clause-works g c = subst (λ (t : TableId). g.W.Work.works c.args.site.work.now t) (sym c.requires.pass.0) c.requires.works
