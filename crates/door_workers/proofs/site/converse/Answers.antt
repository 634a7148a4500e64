use Rattle.shared_door.proofs.RestLemmas.{still_rests}
use Rattle.std.proofs.Common.{ap, sym, subst, ◌∙◌}
use Rattle.atomic_table.specs.Seated.{TableId}
use Rattle.door_workers.specs.Serving.{Session}
use Rattle.door_workers.proofs.ServingLemmas.{among_later, ended_now, same_session, worked_more, worked_later}
use Rattle.door_workers.proofs.site.converse.Goals as goal

pub returns-clause-rests : goal.returns-clause-rests
returns-clause-rests g c = let ((_, number, _, _), _, learns) = c.back-front.ensures.pass in
    still_rests g.V.Story.made_by g.V.Served.rests g.met.V.Served.keeps c.serve-cut.new.pass.seat.me.0 c.back-front.new.session.seat.me.0 number learns c.serve-cut.ensures.rests

pub returns-clause-worked : goal.returns-clause-worked
returns-clause-worked g c =
    let w = c.args.worker.now in let x = c.args.connection in let s = c.serve-cut in let b = c.back-front in let l = c.learn in
    let (v, is, added) = b.ensures.acts in let ((_, number, _, _), _, learns) = b.ensures.pass in let (_, _, mine, theirs) = l.ensures in
    let one : Session g.row.D-In.Denot g.row.D-Out.Denot g.row.V-Turn.Denot = record {
      number = c.number-number.result;
      pass = w.pass.seat.me.0.number;
      came = (x.input, x.output);
      went = (s.new.input, s.new.output);
      cut = s.result;
      before = w.pass.seat.me.0.seen;
    } in
    let there = among_later b.result.items l.new.self.items theirs one (ended_now _ b.result.items v one (b.ensures.front.1 ∙ added)
    (same_session _ _ _ _ _ _ _ _ _ _ _ _ (is.number ∙ sym c.number-number.ensures) (is.pass_is ∙ s.ensures.pass.0.1) (ap (λ a. a.came.value) is.arrival ∙ c.requires.came) is.went is.cut_is
    (is.before_is ∙ c.turns_seen-before.ensures))) in
    worked_later g.W.Work.did g.V.Story.made_by g.met.W.Work.lasts l.new.self.items s.new.pass.seat b.new.session.seat w.lent.value s.new.own number learns
    (worked_more g.W.Work.did g.V.Story.made_by w.front.items l.new.self.items mine w.pass.seat s.new.pass.seat w.lent.value w.own s.new.own one
    s.ensures.pass.0.1 c.requires.worked s.ensures.did there)

pub serve-cut-requires-clause-works : goal.serve-cut-requires-clause-works
serve-cut-requires-clause-works g c = subst (λ (t : TableId). g.W.Work.works c.args.site.work.now t) (sym c.requires.pass.0) c.requires.works
