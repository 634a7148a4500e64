use Rattle.std.proofs.Common.{◌≡◌, ◌∷◌, ◌++◌, [], ℕ, refl, append-nil, length, rules, All, IfSome, List, Option, map, option_to_list, ap, sym, ◌∙◌, subst, arith}
use Rattle.std.proofs.lemmas.List.Elements.{All-nil, All-push, All-pop}
use Rattle.shared_door.proofs.Keeping.{prefix_self}
use Rattle.turn_book.specs.declared.hall.Pass.{Pass}
use Rattle.shared_door.specs.declared.acts.Act.{Act}
use Rattle.door_workers.specs.declared.worker.Worker.{Worker}
use Rattle.door_workers.specs.Serving.{IsRestingPass, HasWorked, HasCrew}
use Rattle.turn_book.specs.Passes.{known_by}
use Rattle.door_workers.proofs.ServingLemmas.{learns_again, same_again, resting_again, worked_later, crew_none, crew_on, mapped, popped, taken_all, is_empty}
use Rattle.door_workers.proofs.staff.dismiss.Goals as goal

pub loop-worker-preserved : goal.loop-worker-preserved
loop-worker-preserved g c =
    let i = c.loop-worker.invariant in let m = c.meet.ensures in let o = c.in-Some.ensures in
    let first = c.push_reserved.ensures in let second = c.push_reserved-in-Some.ensures in
    let hall = c.args.hall.now.table.shared.table_id in
    let W : Type 0 = Worker g.row.V.Denot g.row.Own.Denot (Act g.row.I.Denot g.row.O.Denot g.row.V-Turn.Denot) g.row.V-Turn.Denot g.V.Story in
    let R : Type 0 = Pass g.row.V.Denot g.row.V-Turn.Denot g.V.Story in
    let P : W → Type 0 = λ w. IsRestingPass g.V.Served.rests hall w.pass.seat in
    let Q : R → Type 0 = λ p. IsRestingPass g.V.Served.rests hall p.seat in
    let P2 : W → Type 0 = λ w. HasWorked g.W.Work.did c.args.acts.now.items w.pass.seat w.lent.value w.own in
    let pair : W → ℕ × g.row.Own.Denot = λ w. (w.pass.seat.me.0.number, w.lent.value) in
    let last_is = c.pop.ensures.items ∙ ap (λ (o : Option W). c.pop.new.self.items ++ option_to_list o) c.in-Some.is in
    let (left2, last2) = All-pop P2 c.loop-worker.workers.items c.pop.new.self.items c.pop.result c.pop.ensures.items i.worked in
    let worked = subst (λ (r : Option W). IfSome r P2) c.in-Some.is last2 in
    let (gone, split, crew) = i.crew in let one = c.in-Some.worker in
    let (left, last) = All-pop P c.loop-worker.workers.items c.pop.new.self.items c.pop.result c.pop.ensures.items i.workers in
    let resting = subst (λ (r : Option W). IfSome r P) c.in-Some.is last in
    let (same, (stage1, ticket1, held1), learns1) = m.one in
    let (same2, turn2, learns2) = m.two in
    let (stage0, ticket0, held0) = i.turn in let (table0, number0, passes0, made0) = i.same in
    record {
      same = same_again c.args.pass.now.seat c.loop-worker.pass.seat c.meet.new.one.seat i.same same;
      turn = (stage1 ∙ stage0, ticket1 ∙ ticket0, held1 ∙ held0);
      more = learns_again g.V.Story.made_by c.args.pass.now.seat.me.0 c.loop-worker.pass.seat.me.0 _ number0 i.more learns1;
      workers = left;
      worked = left2;
      crew = (
        gone ++ pair one ∷ [],
        popped _ (map pair c.loop-worker.workers.items) (map pair c.pop.new.self.items) gone (pair one) split (mapped pair c.pop.new.self.items _ one last_is),
        crew_on g.W.Work.did g.V.Story.made_by c.args.acts.now.items gone c.loop-worker.owns.items _ (map (λ (p : R). known_by p.seat) c.loop-worker.passes.items) _
            one.pass.seat c.meet.new.two.seat one.lent.value one.own crew
            (worked_later g.W.Work.did g.V.Story.made_by g.met.W.Work.lasts c.args.acts.now.items one.pass.seat c.meet.new.two.seat one.lent.value one.own same2.1 learns2 worked)
            same2.1 first.items (mapped (λ (p : R). known_by p.seat) c.loop-worker.passes.items _ c.meet.new.two second.items),
      );
      passes = subst (λ (ps : List R). All Q ps) (sym second.items)
          (All-push Q c.loop-worker.passes.items c.meet.new.two i.passes
          (resting_again g.V.Story.made_by g.V.Served.rests g.met.V.Served.keeps hall c.in-Some.worker.pass.seat c.meet.new.two.seat same2 turn2 learns2 resting));
      count = omega (arith, second.len, o.cases, i.count);
      owns_count = omega (arith, first.len, o.cases, i.owns_count);
      room = second.capacity ∙ i.room;
      owns_room = first.capacity ∙ i.owns_room;
    }

pub loop-worker-init : goal.loop-worker-init
loop-worker-init g c =
    let R : Type 0 = Pass g.row.V.Denot g.row.V-Turn.Denot g.V.Story in let (owns, passes) = c.requires.none in record {
      same = (refl, refl, refl, refl);
      turn = (refl, refl, refl);
      more = (prefix_self c.args.pass.now.seat.me.0.seen, refl);
      workers = c.requires.workers;
      worked = c.requires.worked;
      crew = ([], sym (append-nil _), crew_none g.W.Work.did c.args.acts.now.items c.args.owns.now.items _ owns (ap (map (λ (p : R). known_by p.seat)) passes));
      passes = subst (λ (ps : List R). All (λ (p : R). IsRestingPass g.V.Served.rests c.args.hall.now.table.shared.table_id p.seat) ps) (sym passes) (All-nil _);
      count = refl;
      owns_count = refl;
      room = refl;
      owns_room = refl;
    }

pub meet-requires : goal.meet-requires
meet-requires g c =
    let W : Type 0 = Worker g.row.V.Denot g.row.Own.Denot (Act g.row.I.Denot g.row.O.Denot g.row.V-Turn.Denot) g.row.V-Turn.Denot g.V.Story in
    let P : W → Type 0 = λ w. IsRestingPass g.V.Served.rests c.args.hall.now.table.shared.table_id w.pass.seat in
    let (left, last) = All-pop P c.loop-worker.workers.items c.pop.new.self.items c.pop.result c.pop.ensures.items c.loop-worker.invariant.workers in
    let resting = subst (λ (r : Option W). IfSome r P) c.in-Some.is last in
    record { here = (c.loop-worker.invariant.same.0 ∙ c.requires.here, resting.0.0) }

pub returns-clause-crew : goal.returns-clause-crew
returns-clause-crew g c =
    let W : Type 0 = Worker g.row.V.Denot g.row.Own.Denot (Act g.row.I.Denot g.row.O.Denot g.row.V-Turn.Denot) g.row.V-Turn.Denot g.V.Story in
    let R : Type 0 = Pass g.row.V.Denot g.row.V-Turn.Denot g.V.Story in
    let pair : W → ℕ × g.row.Own.Denot = λ w. (w.pass.seat.me.0.number, w.lent.value) in
    let (gone, split, crew) = c.loop-worker.invariant.crew in
    let none : length c.loop-worker.workers.items ≡ 0 = search rules in
    subst (λ (h : List (ℕ × g.row.Own.Denot)). HasCrew g.W.Work.did c.args.acts.now.items h c.loop-worker.owns.items (map (λ (p : R). known_by p.seat) c.loop-worker.passes.items))
    (taken_all (map pair c.args.workers.items) (map pair c.loop-worker.workers.items) gone split (ap (map pair) (is_empty c.loop-worker.workers.items none))) crew
