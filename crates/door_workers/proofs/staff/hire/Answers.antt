use Rattle.std.proofs.Common.{◌≡◌, ◌∷◌, ◌++◌, [], All, ℕ, List, Option, map, reverse, option_to_list, ap, sym, ◌∙◌, subst, arith}
use Rattle.std.proofs.lemmas.List.Elements.{All-push}
use Rattle.door_workers.specs.declared.worker.Worker.{Worker}
use Rattle.door_workers.specs.Serving.{IsHired}
use Rattle.turn_book.specs.declared.view.View.{View}
use Rattle.turn_book.specs.Rule.{turns_by}
use Rattle.door_workers.proofs.ServingLemmas.{learns_again, newcomer_rests, mapped, popped, numbers_more, distinct_more, below_more}
use Rattle.door_workers.proofs.staff.hire.Goals as goal

pub loop-own-preserved : goal.loop-own-preserved
loop-own-preserved g c =
    let i = c.loop-own.invariant in let a = c.another-fresh.ensures in let p = c.push_reserved.ensures in let o = c.in-Some.ensures in
    let (there, (stage, ticket, held), number_is) = a.pass in let (stage0, ticket0, held0) = i.turn in let (fresh, free, new) = a.new in
    let W : Type 0 = Worker g.row.V.Denot g.row.Own.Denot g.row.A.Denot g.row.V-Turn.Denot g.V.Story in
    let Q : W → Type 0 = λ w. (turns_by g.V.Story.made_by w.pass.seat.me.0.number w.pass.seat.me.0.seen ≡ []) × (w.lent.value ≡ w.own) in
    let P : W → Type 0 = λ w. IsHired g.V.Served.rests c.args.hall.now.table.shared.table_id c.args.acts.now.name w.pass.seat w.front in
    let number : W → ℕ = λ w. w.pass.seat.me.0.number in let numbered = map number c.loop-own.workers.items in
    let one_more = mapped number c.loop-own.workers.items _ _ p.items ∙ ap (λ (v : View g.row.V-Turn.Denot). numbered ++ v.number ∷ []) new in
    record {
      here = there ∙ i.here;
      turn = (stage ∙ stage0, ticket ∙ ticket0, held ∙ held0);
      number = number_is ∙ i.number;
      more = learns_again g.V.Story.made_by c.args.pass.now.seat.me.0 c.loop-own.pass.seat.me.0 _ i.number i.more a.learns;
      made = omega (arith, a.made, i.made, p.len);
      count = omega (arith, p.len, o.len, o.cases, i.count);
      room = p.capacity ∙ i.room;
      owns_room = o.capacity ∙ i.owns_room;
      fresh = subst (λ (ws : List W). All Q ws) (sym p.items) (All-push Q c.loop-own.workers.items _ i.fresh (
        subst (λ (v : View g.row.V-Turn.Denot). turns_by g.V.Story.made_by v.number v.seen ≡ []) (sym new) a.no_turn,
        c.of.ensures,
      ));
      lent = subst (λ (l : List g.row.Own.Denot). c.args.owns.now.items ≡ c.pop.new.self.items ++ reverse l)
          (sym (mapped (λ (w : W). w.lent.value) c.loop-own.workers.items _ _ p.items ∙ ap (λ (o : g.row.Own.Denot). map (λ (w : W). w.lent.value) c.loop-own.workers.items ++ o ∷ []) c.of.ensures))
          (popped c.args.owns.now.items c.loop-own.owns.items c.pop.new.self.items (map (λ (w : W). w.lent.value) c.loop-own.workers.items) c.in-Some.own i.lent
          (c.pop.ensures.items ∙ ap (λ (o : Option g.row.Own.Denot). c.pop.new.self.items ++ option_to_list o) c.in-Some.is));
      numbers = numbers_more c.args.pass.now.seat.me.0.made c.loop-own.pass.seat.me.0.made _ numbered _ a.made one_more i.numbers;
      distinct = distinct_more numbered _ c.loop-own.pass.seat.me.0.made one_more i.below i.distinct;
      below = below_more numbered _ c.loop-own.pass.seat.me.0.made _ one_more a.made i.below;
      hired = subst (λ (ws : List W). All P ws) (sym p.items) (All-push P c.loop-own.workers.items _ i.hired (
        newcomer_rests g.V.Story.made_by g.V.Served.rests g.met.V.Served.unturned c.args.hall.now.table.shared.table_id c.another-fresh.result.seat
            c.loop-own.pass.seat.me.0.made c.another-fresh.new.pass.seat.me.0.seen (fresh ∙ (i.here ∙ c.requires.here), free) new a.no_turn,
        c.front.ensures.0,
      ));
    }
