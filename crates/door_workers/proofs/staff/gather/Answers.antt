use Rattle.std.proofs.Common.{ℕ, All, List, [], ◌∷◌, ◌++◌, map, refl, ap, sym, ◌∙◌, subst}
use Rattle.std.proofs.lemmas.List.Elements.{All-push}
use Rattle.turn_book.specs.declared.hall.Pass.{Pass}
use Rattle.door_workers.specs.Serving.{IsRestingPass}
use Rattle.turn_book.specs.Passes.{known_by}
use Rattle.shared_door.proofs.RestLemmas.{still_unturned}
use Rattle.door_workers.proofs.ServingLemmas.{resting_again, mapped}
use Rattle.door_workers.proofs.staff.gather.Goals as goal

pub returns-clause-passes : goal.returns-clause-passes
returns-clause-passes g c = let (same, turn, learns) = c.meet.ensures.two in let hall = c.args.hall.now.table.shared.table_id in
    let R : Type 0 = Pass g.row.V.Denot g.row.V-Turn.Denot g.V.Story in let Q : R → Type 0 = λ p. IsRestingPass g.V.Served.rests hall p.seat in
    subst (λ (ps : List R). All Q ps) (sym c.push_reserved.ensures.items)
    (All-push Q c.dismiss.new.passes.items c.meet.new.two c.dismiss.ensures.passes
    (resting_again g.V.Story.made_by g.V.Served.rests g.met.V.Served.keeps hall c.args.last.seat c.meet.new.two.seat same turn learns
    (c.requires.last, g.met.V.Served.unturned _ _ c.requires.unturned)))

pub returns-clause-crew : goal.returns-clause-crew
returns-clause-crew g c = let (same, turn, learns) = c.meet.ensures.two in let R : Type 0 = Pass g.row.V.Denot g.row.V-Turn.Denot g.V.Story in
    let f : R → ℕ × List g.row.V-Turn.Denot = λ p. known_by p.seat in let seen = c.meet.new.two.seat.me.0.seen in record {
      workers = map f c.dismiss.new.passes.items;
      crew = c.dismiss.ensures.crew;
      seen = seen;
      passes_are = mapped f c.dismiss.new.passes.items _ c.meet.new.two c.push_reserved.ensures.items
          ∙ ap (λ (n : ℕ). map f c.dismiss.new.passes.items ++ (n, seen) ∷ []) same.1;
      unturned = still_unturned g.V.Story.made_by c.args.last.seat.me.0.number c.args.last.seat.me.0 seen refl learns c.requires.unturned;
    }
