use Rattle.std.proofs.Common.{◌≡◌, ◌∙◌, ap, arith, length, map, subst, sym}
use Rattle.turn_book.specs.Passes.{known_by}
use Rattle.shared_door.specs.declared.acts.Act.{Act}
use Rattle.door_workers.specs.Serving.{AreDone}
use Rattle.door_workers.proofs.ServingLemmas.{many_images}
use Rattle.session_workers.specs.Jobs.{maker, did_by}
use Rattle.session_workers.specs.Places.{lent_of}
use Rattle.session_workers.proofs.ServedLemmas.{done_as}
use Rattle.session_workers.proofs.door.serve_door.Goals as goal

pub returns-clause-owns : goal.returns-clause-owns
returns-clause-owns g c =
    let left = c.serve_placed-serving.result.owns in let owns = c.return_all.new.owns in
    omega (arith, owns.ok, left.ok, many_images lent_of left.items, ap length c.return_all.ensures, c.serve_placed-serving.ensures.owns, c.place_all.ensures.count)

pub returns-clause-served : goal.returns-clause-served
returns-clause-served g c = λ h.
    let s = c.serve_placed-serving in
    let (has, done) = s.ensures.served h in
    let did = did_by g.D.In.Source.gave g.D.Out.Sink.wrote g.C.Clock.gave g.L.Link.exchanges g.L.Link.faults in
    let passes = map (λ p. known_by p.seat) s.result.passes.items in (
      has,
      subst (λ owns. AreDone did has.acts maker c.args.pass.now.seat.me.0.made owns c.return_all.new.owns.items passes) c.place_all.ensures.placed
          (subst (λ owns. AreDone did has.acts maker c.args.pass.now.seat.me.0.made (map lent_of c.place_all.new.placed.items) owns passes) (sym c.return_all.ensures)
          (done_as lent_of did has.acts maker c.args.pass.now.seat.me.0.made c.place_all.new.placed.items s.result.owns.items passes done)),
    )

pub returns-clause-no_memory : goal.returns-clause-no_memory
returns-clause-no_memory g c = λ none.
    let (door, owns, passes, pass) = c.serve_placed-serving.ensures.no_memory none in
    (door, c.return_all.ensures ∙ ap (map lent_of) owns ∙ c.place_all.ensures.placed, passes, pass)
