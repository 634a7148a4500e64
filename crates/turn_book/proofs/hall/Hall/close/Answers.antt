use Rattle.std.proofs.Common.{◌≡◌, ℕ, List, All, subst}
use mathlib.Core.List.{IsPrefix}
use Rattle.turn_book.specs.declared.hall.Pass.{Pass}
use Rattle.turn_book.specs.Rule.{IsUnmade, turns_by}
use Rattle.turn_book.specs.Passes.{known_by}
use Rattle.turn_book.proofs.Steps.{learns_twice, of_images}
use Rattle.turn_book.proofs.hall.Hall.close.Goals as goal

pub returns-clause-history : goal.returns-clause-history
returns-clause-history g c = let (_, _, _, number) = c.gather.ensures.same in
    learns_twice g.V.Story.made_by c.args.pass.seat.me.0 c.gather.new.seat.me.0 (g.V.Story.turns c.empty.result) number c.gather.ensures.learns c.empty.ensures.history

pub returns-clause-others : goal.returns-clause-others
returns-clause-others g c =
    let R : Type 0 = Pass g.row.V.Denot g.row.V-Turn.Denot g.V.Story in
    of_images (λ (p : ℕ × List g.row.V-Turn.Denot). IsPrefix p.1 (g.V.Story.turns c.empty.result)
    × (turns_by g.V.Story.made_by p.0 (g.V.Story.turns c.empty.result) ≡ turns_by g.V.Story.made_by p.0 p.1))
    (λ (p : R). known_by p.seat) c.args.others.items c.args.pass.seat.me.0.joined
    (subst (All (λ (p : ℕ × List g.row.V-Turn.Denot). IsPrefix p.1 (g.V.Story.turns c.empty.result)
    × (turns_by g.V.Story.made_by p.0 (g.V.Story.turns c.empty.result) ≡ turns_by g.V.Story.made_by p.0 p.1))) c.gather.ensures.joined c.empty.ensures.joined)

pub returns-clause-unmade : goal.returns-clause-unmade
returns-clause-unmade g c = let (_, _, made, _) = c.gather.ensures.same in
    subst (λ n. IsUnmade g.V.Story.made_by n (g.V.Story.turns c.empty.result)) made c.empty.ensures.unmade
