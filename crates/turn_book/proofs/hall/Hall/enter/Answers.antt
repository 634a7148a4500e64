use Rattle.std.proofs.Common.{◌∷◌, Some, sym, ap, ◌∙◌, arith}
use Rattle.atomic_table.specs.Table.{rest}
use Rattle.turn_book.proofs.Steps.{comes, if_equal}
use Rattle.turn_book.proofs.hall.Hall.enter.Goals as goal

pub load-requires : goal.load-requires
load-requires g c = let seat = c.args.pass.now.seat in let words = c.args.self.now.shape.0 in let one = c.args.pass.now.is_pass.1 in
    (c.requires.here, omega arith, comes g.V.Story.turns g.V.Story.made_by g.V.Story.sound _ seat.id seat.me.0 seat.me.1 c.requires.waits.0 (omega arith))

pub exchange-requires : goal.exchange-requires
exchange-requires g c = let (here, _, then) = c.load.ensures in let (
  x,
  is,
  _,
  _,
) = if_equal _ _ _ _ (c.if-load-ticket.true ∙ sym c.requires.waits.1) then in
    (here ∙ c.requires.here, (Some x, ap (λ m. m.1) is ∙ sym (ap (λ m. (0, Some x) ∷ rest m.1) is)))
