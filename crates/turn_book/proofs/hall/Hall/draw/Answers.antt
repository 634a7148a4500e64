use Rattle.std.proofs.Common.{arith}
use Rattle.turn_book.proofs.Steps.{asks}
use Rattle.turn_book.proofs.hall.Hall.draw.Goals as goal

pub compare_exchange-found-requires : goal.compare_exchange-found-requires
compare_exchange-found-requires g c = let seat = c.args.pass.now.seat in let words = c.args.self.now.shape.0 in let one = c.args.pass.now.is_pass.1 in (
  c.requires.here,
  omega arith,
  asks g.V.Story.turns g.V.Story.made_by g.V.Story.sound _ seat.id c.peek-ticket.result seat.me.0 seat.me.1 c.if-ticket-lt-LAST_TICKET.true c.requires.free.0 (omega arith),
)
