use Rattle.std.proofs.Common.{◌≡◌, ◌∙◌, ap, arith}
use Rattle.turn_book.proofs.Steps.{looks, makes}
use Rattle.turn_book.proofs.hall.Hall.another.Goals as goal

pub load-pass-requires : goal.load-pass-requires
load-pass-requires g c = let seat = c.args.pass.now.seat in let words = c.args.self.now.shape.0 in let (_, one, _) = c.args.pass.now.is_pass in
    (c.requires.here, omega arith, looks g.V.Story.turns g.V.Story.made_by g.V.Story.sound _ seat.id seat.me.0 seat.me.1 (omega arith))

pub split_seat-seat-requires : goal.split_seat-seat-requires
split_seat-seat-requires g c = let seat = c.load-pass.new.seat in let words = c.args.self.now.shape.0 in
    let (here, _, (log, is, _, _, _)) = c.load-pass.ensures in
    let same : seat.me.0.made ≡ c.args.pass.now.seat.me.0.made = ap (λ m. m.0.made) is in
    let maker = c.requires.maker in
    (here ∙ c.requires.here, omega arith, makes g.V.Story.turns g.V.Story.made_by g.V.Story.sound seat.id seat.me.0 (omega arith))
