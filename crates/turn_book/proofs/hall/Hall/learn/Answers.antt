use Rattle.std.proofs.Common.{rules, ap, ◌∙◌, arith}
use Rattle.turn_book.proofs.Steps.{notes, joins, looks}
use Rattle.turn_book.proofs.hall.Hall.learn.Goals as goal

pub split_seat-note-requires : goal.split_seat-note-requires
split_seat-note-requires g c = let words = c.args.self.now.shape.0 in
    (c.requires.here.1, omega arith, notes g.V.Story.turns g.V.Story.made_by g.V.Story.sound c.args.other.now.seat.id c.args.other.now.seat.me.0)

pub join_seat-requires : goal.join_seat-requires
join_seat-requires g c = let seat = c.args.pass.now.seat in let note = c.split_seat-note.result in let words = c.args.self.now.shape.0 in
    let one = c.args.pass.now.is_pass.1 in (
      c.requires.here.0,
      search rules,
      search rules,
      omega arith,
      joins g.V.Story.turns g.V.Story.made_by g.V.Story.sound seat.id note.id seat.me.0 note.me.0 (omega arith) (search rules),
    )

pub load-requires : goal.load-requires
load-requires g c = let seat = c.join_seat.new.seat in let words = c.args.self.now.shape.0 in let one = c.args.pass.now.is_pass.1 in
    let (here, _, is) = c.join_seat.ensures in let all = ap (λ m. m.0.passes) is in
    (here ∙ c.requires.here.0, omega arith, looks g.V.Story.turns g.V.Story.made_by g.V.Story.sound _ seat.id seat.me.0 seat.me.1 (omega arith))
