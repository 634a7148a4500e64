use Rattle.std.proofs.Common.{◌∙◌, ap, length, arith}
use Rattle.shared_door.proofs.Steps.{puts, ends, took}
use Rattle.shared_door.proofs.tickets.Tickets.take.Goals as goal

pub join_seat-requires : goal.join_seat-requires
join_seat-requires g c = let t = c.args.self.now in let words = t.shape.0 in let own = c.args.ticket.is_ticket.0 in
    let number = ap (λ m. m.0.number) t.keeps in let keeps = ap (λ m. m.0.keeps) own in
    (t.shape.1, c.requires.here ∙ t.shape.1, ap (λ m. m.1) own, omega arith, puts t.seat.id c.args.ticket.seat.id t.seat.me.0 c.args.ticket.seat.me.0 number keeps)

pub load-requires : goal.load-requires
load-requires g c = let t = c.args.self.now in let words = t.shape.0 in let own = c.args.ticket.is_ticket in
    let (here, _, is) = c.join_seat.ensures in let seat = c.join_seat.new.seat in
    let keeps = ap (λ m. m.0.keeps) is ∙ ap (λ m. m.0.keeps) t.keeps in
    let number = ap (λ m. m.0.number) is ∙ ap (λ m. m.0.number) own.0 in
    let has = own.1 in
    (here ∙ t.shape.1, omega arith, ends _ seat.id seat.me (omega arith) (omega arith))

pub invariant_of-self : goal.invariant_of-self
invariant_of-self g c = let t = c.args.self.now in let own = c.args.ticket.is_ticket.0 in let (here, _, put) = c.join_seat.ensures in
    let (still, _, end) = c.load.ensures in
    let k = took t.table.shared.table_id.slots c.load.result c.args.ticket.number t.seat.me c.args.ticket.seat.me c.join_seat.new.seat.me c.load.new.seat.me c.args.ticket.came.value t.keeps own put end t.places t.apart in
    record {
      shape = (t.shape.0, still ∙ (here ∙ t.shape.1));
      keeps = k.keeps;
      count = ap length k.given_is ∙ t.count;
      places = k.places;
      apart = k.apart;
    }
