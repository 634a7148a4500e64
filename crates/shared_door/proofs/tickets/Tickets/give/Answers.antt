use Rattle.std.proofs.Common.{ap, ◌∙◌, length, length-append, ◌∷◌, [], arith}
use Rattle.shared_door.proofs.Steps.{adds, cuts, gave}
use Rattle.shared_door.proofs.tickets.Tickets.give.Goals as goal

pub compare_exchange_with-requires : goal.compare_exchange_with-requires
compare_exchange_with-requires g c = let t = c.args.self.now in let words = t.shape.0 in
    (t.shape.1, omega arith, adds (λ x. x.value) _ t.seat.id t.seat.me c.of-came.result (λ n. n) t.keeps)

pub split_seat-seat-requires : goal.split_seat-seat-requires
split_seat-seat-requires g c = let t = c.args.self.now in let words = t.shape.0 in let seat = c.compare_exchange_with.new.seat in
    (c.compare_exchange_with.ensures.0 ∙ t.shape.1, omega arith, cuts seat.id seat.me.0)

pub invariant_of-self : goal.invariant_of-self
invariant_of-self g c = let t = c.args.self.now in let (_, _, found) = c.compare_exchange_with.ensures in let (here, _, cut, _, own) = c.split_seat-seat.ensures in
    let (k, _) = gave (λ x. x.value) t.table.shared.table_id.slots c.compare_exchange_with.result t.seat.me c.compare_exchange_with.new.seat.me c.split_seat-seat.new.seat.me c.split_seat-seat.result.me
    c.of-came.result t.keeps found cut own t.places t.apart in
    let more = ap length k.given_is ∙ length-append t.seat.me.0.given (c.of-came.result.value ∷ []) in let count = t.count in record {
      shape = (t.shape.0, here ∙ (c.compare_exchange_with.ensures.0 ∙ t.shape.1));
      keeps = k.keeps;
      count = omega arith;
      places = k.places;
      apart = k.apart;
    }
