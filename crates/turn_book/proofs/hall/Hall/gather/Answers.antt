use Rattle.std.proofs.Common.{rules, ◌≡◌, [], ◌∷◌, ◌++◌, length, map, IfSome, sym, ap, ◌∙◌, subst, arith, append_assoc, length-append}
use Rattle.std.proofs.lemmas.List.Elements.{All-pop}
use Rattle.turn_book.specs.Rule.{Learns}
use Rattle.turn_book.specs.Passes.{known_by, IsFree}
use Rattle.turn_book.proofs.Steps.{gathers, looks, gathered, learns_twice}
use Rattle.turn_book.proofs.hall.Hall.gather.Goals as goal

pub join_seat-requires : goal.join_seat-requires
join_seat-requires g c = let seat = c.loop-other.seat in let other = c.in-Some.other in let words = c.args.self.now.shape.0 in
    let (here, _, _, (one, _), _, rest, _) = c.loop-other.invariant in
    let (_, last) = All-pop (λ p. (p.seat.table_id ≡ c.args.self.now.table.shared.table_id) × IsFree p.seat) c.loop-other.others.items c.pop.new.self.items c.pop.result c.pop.ensures.items rest in
    let (_, single, _) = c.in-Some.other.is_pass in
    let (there, (idle, none)) = subst (λ r. IfSome r (λ p. (p.seat.table_id ≡ c.args.self.now.table.shared.table_id) × IsFree p.seat)) c.in-Some.is last in (
      here ∙ c.requires.here,
      there,
      none,
      omega arith,
      gathers g.V.Story.turns g.V.Story.made_by g.V.Story.sound seat.id other.seat.id seat.me.0 other.seat.me.0 one (omega (arith, single)) idle,
    )

pub load-requires : goal.load-requires
load-requires g c = let seat = c.join_seat.new.seat in let words = c.args.self.now.shape.0 in
    let (here, _, _, (one, _), _, _, _) = c.loop-other.invariant in
    let (same, _, is) = c.join_seat.ensures in let all = ap (λ m. m.0.passes) is in
    (same ∙ (here ∙ c.requires.here), omega arith, looks g.V.Story.turns g.V.Story.made_by g.V.Story.sound _ seat.id seat.me.0 seat.me.1 (omega arith))

pub loop-other-preserved : goal.loop-other-preserved
loop-other-preserved g c = let seat = c.loop-other.seat in let other = c.in-Some.other in let (_, single, _) = other.is_pass in
    let (here, (stage, ticket, held), (made, number), (one, count), learns, rest, (done, split, joined_is)) = c.loop-other.invariant in
    let (left, _) = All-pop (λ p. (p.seat.table_id ≡ c.args.self.now.table.shared.table_id) × IsFree p.seat) c.loop-other.others.items c.pop.new.self.items c.pop.result c.pop.ensures.items rest in
    let items : c.loop-other.others.items ≡ c.pop.new.self.items ++ other ∷ [] = search rules in
    let longer = ap length items ∙ length-append c.pop.new.self.items (other ∷ []) in
    let (joined, _, is) = c.join_seat.ensures in
    let (loaded, _, look) = c.load.ensures in
    let (log, now, more) = gathered g.V.Story.made_by seat.me.0 other.seat.me.0 seat.me.1 c.join_seat.new.seat.me c.load.new.seat.me is look in
    let seen_is : c.load.new.seat.me.0.seen ≡ log = ap (λ m. m.0.seen) now in
    let passes = ap (λ m. m.0.passes) now in (
      loaded ∙ (joined ∙ here),
      (ap (λ m. m.0.stage) now ∙ stage, ap (λ m. m.0.ticket) now ∙ ticket, ap (λ m. m.1) now ∙ held),
      (ap (λ m. m.0.made) now ∙ made, ap (λ m. m.0.number) now ∙ number),
      (omega arith, omega arith),
      subst (λ l. Learns g.V.Story.made_by c.args.seat.now.me.0 l) (sym seen_is) (learns_twice g.V.Story.made_by c.args.seat.now.me.0 seat.me.0 log number learns more),
      left,
      (
        other ∷ done,
        split ∙ (ap (λ l. l ++ done) items ∙ append_assoc c.pop.new.self.items (other ∷ []) done),
        ap (λ m. m.0.joined) now ∙ ap (λ l. known_by other.seat ∷ l) joined_is,
      ),
    )

pub returns-clause-joined : goal.returns-clause-joined
returns-clause-joined g c = let (_, _, _, _, _, _, (done, split, joined_is)) = c.loop-other.invariant in
    let empty : c.loop-other.others.items ≡ [] = search rules in
    let is : c.args.others.items ≡ done = split ∙ ap (λ l. l ++ done) empty in
    subst (λ l. c.loop-other.seat.me.0.joined ≡ map (λ p. known_by p.seat) l ++ c.args.seat.now.me.0.joined) (sym is) joined_is
