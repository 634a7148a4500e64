use Rattle.std.proofs.Common.{List, refl, sym, ap, ◌∙◌}
use Rattle.router_history.specs.History.{Turn, state_of}
use Rattle.router_sessions.specs.Desk.{seat_of, turns_seen}
use Rattle.router_sessions.proofs.DeskLemmas.{seen_of, looked, learned_alone, rests_more, extends_none}
use Rattle.router_sessions.proofs.desk.Desk.look.Goals as goal

pub give-requires-clause-longer : goal.give-requires-clause-longer
give-requires-clause-longer g c = extends_none c.take-book.new.pass.seat c.take-book.result.machine c.take-book.ensures.seen

pub returns-clause-looked : goal.returns-clause-looked
returns-clause-looked g c =
    looked (seat_of c.args.self.connection c.args.pass.now.seat) c.args.pass.now.seat c.give.new.pass.seat c.take-book.result.machine c.take-book.result.machine refl
    c.take-book.ensures.history c.give.ensures.seen refl

pub returns-clause-rests : goal.returns-clause-rests
returns-clause-rests g c =
    rests_more (seat_of c.args.self.connection c.args.pass.now.seat) (turns_seen c.args.pass.now.seat) (turns_seen c.give.new.pass.seat)
    (learned_alone (seat_of c.args.self.connection c.args.pass.now.seat) c.args.pass.now.seat c.give.new.pass.seat c.take-book.result.machine c.take-book.result.machine refl
    c.take-book.ensures.history c.give.ensures.seen refl)

pub returns-clause-broken : goal.returns-clause-broken
returns-clause-broken g c =
    c.is_broken-broken.ensures ∙ ap (λ (ts : List Turn). (state_of ts).broken) (sym (seen_of c.take-book.result.machine c.give.new.pass.seat c.give.ensures.seen))
