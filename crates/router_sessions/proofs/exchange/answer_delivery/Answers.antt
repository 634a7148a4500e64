use Rattle.std.proofs.Common.{subst}
use Rattle.router_disk.specs.Sink.{AddsBytes}
use Rattle.router_sessions.specs.Desk.{seat_of, turns_seen}
use Rattle.router_sessions.specs.Reply.{IsDelivery}
use Rattle.router_sessions.proofs.ReplyLemmas.{was_delivered, unreplied}
use Rattle.router_history.proofs.ActLemmas.{makes_none}
use Rattle.router_sessions.proofs.exchange.answer_delivery.Goals as goal

pub returns-in-Err-clause-replied : goal.returns-in-Err-clause-replied
returns-in-Err-clause-replied g c = λ gave.
    unreplied (IsDelivery c.args.budget) (seat_of c.args.desk.connection c.args.pass.now.seat) c.args.close (turns_seen c.args.pass.now.seat)
    (turns_seen c.args.pass.now.seat) gave _ _ _ _ _ c.write_all.result c.requires.book c.requires.book
    (makes_none (seat_of c.args.desk.connection c.args.pass.now.seat) (turns_seen c.args.pass.now.seat)) (subst (AddsBytes _ _ c.write_all.result) c.no_memory_reply.ensures c.write_all.ensures.wrote)

pub returns-in-Ok-clause-replied : goal.returns-in-Ok-clause-replied
returns-in-Ok-clause-replied g c = λ gave.
    was_delivered (seat_of c.args.desk.connection c.args.pass.now.seat) c.args.budget c.args.close (turns_seen c.args.pass.now.seat)
    (turns_seen c.deliver-made.new.pass.seat) gave _ _ _ _ _ _ _ _ c.deliver-made.result c.write_delivery.result c.requires.book c.deliver-made.ensures.book
    c.deliver-made.ensures.delivers c.write_delivery.ensures.writes
