use Rattle.std.proofs.Common.{Err, ap, subst}
use Rattle.router_requests.specs.View.{request_of}
use Rattle.router_disk.specs.Sink.{AddsBytes}
use Rattle.router_sessions.specs.Desk.{seat_of, turns_seen}
use Rattle.router_sessions.specs.Reply.{IsAnswerTo}
use Rattle.router_sessions.proofs.ReplyLemmas.{turn_replied, failed_replied, unreplied, answered_rests, failed_rests}
use Rattle.router_sessions.proofs.DeskLemmas.{rests_more}
use Rattle.router_sessions.proofs.exchange.answer_turn.Goals as goal

pub returns-in-Ok-clause-replied : goal.returns-in-Ok-clause-replied
returns-in-Ok-clause-replied g c = λ gave readings answered faults.
    turn_replied (seat_of c.args.desk.connection c.args.pass.now.seat) c.args.close (turns_seen c.args.pass.now.seat) (turns_seen c.turn.new.pass.seat) gave _ _ readings
    answered faults c.respond.result (request_of c.args.request) c.in-Ok.reply c.turn_bytes-bytes.result c.requires.book c.in-Ok.ensures.book c.in-Ok.ensures.answered
    c.turn_bytes-bytes.ensures.ok c.turn_bytes-bytes.ensures.err c.respond.ensures.writes

pub returns-in-Ok-clause-rests : goal.returns-in-Ok-clause-rests
returns-in-Ok-clause-rests g c =
    answered_rests (seat_of c.args.desk.connection c.args.pass.now.seat) (turns_seen c.args.pass.now.seat) (turns_seen c.turn.new.pass.seat)
    (request_of c.args.request) c.args.close c.in-Ok.reply c.in-Ok.ensures.answered c.requires.rests

pub returns-in-Err-NoMemory-clause-replied : goal.returns-in-Err-NoMemory-clause-replied
returns-in-Err-NoMemory-clause-replied g c = λ gave readings answered faults.
    unreplied (IsAnswerTo (request_of c.args.request)) (seat_of c.args.desk.connection c.args.pass.now.seat) c.args.close (turns_seen c.args.pass.now.seat)
    (turns_seen c.turn.new.pass.seat) gave _ _ readings answered faults c.respond-in-Err-NoMemory.result c.requires.book c.in-Err-NoMemory.ensures.book
    (c.in-Err-NoMemory.ensures.unchanged (ap Err c.in-Err-NoMemory.field-0-is)) c.respond-in-Err-NoMemory.ensures.writes

pub returns-in-Err-NoMemory-clause-rests : goal.returns-in-Err-NoMemory-clause-rests
returns-in-Err-NoMemory-clause-rests g c =
    rests_more (seat_of c.args.desk.connection c.args.pass.now.seat) (turns_seen c.args.pass.now.seat) (turns_seen c.turn.new.pass.seat)
    (c.in-Err-NoMemory.ensures.unchanged (ap Err c.in-Err-NoMemory.field-0-is)) c.requires.rests

pub returns-in-Err-Broken-clause-replied : goal.returns-in-Err-Broken-clause-replied
returns-in-Err-Broken-clause-replied g c = λ gave readings answered faults.
    failed_replied (seat_of c.args.desk.connection c.args.pass.now.seat) c.args.close (turns_seen c.args.pass.now.seat) (turns_seen c.turn.new.pass.seat) gave _ _ readings
    answered faults c.write_all.result (request_of c.args.request) c.requires.book c.in-Err-Broken.ensures.book
    (c.in-Err-Broken.ensures.broken (ap Err c.in-Err-Broken.field-0-is))
    (subst (AddsBytes _ _ c.write_all.result) c.journal_failed_reply.ensures c.write_all.ensures.wrote)

pub returns-in-Err-Broken-clause-rests : goal.returns-in-Err-Broken-clause-rests
returns-in-Err-Broken-clause-rests g c =
    failed_rests (seat_of c.args.desk.connection c.args.pass.now.seat) (turns_seen c.args.pass.now.seat) (turns_seen c.turn.new.pass.seat) (request_of c.args.request)
    (c.in-Err-Broken.ensures.broken (ap Err c.in-Err-Broken.field-0-is)) c.requires.rests
