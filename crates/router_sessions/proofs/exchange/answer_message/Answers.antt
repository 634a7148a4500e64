use Rattle.std.proofs.Common.{◌≡◌, ℕ, ap, sym, ◌∙◌, subst}
use Rattle.router_requests.specs.View.{request_of}
use Rattle.router_disk.specs.Sink.{AddsBytes}
use Rattle.api_replies.specs.Reply.{not_post}
use Rattle.api_messages.specs.declared.method.Method.{Method}
use Rattle.api_messages.specs.Fields.{is_post}
use Rattle.api_wire.specs.Call.{IsAsked}
use Rattle.courier_run.specs.Claim.{moment_of}
use Rattle.router_sessions.specs.Desk.{seat_of, turns_seen}
use Rattle.router_history.specs.Session.{sent_text}
use Rattle.router_sessions.proofs.DoesLemmas.{does_ticked}
use Rattle.router_sessions.proofs.ReplyLemmas.{unposted_answer, fault_answer, request_answer}
use Rattle.router_sessions.proofs.exchange.answer_message.Goals as goal

pub returns-in-Head-clause-answered : goal.returns-in-Head-clause-answered
returns-in-Head-clause-answered g c = λ gave.
    let seat = seat_of c.args.desk.connection c.args.pass.now.seat in
    let text : c.not_post_head.result.now ≡ sent_text c.args.message.now.method not_post c.args.close =
    c.not_post_head.ensures ∙ ap (λ (m : Method). sent_text m not_post c.args.close) (sym c.in-Head.is) in
    unposted_answer seat c.args.message.now c.args.close _ (turns_seen c.args.pass.now.seat) gave _ _ _ _ _ c.now-reading.result c.write_all.result (ap is_post c.in-Head.is)
    c.requires.book c.requires.book (does_ticked seat (turns_seen c.args.pass.now.seat) gave _ _ _ _ _ c.now-reading.result c.now-reading.ensures.gave)
    (subst (AddsBytes _ _ c.write_all.result) text c.write_all.ensures.wrote)

pub returns-in-Other-clause-answered : goal.returns-in-Other-clause-answered
returns-in-Other-clause-answered g c = λ gave.
    let seat = seat_of c.args.desk.connection c.args.pass.now.seat in
    let text : c.not_post_reply.result.now ≡ sent_text c.args.message.now.method not_post c.args.close =
    c.not_post_reply.ensures ∙ ap (λ (m : Method). sent_text m not_post c.args.close) (sym c.in-Other.is) in
    unposted_answer seat c.args.message.now c.args.close _ (turns_seen c.args.pass.now.seat) gave _ _ _ _ _ c.now-reading.result c.write_all-in-Other.result
    (ap is_post c.in-Other.is) c.requires.book c.requires.book
    (does_ticked seat (turns_seen c.args.pass.now.seat) gave _ _ _ _ _ c.now-reading.result c.now-reading.ensures.gave)
    (subst (AddsBytes _ _ c.write_all-in-Other.result) text c.write_all-in-Other.ensures.wrote)

pub returns-in-Ok-clause-answered : goal.returns-in-Ok-clause-answered
returns-in-Ok-clause-answered g c = λ gave.
    let seat = seat_of c.args.desk.connection c.args.pass.now.seat in
    let asked : IsAsked c.args.message.now (moment_of c.now-reading.result) (request_of c.in-Ok.request) =
    subst (λ (m : ℕ). IsAsked c.args.message.now m (request_of c.in-Ok.request)) c.min.ensures c.in-Ok.ensures.asked in
    request_answer seat c.args.message.now c.args.close _ _ _ c.now-reading.result c.answer_request.result (request_of c.in-Ok.request)
    c.in-Post.is c.requires.book c.requires.book
    (does_ticked seat (turns_seen c.args.pass.now.seat) gave _ _ _ _ _ c.now-reading.result c.now-reading.ensures.gave)
    asked (c.answer_request.ensures.replied gave)

pub returns-in-Err-clause-answered : goal.returns-in-Err-clause-answered
returns-in-Err-clause-answered g c = λ gave.
    let seat = seat_of c.args.desk.connection c.args.pass.now.seat in
    fault_answer seat c.args.message.now c.args.close _ (turns_seen c.args.pass.now.seat) gave _ _ _ _ _ c.now-reading.result c.respond.result c.in-Err.fault
    c.fault_bytes-bytes.result c.in-Post.is c.requires.book c.requires.book
    (does_ticked seat (turns_seen c.args.pass.now.seat) gave _ _ _ _ _ c.now-reading.result c.now-reading.ensures.gave)
    c.in-Err.ensures.refused c.fault_bytes-bytes.ensures c.respond.ensures.writes
