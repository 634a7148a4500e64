use Rattle.std.proofs.Common.{arith}
use Rattle.router_requests.specs.View.{request_of}
use Rattle.resource_calls.specs.Decided.{decided_of}
use Rattle.router_calls.specs.View.{answer_of}
use Rattle.router_calls.proofs.CallLemmas.{answered, if_ok_more}
use Rattle.router_calls.proofs.requests.decide.Goals as goal

pub returns-clause-answer : goal.returns-clause-answer
returns-clause-answer c =
    let t = c.args.tables.now in
    let d = c.in_ok-decided.decided in
    if_ok_more c.batched.result (λ p h. answered t (request_of c.args.request.now) c.args.seen c.args.moment (decided_of d) (answer_of p) c.requires.bounded
    c.requires.entitled c.requires.one_turn (omega (arith, c.requires.at, c.requires.reading, c.read_tables.ensures.consistent.moment)) c.requires.at c.in_ok-decided.ensures.answer h) c.batched.ensures.answer
