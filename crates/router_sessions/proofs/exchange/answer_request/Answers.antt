use Rattle.router_requests.specs.View.{request_of}
use Rattle.router_sessions.proofs.exchange.answer_request.Goals as goal

pub returns-in-Some-clause-replied : goal.returns-in-Some-clause-replied
returns-in-Some-clause-replied g c = λ gave. c.answer_steps.ensures.replied (request_of c.args.request) gave c.in-Some.ensures
