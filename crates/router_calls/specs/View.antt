-- The view of an answer in contracts.
use Rattle.std.specs.Prelude.{Option}
use Rattle.std.specs.Option.{option_map}
use Rattle.api_replies.specs.View.{reply_of}
use Rattle.router_requests.specs.View.{batch_of}
use Rattle.router_core.specs.declared.ready.Ready.{Ready}
use Rattle.api_replies.specs.declared.reply.Reply.{Reply}
use Rattle.router_calls.specs.Answer.{Answer}

-- What contracts see of the code's answer: the batch of the change, if there is one, and the reply.
-- Shown by: tables router_calls.rows: each_request_is_answered.
abbrev pub answer_of : Option Ready × Reply → Answer
answer_of p = record { batch = option_map (λ r. batch_of r.batch) p.0; reply = reply_of p.1 }
