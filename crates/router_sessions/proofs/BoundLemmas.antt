-- A request that a message asks for, if one turn answers it, is one that the book may be asked: `asked_askable`.
use Rattle.std.proofs.Common.{ℕ, sym, subst}
use Rattle.json_text.specs.Moment.{IsMoment}
use Rattle.router_requests.specs.Request.{IsEntitled, IsOneTurn}
use Rattle.router_requests.specs.Bounds.{IsBounded}
use Rattle.router_requests.specs.declared.request.Request.{Request}
use Rattle.router_requests.specs.View.{action_of, request_of}
use Rattle.api_messages.specs.declared.message.Message.{Message}
use Rattle.api_wire.specs.Call.{IsAsked}
use Rattle.router_history.specs.History.{IsAskable}

pub asked_askable : (m : Message) (reading : ℕ) (r : Request) → IsAsked m reading (request_of r) → IsBounded (action_of r.action)
    → IsEntitled (request_of r) → IsOneTurn (action_of r.action) → IsMoment reading → IsAskable (request_of r)
asked_askable m reading r p bounded entitled one_turn moment = record {
  bounded = bounded;
  entitled = entitled;
  one_turn = one_turn;
  reading = subst IsMoment (sym p.read_at) moment;
}
