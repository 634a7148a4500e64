use Rattle.std.proofs.Common.{◌≡◌, subst}
use Rattle.router_requests.specs.Request.{deliver_due, step_replays}
use Rattle.message_streams.specs.Reply.{IsAskedBy}
use Rattle.message_streams.specs.declared.delivery.StepsAsked.{StepsAsked}
use Rattle.router_sessions.specs.Desk.{seat_of}
use Rattle.router_sessions.specs.Reply.{IsAnswerTo, IsDelivery, IsRepetition}
use Rattle.router_sessions.proofs.ReplyLemmas.{replied_as, delivery_answers}
use Rattle.router_sessions.proofs.RepeatLemmas.{repetition_answers}
use Rattle.router_sessions.proofs.exchange.answer_steps.Goals as goal

pub returns-in-Deliveries-clause-replied : goal.returns-in-Deliveries-clause-replied
returns-in-Deliveries-clause-replied g c = λ q gave asked.
    let due : q.action ≡ deliver_due c.in-Deliveries.budget = subst (λ (a : StepsAsked). IsAskedBy q.action a) c.in-Deliveries.is asked in
    replied_as (IsDelivery c.in-Deliveries.budget) (IsAnswerTo q) (seat_of c.args.desk.connection c.args.pass.now.seat) c.args.close _ _
    c.answer_delivery.result (delivery_answers q c.in-Deliveries.budget due) (c.answer_delivery.ensures.replied gave)

pub returns-in-Replays-clause-replied : goal.returns-in-Replays-clause-replied
returns-in-Replays-clause-replied g c = λ q gave asked.
    let due : q.action ≡ step_replays c.in-Replays.budget = subst (λ (a : StepsAsked). IsAskedBy q.action a) c.in-Replays.is asked in
    replied_as (IsRepetition c.in-Replays.budget) (IsAnswerTo q) (seat_of c.args.desk.connection c.args.pass.now.seat) c.args.close _ _
    c.answer_replays.result (repetition_answers q c.in-Replays.budget due) (c.answer_replays.ensures.replied gave _ _)
