use Rattle.std.proofs.Common.{◌≡◌, map}
use Rattle.json_text.specs.View.{trees_of}
use Rattle.call_replies.specs.Replies.{message_report}
use Rattle.call_replies.proofs.messages.messages_reply.Given as goal

-- the reports of the messages so far
abbrev pub invariant-loop-message : goal.invariant-loop-message
invariant-loop-message l =
    (goal.iterator-loop-message).can_next l.message-iterator ×
    (goal.iterator-loop-message).is_finite l.message-iterator ×
    (trees_of l.items.items ≡ map message_report l.yielded)
