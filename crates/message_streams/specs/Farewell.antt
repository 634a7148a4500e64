-- What is written once no message follows, and how the session ends.
use Rattle.std.specs.Prelude.{◌≡◌, ◌⊎◌, ℕ, true, false, List, ◌++◌, Option, Some, None}
use Rattle.api_replies.specs.Reply.{Reply, no_memory, bad_head, length_required, too_large, head_too_large}
use Rattle.api_replies.specs.Written.{reply_text}
use Rattle.api_messages.specs.declared.message.Refusal.{Refusal}
use Rattle.api_messages.specs.declared.message.Refusal.TheVariants as refusals
use Rattle.message_streams.specs.declared.incoming.Lack.{Lack}
use Rattle.message_streams.specs.declared.incoming.Lack.TheVariants as lacks
use Rattle.message_streams.specs.declared.farewell.SessionEnd.{SessionEnd}
use Rattle.message_streams.specs.declared.farewell.SessionEnd.TheVariants as ends

-- The reply to refused bytes, by the reason: 400, 411, 413 or 431.
-- Shown by: no-length.
abbrev pub refusal_reply : Refusal → Reply
refusal_reply refusals.BadHead = bad_head
refusal_reply refusals.LengthRequired = length_required
refusal_reply refusals.TooLarge = too_large
refusal_reply refusals.HeadTooLarge = head_too_large

-- What is written if there is no message, if anything. It has its body, whatever the method.
-- Shown by: bad-head; .ci/checks/limits.sh.
abbrev pub closing_of : Lack → Option (List ℕ)
closing_of lacks.Closed = None
closing_of lacks.Cut = None
closing_of (lacks.Refused why) = Some (reply_text (refusal_reply why) true)
closing_of lacks.ReadFault = None
closing_of (lacks.NoMemory true) = Some (reply_text no_memory true)
closing_of (lacks.NoMemory false) = None

-- The end of a session that lacks a further message for this reason.
-- Shown by: bad-head.
abbrev pub end_of : Lack → SessionEnd
end_of lacks.Closed = ends.Closed
end_of lacks.Cut = ends.Cut
end_of (lacks.Refused why) = ends.Refused
end_of lacks.ReadFault = ends.ReadFault
end_of (lacks.NoMemory head) = ends.NoMemory

-- What a sink was given before and after, and the end: the lack's own end, once the text, if there is one, is written. Or a write failed, and a
-- first part of the text was written.
-- Shown by: proofs alone.
abbrev pub IsClosed : Lack → Option (List ℕ) → List ℕ → List ℕ → SessionEnd → Type 0
IsClosed lack None written written_new end = (end ≡ end_of lack) × (written_new ≡ written)
IsClosed lack (Some text) written written_new end = ((end ≡ end_of lack) × (written_new ≡ written ++ text))
    ⊎ ((end ≡ ends.WriteFault) × ((part rest : List ℕ) × (text ≡ part ++ rest) × (written_new ≡ written ++ part)))

-- The end of a session that lacks a further message, with what is written then (`closing_of`, `IsClosed`).
-- Shown by: bad-head; another_refusal_is_written.edit.
abbrev pub IsFinish : Lack → List ℕ → List ℕ → SessionEnd → Type 0
IsFinish lack written written_new end = IsClosed lack (closing_of lack) written written_new end
