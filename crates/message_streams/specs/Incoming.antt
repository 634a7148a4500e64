-- What reading the next message returns.
use Rattle.std.specs.Prelude.{◌≡◌, ◌≢◌, ◌≤◌, ℕ, ◌⊎◌, true, false, List, [], ◌∷◌, ◌++◌, length, Option, None}
use Rattle.api_messages.specs.declared.message.Message.{Message}
use Rattle.api_messages.specs.declared.message.Refusal.{Refusal}
use Rattle.api_messages.specs.Messages.{HoldsMessage, IsAwaited, IsRefused}
use Rattle.api_messages.specs.Between.{AreEmptyLines, HasHead}
use Rattle.message_streams.specs.declared.incoming.Incoming.{Incoming}
use Rattle.message_streams.specs.declared.incoming.Incoming.TheVariants as incoming
use Rattle.message_streams.specs.declared.incoming.Lack.{Lack}
use Rattle.message_streams.specs.declared.incoming.Lack.TheVariants as lacks

-- What a read gave that did not find the end: some bytes, at most 16,384 (this project's own choice).
-- Shown by: proofs alone.
abbrev pub IsPiece : List ℕ → Type 0
IsPiece piece = (piece ≢ []) × (length piece ≤ 16384)

-- A message is whole at the front of the bytes.
-- Shown by: .ci/checks/limits.sh.
abbrev pub IsWhole : List ℕ → Type 0
IsWhole held = (m : Message) × (rest : List ℕ) × HoldsMessage held m rest

-- The pieces that were read, each while the buffered bytes were the beginning of a message, and what is buffered then.
-- Shown by: proofs alone.
pub data AreRead (first : List ℕ) : List (List ℕ) → List ℕ → Type 0 where
  none : AreRead first [] first
  one_more : (pieces : List (List ℕ)) (held piece : List ℕ) → AreRead first pieces held → IsAwaited held → IsPiece piece
      → AreRead first (pieces ++ piece ∷ []) (held ++ piece)

-- Why these bytes give no message. Out of memory is allowed for bytes that are awaited, and for a whole message.
-- Shown by: bad-head; .ci/checks/limits.sh.
abbrev pub LackOf : List ℕ → Lack → Type 0
LackOf held lacks.Closed = AreEmptyLines held × IsAwaited held
LackOf held lacks.Cut = IsAwaited held × (¬ AreEmptyLines held)
LackOf held (lacks.Refused why) = IsRefused held why
LackOf held lacks.ReadFault = IsAwaited held
LackOf held (lacks.NoMemory true) = (IsAwaited held ⊎ IsWhole held) × HasHead held
LackOf held (lacks.NoMemory false) = IsAwaited held × (¬ HasHead held)

-- The piece of a read that gave the end of the input, if there was one.
-- Shown by: proofs alone.
abbrev pub end_piece : Lack → List (List ℕ)
end_piece lacks.Closed = [] ∷ []
end_piece lacks.Cut = [] ∷ []
end_piece (lacks.Refused why) = []
end_piece lacks.ReadFault = []
end_piece (lacks.NoMemory head) = []

-- What reads gave before and after the call, and what was buffered before and after it: the buffered bytes and the pieces read are the message
-- and the rest, or give no message (`LackOf`).
-- Shown by: session_tests tests.rt: input_cut_inside_a_message_gets_the_replies_before_it.
abbrev pub NextOf : List (List ℕ) → List (List ℕ) → List ℕ → List ℕ → Incoming → Type 0
NextOf gave gave_new rest rest_new (incoming.Message m) = (pieces : List (List ℕ)) × (held : List ℕ) × (gave_new ≡ gave ++ pieces)
    × AreRead rest pieces held × HoldsMessage held m rest_new
NextOf gave gave_new rest rest_new (incoming.Lack lack) = (pieces : List (List ℕ)) × (held : List ℕ) × (gave_new ≡ gave ++ (pieces ++ end_piece lack))
    × AreRead rest pieces held × LackOf held lack

-- After a message no bytes are refused yet.
-- Shown by: proofs alone.
abbrev pub StaysOpen : Incoming → Option Refusal → Type 0
StaysOpen (incoming.Message m) refused = refused ≡ None
StaysOpen (incoming.Lack lack) refused = Unit {0}
