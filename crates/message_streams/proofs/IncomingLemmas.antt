-- What reading one more piece does. Other files cite `read_none`, `read_piece_more`, `lacks_now`, `starved`, `whole_starved`.
use Rattle.std.proofs.Common.{◌≡◌, ℕ, inl, inr, Bool, true, false, List, [], ◌∷◌, ◌++◌, sym, ap, ◌∙◌, append_assoc, append-nil, refl}
use Rattle.std.specs.Prelude.{IsTrue, IsFalse}
use Rattle.httparse.specs.Grammar.{HasNoRequest, print_request}
use Rattle.api_messages.specs.declared.message.Message.{Message}
use Rattle.api_messages.specs.Messages.{HoldsMessage, IsAwaited}
use Rattle.api_messages.specs.Between.{HasHead}
use Rattle.message_streams.specs.declared.incoming.Lack.{Lack}
use Rattle.message_streams.specs.declared.incoming.Lack.TheVariants as lacks
use Rattle.message_streams.specs.Incoming.{IsWhole, IsPiece, AreRead, one_more, none, LackOf, end_piece}

-- the pieces read so far, and what is buffered
abbrev pub IsReading : List (List ℕ) → List (List ℕ) → List ℕ → List ℕ → Type 0
IsReading gave gave_new first held = (pieces : List (List ℕ)) × (gave_new ≡ gave ++ pieces) × AreRead first pieces held

pub read_none : (gave : List (List ℕ)) (held : List ℕ) → IsReading gave gave held held
read_none gave held = ([], sym (append-nil gave), none)

pub read_piece_more : (gave mid new : List (List ℕ)) (first held piece : List ℕ) → IsReading gave mid first held → new ≡ mid ++ piece ∷ [] → IsAwaited held
    → IsPiece piece → IsReading gave new first (held ++ piece)
read_piece_more gave mid new first held piece (pieces, is, read) more awaited some = (
  pieces ++ piece ∷ [],
  more ∙ ap (λ (g : List (List ℕ)). g ++ piece ∷ []) is ∙ append_assoc gave pieces (piece ∷ []),
  one_more pieces held piece read awaited some,
)

-- no message follows, after a last piece or none
pub lacks_now : (gave mid new : List (List ℕ)) (first held : List ℕ) (lack : Lack) → IsReading gave mid first held → new ≡ mid ++ end_piece lack → LackOf held lack
    → (pieces : List (List ℕ)) × (kept : List ℕ) × (new ≡ gave ++ (pieces ++ end_piece lack)) × AreRead first pieces kept × LackOf kept lack
lacks_now gave mid new first held lack (pieces, is, read) more lacks = (
  pieces,
  held,
  more ∙ ap (λ (g : List (List ℕ)). g ++ end_piece lack) is ∙ append_assoc gave pieces (end_piece lack),
  read,
  lacks,
)

-- out of memory for the bytes after the buffered ones
pub starved : (held : List ℕ) (head : Bool) → IsAwaited held → (IsTrue head → HasHead held) → (IsFalse head → HasNoRequest held) → LackOf held (lacks.NoMemory head)
starved held true awaited there missing = (inl awaited, there refl)
starved held false awaited there missing = (awaited, λ found. missing refl found.0 found.1 found.2)

-- a whole message has a head
whole_head : (bytes after : List ℕ) (m : Message) → HoldsMessage bytes m after → HasHead bytes
whole_head bytes after m (front, message, whole) = (
  message.head,
  m.body ++ after,
  (message.reads.0, whole ∙ ap (λ (b : List ℕ). b ++ after) message.reads.1 ∙ append_assoc (print_request message.head) m.body after),
)

-- out of memory for the message that is whole
pub whole_starved : (held : List ℕ) → IsWhole held → LackOf held (lacks.NoMemory true)
whole_starved held (m, rest, holds) = (inr (m, rest, holds), whole_head held rest m holds)
