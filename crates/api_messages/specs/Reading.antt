-- What the calls that read a message return.
use Rattle.std.specs.Prelude.{◌≡◌, ℕ, ◌≤◌, Bool, List, length, take, drop, Option, Some, None, Result, Ok, Err}
use Rattle.httparse.specs.Grammar.{RequestHead, print_request, ReadsRequest, HasNoRequest}
use Rattle.api_messages.specs.declared.message.Message.{Message}
use Rattle.api_messages.specs.declared.message.WireFault.{WireFault}
use Rattle.api_messages.specs.declared.message.WireFault.TheVariants as faults
use Rattle.api_messages.specs.declared.message.Refusal.{Refusal}
use Rattle.api_messages.specs.declared.fields.Found.{Found}
use Rattle.api_messages.specs.declared.fields.Found.TheVariants.{Absent, Once, Repeated}
use Rattle.api_messages.specs.declared.fields.Fields.{Fields}
use Rattle.api_messages.specs.declared.front.Front.{Front}
use Rattle.api_messages.specs.declared.front.Front.TheVariants.{Whole, Awaited, Refused}
use Rattle.api_messages.specs.declared.front.Head.{Head}
use Rattle.api_messages.specs.declared.front.InPlace.{InPlace}
use Rattle.api_messages.specs.Fields.{Occurrence, absent, once, repeated, Known, method_of, pairs_of, known_of, text_at}
use Rattle.api_messages.specs.Messages.{IsMessage, IsSmall, IsRefused, IsAwaited, HoldsMessage}

-- the occurrence that a value of the code represents
abbrev pub occurrence_in : Found → Occurrence
occurrence_in Absent = absent
occurrence_in (Once value) = once value.now
occurrence_in Repeated = repeated

-- one more field of the name, with that value
abbrev pub and_also : Occurrence → List ℕ → Occurrence
and_also absent value = once value
and_also (once first) value = repeated
and_also repeated value = repeated

-- the fields that a value of the code represents
abbrev pub known : Fields → Known
known f = record {
  host = occurrence_in f.host;
  length = occurrence_in f.length;
  coding = occurrence_in f.coding;
  target = occurrence_in f.target;
  caller = occurrence_in f.caller;
  close = f.close;
}

-- the head h is at the front of the bytes, within the limits, and these are its parts
pub record IsHeadAt (bytes : List ℕ) (head : Head) (h : RequestHead) : Type 0 where
  pub reads : ReadsRequest bytes h (drop head.len bytes)
  pub len : head.len ≡ length (print_request h)
  pub within : head.len ≤ length bytes
  pub small : IsSmall h
  pub method : head.method ≡ method_of h.method
  pub minor : head.minor ≡ h.minor
  pub fields : known head.fields ≡ known_of (pairs_of h)

-- the same, of some head
abbrev pub IsSomeHeadAt : List ℕ → Head → Type 0
IsSomeHeadAt bytes head = (h : RequestHead) × IsHeadAt bytes head h

-- the message that is still in the bytes
abbrev pub message_at : InPlace → Message
message_at p = record {
  method = p.method;
  target = text_at (occurrence_in p.target);
  caller = text_at (occurrence_in p.caller);
  body = p.body.now;
  close = p.close;
}

-- the first p.len bytes are that message
pub record IsMessageAt (bytes : List ℕ) (p : InPlace) : Type 0 where
  pub within : p.len ≤ length bytes
  pub message : IsMessage (take p.len bytes) (message_at p)

-- what is at the front of the bytes: a whole thing with the property, less than that, or bytes that are refused
abbrev pub FrontIs : {A : Type 0} → List ℕ → (A → Type 0) → Front A → Type 0
FrontIs bytes P (Whole a) = P a
FrontIs bytes P Awaited = IsAwaited bytes
FrontIs bytes P (Refused why) = IsRefused bytes why

-- if less than a head is at the front, no whole head is
abbrev pub HeadIsAwaited : {A : Type 0} → List ℕ → Front A → Type 0
HeadIsAwaited bytes (Whole a) = Unit {0}
HeadIsAwaited bytes Awaited = HasNoRequest bytes
HeadIsAwaited bytes (Refused why) = Unit {0}

-- the bytes fed that no message has taken, why they were refused if they were, and the number of further bytes that need no
-- memory
pub record Incoming : Type 0 where
  pub rest : List ℕ
  pub refused : Option Refusal
  pub room : ℕ

-- What `WireIn::next` returns and leaves: a message, which is taken from the front; `None` if the bytes are awaited; `Refused` with the
-- reason if they are refused, and then forever; or out of memory, only if a message is whole.
-- Shown by: tables api_messages.rows: messages_follow_one_another_in_any_pieces; request_tests test_api_messages.rt:
-- a_refusal_stays_and_keeps_its_bytes.
abbrev pub Answers : Incoming → Incoming → Result (Option Message) WireFault → Type 0
Answers old new (Ok (Some m)) = HoldsMessage old.rest m new.rest × (new.refused ≡ None)
Answers old new (Ok None) = IsAwaited old.rest × (new ≡ old)
Answers old new (Err (faults.Refused why)) = IsRefused old.rest why × (new ≡ record old { refused = Some why })
Answers old new (Err faults.NoMemory) = ((m : Message) × (rest : List ℕ) × HoldsMessage old.rest m rest) × (new ≡ old)
