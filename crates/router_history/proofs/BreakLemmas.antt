-- A turn that breaks the book: `broke_made`, `broke_kept`, `broke`; the request that it does not carry out: `would_write`, `fails`, `failed_before`; and the attempt that has no
-- record: `unkept_before`, `unkept_by`.
use Rattle.std.proofs.Common.{◌≡◌, inl, inr, ℕ, true, false, List, [], ◌∷◌, ◌++◌, map, Option, Some, None, refl, sym, ap, ◌∙◌, subst}
use Rattle.std.specs.Prelude.{IsSome}
use Rattle.api_replies.specs.View.{reply_of}
use Rattle.api_replies.specs.declared.reply.Reply.{Reply as CodeReply}
use Rattle.delivery_duties.specs.declared.outcome.Outcome.{Outcome}
use Rattle.rule_table.specs.RuleSet.{RuleSet}
use Rattle.router_core.specs.Admitted.{IsAdmitted}
use Rattle.router_requests.specs.Batch.{Batch}
use Rattle.router_requests.specs.Request.{Request}
use Rattle.router_core.specs.Steps.{IsRecordedAs, record_of}
use Rattle.router_core.specs.Tables.{Tables, is_full, moment_at}
use Rattle.router_requests.specs.View.{batch_of}
use Rattle.router_requests.specs.declared.batch.Batch.{Batch as CodeBatch}
use Rattle.router_core.specs.declared.ready.Ready.{Ready}
use Rattle.courier_run.specs.Act.{makes}
use Rattle.courier_run.specs.Claim.{Claim}
use Rattle.courier_run.specs.Steps.{unkept, broken_before, broken_by}
use Rattle.courier_run.specs.declared.book.BookFault.TheVariants as faults
use Rattle.router_history.specs.declared.book.Machine.{Machine}
use Rattle.router_history.specs.declared.book.Seat.{Seat}
use Rattle.router_history.specs.History.{Turn, State, breaks, asked, state_of, last_version, IsAskable, WouldWrite}
use Rattle.router_history.specs.Book.{turns_of, IsBook, IsSoundMachine}
use Rattle.router_history.specs.Answered.{IsBroken, IsDecided, IsPutBack, IsUnanswered, IsUnrecordedBy}
use Rattle.router_history.proofs.ActLemmas.{makes_joined, makes_none, makes_look}
use Rattle.router_history.proofs.BookLemmas.{IsMade, added_legal, latest, made_book, made_makes, placed_on, turn_by, version_of}
use Rattle.router_history.proofs.AnsweredLemmas.{answered_on}
use Rattle.router_history.proofs.RecordLemmas.{outcome_in}

-- the turn was added
pub broke_made : (seat : Seat) (old new : Machine) (b : Batch) (lost : List CodeBatch) (k : ℕ) (set : RuleSet) → IsSoundMachine old → map batch_of lost ≡ b ∷ []
    → k ≡ set.count → set ≡ old.tables.set → turns_of new ≡ turns_of old ++ turn_by seat (breaks (map batch_of lost)) k None ∷ []
    → IsMade seat (breaks (b ∷ [])) None old new (turn_by seat (breaks (map batch_of lost)) k None)
broke_made seat old new b lost k set h is k_is set_is turns = record {
  kept = h;
  by = refl;
  connection = refl;
  made_for = ap breaks is;
  k = k_is ∙ ap (λ (s : RuleSet). s.count) set_is;
  batch = refl;
  turns = turns;
}

pub broke_kept : {seat : Seat} {b : Batch} {old new : Machine} {turn : Turn} → IsMade seat (breaks (b ∷ [])) None old new turn
    → (state_of (turns_of old)).broken ≡ false → IsSome (state_of (turns_of old)).disk → IsAdmitted old.tables b → new.tables ≡ old.tables → IsSoundMachine new
broke_kept {seat} {b} {old} {new} {turn} m unbroken journal admitted tables =
    made_book m (record {
      by = subst (λ (n : Option ℕ). IsSome n) (sym m.by) refl;
      latest = latest m;
      unwritten = m.batch;
      journal = journal;
      unbroken = unbroken;
      numbered = subst (λ (t : Tables). is_full t ≡ false) (sym m.kept.tables) admitted.numbered;
      lawful = (subst (λ (t : Tables). IsAdmitted t b) (sym m.kept.tables) admitted, tt);
    }) tt (tables ∙ sym m.kept.tables)

pub broke : {seat : Seat} {b : Batch} {old new : Machine} {turn : Turn} → IsMade seat (breaks (b ∷ [])) None old new turn
    → IsBroken seat b (turns_of old) (turns_of new)
broke {seat} {b} {old} {new} {turn} m =
    record { placed = placed_on old turn; makes = made_makes m; before = refl; latest = latest m; breaking = m.made_for }

-- what was decided of a request would be written
pub would_write : (m : Machine) (request : Request) (ready : Ready) (reply : CodeReply) → IsSoundMachine m → IsAskable request → IsDecided m.tables request (Some ready, reply)
    → WouldWrite (state_of (turns_of m)) (last_version (state_of (turns_of m))) request (batch_of ready.batch)
would_write m request ready reply h askable decided =
    let s : State = state_of (turns_of m) in
    let turn : Turn = record { pass = None; connection = None; ask = asked request; k = last_version s; batch = Some (batch_of ready.batch) } in
    (turn, reply_of reply, refl, refl, answered_on m turn request (Some ready, reply) h (sym (version_of m h)) refl askable decided)

-- the request whose batch broke the book
pub fails : (m : Machine) (seat : Seat) (new : List Turn) (request : Request) (ready : Ready) (reply : CodeReply) → IsSoundMachine m → IsAskable request
    → IsDecided m.tables request (Some ready, reply) → IsBroken seat (batch_of ready.batch) (turns_of m) new → IsUnanswered seat (turns_of m) new request
fails m seat new request ready reply h askable decided b =
    let would = would_write m request ready reply h askable decided in
    let there : WouldWrite b.placed.before (last_version b.placed.before) request (batch_of ready.batch) =
    subst (λ (s : State). WouldWrite s (last_version s) request (batch_of ready.batch)) (sym b.before) would in
    inl (b.placed, b.makes, (batch_of ready.batch, b.breaking, subst (λ k. WouldWrite b.placed.before k request (batch_of ready.batch)) (sym b.latest) there))

-- the book was broken before
pub failed_before : (m : Machine) (seat : Seat) (request : Request) (ready : Ready) (reply : CodeReply) → IsSoundMachine m → IsAskable request
    → IsDecided m.tables request (Some ready, reply) → (state_of (turns_of m)).broken ≡ true → IsUnanswered seat (turns_of m) (turns_of m) request
failed_before m seat request ready reply h askable decided broken =
    inr (
      makes_look seat (turns_of m) (turns_of m) (makes_none seat (turns_of m)),
      (broken, (batch_of ready.batch, would_write m request ready reply h askable decided)),
    )

-- the book was broken before the record of an attempt
pub unkept_before : (seat : Seat) (c : Claim) (had : Outcome) (old new : List Turn) → IsPutBack seat c unkept old new
    → IsUnrecordedBy seat c had faults.Broken old new
unkept_before seat c had old new b = record { acts = makes b.placed ∷ []; makes = b.makes; ends = broken_before b.placed b.puts_back }

-- this record broke it
pub unkept_by : (seat : Seat) (m : Machine) (c : Claim) (had recorded : Outcome) (b : Batch) (mid new : List Turn) → IsSoundMachine m → IsBook mid
    → IsRecordedAs m.tables.duties.queues c.endpoint had recorded → b ≡ record_of (moment_at m.tables c.reading) c.number recorded
    → IsBroken seat b (turns_of m) mid → IsPutBack seat c unkept mid new → IsUnrecordedBy seat c had faults.Broken (turns_of m) new
unkept_by seat m c had recorded b mid new kept book recorded_as is broke back =
    let tables : broke.placed.before.tables ≡ m.tables = ap (λ (s : State). s.tables) broke.before ∙ kept.tables in
    record {
      acts = makes broke.placed ∷ makes back.placed ∷ [];
      makes = makes_joined seat (makes broke.placed ∷ []) (makes back.placed ∷ []) (turns_of m) mid new broke.makes
          (added_legal (turns_of m) mid broke.makes.added kept.book book broke.makes.turns) back.makes;
      ends = broken_by broke.placed back.placed (
        recorded,
        outcome_in m.tables.duties.queues c had recorded recorded_as,
        broke.breaking ∙ ap (λ (x : Batch). breaks (x ∷ [])) (is ∙ ap (λ (t : Tables). record_of (moment_at t c.reading) c.number recorded) (sym tables)),
      ) back.puts_back;
    }
