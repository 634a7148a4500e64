-- From a decision on the tables to what was decided (`matched_on`, `decided_by`), and from there, with the book after it, to the
-- answered turn (`answer_made`, `answered`, `answered_book`).
use Rattle.std.proofs.Common.{◌≡◌, ℕ, Bool, true, [], ◌∷◌, ◌++◌, refl, sym, ap, ◌∙◌, subst, arith}
use Rattle.std.specs.Prelude.{Option, None, Some, IsSome, IfSome}
use Rattle.std.specs.Option.{option_map}
use Rattle.api_replies.specs.View.{reply_of}
use Rattle.api_replies.specs.Written.{reply_text}
use Rattle.api_replies.specs.declared.reply.Reply.{Reply as CodeReply}
use Rattle.rule_table.specs.RuleSet.{RuleSet}
use Rattle.rule_table.specs.Sound.{IsSound}
use Rattle.router_requests.specs.Batch.{Batch}
use Rattle.router_requests.specs.Request.{Request}
use Rattle.router_requests.specs.Matching.{IsSeen}
use Rattle.router_core.specs.Ready.{IsReadyFor}
use Rattle.router_requests.specs.declared.seen.Seen.{Seen}
use Rattle.router_calls.specs.Matched.{IsMatchedOn}
use Rattle.router_core.specs.Tables.{Tables, tables_after}
use Rattle.router_requests.specs.View.{request_of, batch_of}
use Rattle.router_core.specs.declared.ready.Ready.{Ready}
use Rattle.router_requests.specs.declared.request.Request.{Request as CodeRequest}
use Rattle.router_calls.specs.Answer.{IsAnswer}
use Rattle.router_calls.specs.View.{answer_of}
use Rattle.router_calls.proofs.FormLemmas.{request_form}
use Rattle.router_history.specs.declared.book.Machine.{Machine}
use Rattle.router_history.specs.declared.book.Seat.{Seat}
use Rattle.router_history.specs.declared.book.TurnReply.{TurnReply}
use Rattle.router_history.specs.History.{Turn, State, asked, last_version, set_of_version, state_of, IsAskable, IsAnsweredBy, IsWriteAdmitted, after_change, with_written}
use Rattle.router_history.specs.Book.{turns_of, IsSoundMachine}
use Rattle.router_history.specs.Answered.{turn_text, IsUnrendered, IsAnswered, IsDecided}
use Rattle.router_history.proofs.BookLemmas.{set_of, version_of, IsMade, made_book, made_makes, placed_on, turn_by}

-- the latest rule set
pub matched_on : (t : Tables) (request : Request) (seen : Seen) → IsSound t.set → IsSeen t.set request seen → IsMatchedOn t request t.set seen
matched_on t request seen sound is = record { sound = sound; is_seen = is; known = omega arith; latest = λ q. refl }

pub decided_by : (t : Tables) (request : Request) (seen : Seen) (p : Option Ready × CodeReply) → IsSeen t.set request seen
    → IsAnswer t request seen.k t.set (answer_of p) → IfSome p.0 (λ r. IsReadyFor t r) → IsDecided t request p
decided_by t request seen p is answer ready =
    let latest : IsAnswer t request t.set.count t.set (answer_of p) = subst (λ n. IsAnswer t request n t.set (answer_of p)) is.k answer in
    record { answer = latest; ready = ready; status = (request_form latest).status }

-- the batch of a decision, if it has one
abbrev pub decided_batch : Option Ready × CodeReply → Option Batch
decided_batch p = option_map (λ r. batch_of r.batch) p.0

-- the turn of a request was added
pub answer_made : (seat : Seat) (old new : Machine) (request shown : CodeRequest) (written batch : Option Batch) (k : ℕ) (set : RuleSet) → IsSoundMachine old → shown ≡ request
    → k ≡ set.count → set ≡ old.tables.set → written ≡ batch
    → turns_of new ≡ turns_of old ++ turn_by seat (asked (request_of shown)) k written ∷ []
    → IsMade seat (asked (request_of request)) batch old new (turn_by seat (asked (request_of shown)) k written)
answer_made seat old new request shown written batch k set h shown_is k_is set_is batch_is turns = record {
  kept = h;
  by = refl;
  connection = refl;
  made_for = ap (λ r. asked (request_of r)) shown_is;
  k = k_is ∙ ap (λ (s : RuleSet). s.count) set_is;
  batch = batch_is;
  turns = turns;
}

-- a turn by the latest version, with this batch, is answered so
pub answered_on : (old : Machine) (turn : Turn) (request : Request) (p : Option Ready × CodeReply) → IsSoundMachine old → turn.k ≡ old.tables.set.count
    → turn.batch ≡ decided_batch p → IsAskable request → IsDecided old.tables request p → IsAnsweredBy (state_of (turns_of old)) turn request (reply_of p.1)
answered_on old turn request p h k batch askable decided =
    let s = state_of (turns_of old) in
    let version : turn.k ≡ last_version s = k ∙ version_of old h in
    let set : old.tables.set ≡ set_of_version turn.k s = set_of old h ∙ ap (λ n. set_of_version n s) (sym version) in
    let here : RuleSet = set_of_version turn.k s in
    let on_set : IsAnswer old.tables request old.tables.set.count here (answer_of p) =
    subst (λ (x : RuleSet). IsAnswer old.tables request old.tables.set.count x (answer_of p)) set decided.answer in
    let on_k : IsAnswer old.tables request turn.k here (answer_of p) = subst (λ n. IsAnswer old.tables request n here (answer_of p)) (sym k) on_set in
    let with_batch : IsAnswer old.tables request turn.k here (record { batch = turn.batch; reply = reply_of p.1 }) =
    subst (λ (b : Option Batch). IsAnswer old.tables request turn.k here (record { batch = b; reply = reply_of p.1 })) (sym batch) on_k in
    record {
      askable = askable;
      since = omega (arith, version);
      known = omega (arith, version);
      answer = subst (λ (t : Tables). IsAnswer t request turn.k here (record { batch = turn.batch; reply = reply_of p.1 })) (sym h.tables) with_batch;
    }

answered_by : {seat : Seat} {request : Request} {old new : Machine} {turn : Turn} (p : Option Ready × CodeReply)
    → IsMade seat (asked request) (decided_batch p) old new turn → IsAskable request → IsDecided old.tables request p
    → IsAnsweredBy (state_of (turns_of old)) turn request (reply_of p.1)
answered_by {seat} {request} {old} {new} {turn} p m askable decided = answered_on old turn request p m.kept m.k m.batch askable decided

pub answered : {seat : Seat} {request : Request} {old new : Machine} {turn : Turn} (close : Bool) (p : Option Ready × CodeReply) (reply : TurnReply)
    → IsMade seat (asked request) (decided_batch p) old new turn → IsAskable request → IsDecided old.tables request p
    → turn_text reply close ≡ reply_text (reply_of p.1) close → (IsUnrendered reply → turn.batch ≡ None)
    → (turn.batch ≡ None → IsUnrendered reply) → IsAnswered seat (turns_of old) (turns_of new) request close reply
answered {seat} {request} {old} {new} {turn} close p reply m askable decided text unwritten written = record {
  placed = placed_on old turn;
  makes = made_makes m;
  replied = reply_of p.1;
  replies = (m.made_for, answered_by p m askable decided);
  text = text;
  unwritten = unwritten;
  written = written;
}

written_tables : (b : Option Batch) (s : State) → (after_change b s).tables ≡ tables_after (with_written b []) s.tables
written_tables None s = refl
written_tables (Some b) s = refl

admitted_if : (t : Tables) (o : Option Ready) → IfSome o (λ r. IsReadyFor t r) → IsWriteAdmitted t (option_map (λ r. batch_of r.batch) o)
admitted_if t None ready = tt
admitted_if t (Some r) ready = ready.admitted

pub answered_book : {seat : Seat} {request : Request} {old new : Machine} {turn : Turn} (p : Option Ready × CodeReply)
    → IsMade seat (asked request) (decided_batch p) old new turn → IsAskable request → IsDecided old.tables request p → IsSome seat.connection
    → ((state_of (turns_of old)).broken ≡ true → decided_batch p ≡ None) → new.tables ≡ tables_after (with_written (decided_batch p) []) old.tables → IsSoundMachine new
answered_book {seat} {request} {old} {new} {turn} p m askable decided named unwritten tables =
    made_book m (
      subst (λ (n : Option ℕ). IsSome n) (sym m.by) refl,
      subst (λ (n : Option ℕ). IsSome n) (sym m.connection) named,
      (reply_of p.1, answered_by p m askable decided),
      λ broken. m.batch ∙ unwritten broken,
    )
    (admitted_if old.tables p.0 decided.ready)
    (tables
    ∙ ap (λ b. tables_after (with_written b []) old.tables) (sym m.batch)
    ∙ ap (tables_after (with_written turn.batch [])) (sym m.kept.tables)
    ∙ sym (written_tables turn.batch (state_of (turns_of old))))
