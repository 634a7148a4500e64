-- What is decided of a start of a replay, by its checks: `twice`, `fresh`, `elsewhere`, `empty`, `full`, `made`; that a start is made of what the tables
-- have: `starting`, `starting_so`; that it can be made: `is_start`, `start_made`; that what is not refused is admitted: `start_admitted`; and of a cancellation: `ended`, `cancelled`, `missing`.
use Rattle.std.proofs.Common.{◌≡◌, ℕ, ◌≤◌, ◌<◌, true, false, List, [], ◌∷◌, length, Option, Some, None, refl, sym, ap, ◌∙◌, subst, arith}
use Rattle.std.specs.Prelude.{is_some, nat_lt, Result, Ok, Err, IfOk}
use Rattle.std.specs.Str.{bytes_eq}
use Rattle.std.proofs.lemmas.Bool.Decides.{nat_tests}
use Rattle.archive_keep.specs.Archive.{Archive}
use Rattle.archive_keep.specs.Archives.{name_of}
use Rattle.name_rows.specs.Rows.{named}
use Rattle.rule_table.specs.RuleSet.{Archive as Row, RuleSet, archive_at}
use Rattle.replay_run.specs.declared.row.ReplayRow.{ReplayRow}
use Rattle.replay_run.specs.Replays.{first_row, found, is_running, most_running, next_number, running, running_named}
use Rattle.replay_run.specs.declared.replays.NewReplay.{NewReplay}
use Rattle.router_core.specs.Ready.{IsNewReplay, IsPartOf, IsMadeOn}
use Rattle.router_core.specs.declared.ready.Part.{Part}
use Rattle.router_core.specs.declared.ready.Part.TheVariants.{Configuration, Event, Start, Step, Cancellation, Nothing}
use Rattle.api_replies.specs.Reply.{Reply}
use Rattle.api_replies.specs.declared.kind.Kind.TheVariants as kind
use Rattle.api_replies.specs.declared.cause.Cause.TheVariants as cause
use Rattle.config_views.specs.Replays.{started_reply, cancelled_reply}
use Rattle.router_core.specs.Admitted.{IsStartAdmitted}
use Rattle.router_requests.specs.Batch.{replay_started, replay_cancelled}
use Rattle.router_requests.specs.Bounds.{IsStartBounded}
use Rattle.router_core.specs.Tables.{Tables, settings_of}
use Rattle.router_requests.specs.declared.batch.StartedReplay.{StartedReplay}
use Rattle.router_requests.specs.declared.batch.Entry.TheVariants.{ReplayStarted}
use Rattle.resource_calls.specs.Decided.{decided_of, CanBeMade}
use Rattle.resource_calls.specs.declared.decided.Decided.{Decided}
use Rattle.resource_calls.proofs.DecidedLemmas.{one_written}
use Rattle.resource_calls.specs.Decision.{IsStarting, on_archive, refusal, replay_cancellation, replay_start, start_of, writes}

pub twice : (t : Tables) (moment : ℕ) (s : StartedReplay) (bus : List ℕ) (row : ReplayRow) → found s.name t.replays ≡ Some row
    → refusal (cause.Exists kind.Replay s.name) ≡ replay_start t moment s bus
twice t moment s bus row there = rw there refl

pub fresh : (t : Tables) (moment : ℕ) (s : StartedReplay) (bus : List ℕ) → found s.name t.replays ≡ None
    → on_archive t s.archive (start_of t moment s bus) ≡ replay_start t moment s bus
fresh t moment s bus none = rw none refl

pub elsewhere : (t : Tables) (moment : ℕ) (s : StartedReplay) (bus : List ℕ) (row : Row) (archive : Archive) → bytes_eq bus row.bus ≡ false
    → refusal cause.OtherDestination ≡ start_of t moment s bus row archive
elsewhere t moment s bus row archive other = rw other refl

pub empty : (t : Tables) (moment : ℕ) (s : StartedReplay) (bus : List ℕ) (row : Row) (archive : Archive) → bytes_eq bus row.bus ≡ true
    → nat_lt s.range.end s.range.start ≡ true → refusal cause.EmptyRange ≡ start_of t moment s bus row archive
empty t moment s bus row archive same before = rw (same, before) refl

pub full : (t : Tables) (moment : ℕ) (s : StartedReplay) (bus : List ℕ) (row : Row) (archive : Archive) → bytes_eq bus row.bus ≡ true
    → nat_lt s.range.end s.range.start ≡ false → nat_lt (length (running t.replays)) most_running ≡ false
    → refusal (cause.LimitReached kind.Replay) ≡ start_of t moment s bus row archive
full t moment s bus row archive same order many = rw (same, order, many) refl

pub made : (t : Tables) (moment : ℕ) (s : StartedReplay) (bus : List ℕ) (row : Row) (archive : Archive) → bytes_eq bus row.bus ≡ true
    → nat_lt s.range.end s.range.start ≡ false → nat_lt (length (running t.replays)) most_running ≡ true
    → writes (replay_started s) (started_reply (first_row archive (settings_of moment row s) (next_number t.replays))) ≡ start_of t moment s bus row archive
made t moment s bus row archive same order few = rw (same, order, few) refl

-- the value there is
same : {X : Type 0} (o : Option X) (x y : X) → o ≡ Some x → o ≡ Some y → x ≡ y
same o x y one other = let both : Some x ≡ Some y = sym one ∙ other in cc

pub starting : (t : Tables) (moment : ℕ) (s : StartedReplay) (new : NewReplay) → IsNewReplay moment s t new
    → IsStarting t moment s (writes (replay_started s) (started_reply new.row))
starting t moment s new is row archive known kept =
    let rows = same (archive_at s.archive t.set) is.row row is.known known in
    let archives = same (named name_of s.archive t.archives) is.archive archive is.kept kept in
    ap (λ (r : ReplayRow). writes (replay_started s) (started_reply r))
    (is.is
    ∙ ap (λ (x : Row). first_row is.archive (settings_of moment x s) (next_number t.replays)) rows
    ∙ ap (λ (x : Archive). first_row x (settings_of moment row s) (next_number t.replays)) archives)

-- the part of a start is one
pub is_start : (moment : ℕ) (set : RuleSet) (s : StartedReplay) (part : Part) → IsPartOf moment set (replay_started s) part
    → (new : NewReplay) × (part ≡ Start new)
is_start moment set s (Start new) is = (new, refl)
is_start moment set s (Configuration x y z) is = absurd is
is_start moment set s (Event x y) is = absurd is
is_start moment set s (Step x) is = absurd is
is_start moment set s Cancellation is = absurd is
is_start moment set s Nothing is = absurd is

pub starting_so : {E : Type 0} (r : Result Decided E) (t : Tables) (moment : ℕ) (s copy : StartedReplay) (part : Part) (reply : Reply) → copy ≡ s
    → IsPartOf moment t.set (replay_started s) part → IsMadeOn moment t (replay_started s) part
    → ((new : NewReplay) → part ≡ Start new → reply ≡ started_reply new.row) → IfOk r (λ d. decided_of d ≡ writes (replay_started copy) reply)
    → IfOk r (λ d. IsStarting t moment s (decided_of d))
starting_so (Ok d) t moment s copy part reply copied fits on replies is =
    let (new, started) = is_start moment t.set s part fits in
    subst (IsStarting t moment s)
    (sym (is ∙ ap (λ (x : StartedReplay). writes (replay_started x) reply) copied ∙ ap (writes (replay_started s)) (replies new started)))
    (starting t moment s new (subst (IsMadeOn moment t (replay_started s)) started on))
starting_so (Err e) t moment s copy part reply copied fits on replies is = tt

pub start_made : {E : Type 0} (r : Result Decided E) (t : Tables) (moment : ℕ) (s copy : StartedReplay) (part : Part) → copy ≡ s
    → IfOk r (λ d. d.entries.items ≡ ReplayStarted copy ∷ []) → IfOk r (λ d. d.parts.items ≡ part ∷ []) → IsStartAdmitted t s
    → IsPartOf moment t.set (replay_started s) part → IsMadeOn moment t (replay_started s) part → IfOk r (λ d. CanBeMade t moment d)
start_made r t moment s copy part copied entries parts admitted fits on =
    one_written r t moment (ReplayStarted copy) part entries parts (subst (IsStartAdmitted t) (sym copied) admitted)
    (subst (λ (x : StartedReplay). IsPartOf moment t.set (replay_started x) part) (sym copied) fits)
    (subst (λ (x : StartedReplay). IsMadeOn moment t (replay_started x) part) (sym copied) on)

pub start_admitted : (t : Tables) (s : StartedReplay) (bus : List ℕ) (row : Row) → IsStartBounded s bus → found s.name t.replays ≡ None
    → archive_at s.archive t.set ≡ Some row → nat_lt s.range.end s.range.start ≡ false → nat_lt (length (running t.replays)) most_running ≡ true
    → IsStartAdmitted t s
start_admitted t s bus row bounds new known order few = record {
  name = bounds.name;
  new = new;
  archive = ap is_some known;
  start = bounds.start;
  end = bounds.end;
  order = let within : s.range.start ≤ s.range.end = grind (arith, nat_tests) in within;
  few = let below : length (running t.replays) < most_running = grind (arith, nat_tests) in below;
  rules = bounds.rules;
}

pub missing : (t : Tables) (name : List ℕ) → found name t.replays ≡ None → refusal (cause.NotFound kind.Replay name) ≡ replay_cancellation t name
missing t name none = rw none refl

pub ended : (t : Tables) (name : List ℕ) (row : ReplayRow) → found name t.replays ≡ Some row → is_running row ≡ false
    → refusal (cause.NotRunning name) ≡ replay_cancellation t name
ended t name row there over = rw (there, over) refl

pub cancelled : (t : Tables) (name : List ℕ) (row : ReplayRow) → found name t.replays ≡ Some row → is_running row ≡ true
    → writes (replay_cancelled name) (cancelled_reply name) ≡ replay_cancellation t name
cancelled t name row there runs = rw (there, runs) refl

pub cancellable : (t : Tables) (name : List ℕ) (row : ReplayRow) → found name t.replays ≡ Some row → is_running row ≡ true
    → running_named name t.replays ≡ Some row
cancellable t name row there runs = rw (there, runs) refl
