-- A session over a book of one turn. Other files cite `home_leaves`, `home_broken`, `run_seated`, `opener`, `ended_home`, `first_home`, `still_broken` and
-- `sits_whole`.
use Rattle.std.proofs.Common.{◌≡◌, ◌≢◌, ℕ, inl, inr, Bool, true, false, List, [], ◌∷◌, ◌++◌, map, Option, Some, None, refl, sym, ap, ◌∙◌, subst}
use Rattle.std.proofs.lemmas.List.{map-append}
use mathlib.Core.List.{IsPrefix}
use Rattle.router_disk.specs.declared.disk_call.DiskCall.{DiskCall}
use Rattle.router_disk.specs.Link.{Exchange}
use Rattle.turn_book.specs.Rule.{IsUnmade, Learns}
use Rattle.turn_book.specs.Rule as book
use Rattle.turn_book.specs.Passes.{view, IsFree}
use Rattle.turn_book.specs.declared.view.View.{View}
use Rattle.router_core.specs.Tables.{first_tables}
use Rattle.duty_journal.specs.declared.home.Home.{Home}
use Rattle.duty_journal.specs.declared.home.Home.TheVariants.{Nowhere, Journal}
use Rattle.duty_journal.specs.Home.{disk_in, is_broken_home}
use Rattle.program_lines.specs.declared.status.Status.{Status}
use Rattle.program_lines.specs.declared.status.Status.TheVariants as statuses
use Rattle.message_streams.specs.declared.farewell.SessionEnd.{SessionEnd}
use Rattle.router_history.specs.declared.book.Book.{Book}
use Rattle.router_history.specs.declared.history.Turn.{Turn as CodeTurn}
use Rattle.router_history.specs.History.{Turn, State, begun, state_of, turns_by}
use Rattle.router_history.specs.Book.{turn_of, turns_of, recorded_in, opening, IsBook, Rests}
use Rattle.router_history.specs.Home.{IsHome, IsSoundBook}
use Rattle.router_history.specs.Acts.{World, world}
use Rattle.router_history.proofs.TurnLemmas.{none_of_mine, state_append}
use Rattle.router_history.proofs.BookLemmas.{added_legal, whole_of}
use Rattle.router_sessions.specs.Desk.{Known, number_of, turns_seen}
use Rattle.router_sessions.proofs.DeskLemmas.{maker, own_turns}
use Rattle.drill_run.proofs.DrillLemmas.{same_history}
use Rattle.bus_server.specs.Run.{status_of, Around, around, EndsWhole, IsRun, RunsBy, RunsOnce}
use Rattle.bus_server.specs.Journal.{EndsJournaled, status_after}
use Rattle.bus_server.specs.Seated.{IsOpener, IsSeated, LeavesHome, Sits}
use Rattle.bus_server.proofs.RecordedLemmas.{stays_broken}
use Rattle.bus_server.proofs.RunLemmas.{disk_first, no_door_fault, no_usage_end}

-- the disk that a book leaves
pub home_leaves : {D : Type 0} (calls : D → List DiskCall) (faults : D → ℕ) (turns : List Turn) (home : Home D) (disk : Option D) → IsHome calls faults turns home
    → disk ≡ disk_in home → LeavesHome calls faults turns disk
home_leaves calls faults turns Nowhere disk none is = subst (LeavesHome calls faults turns) (sym is) none
home_leaves calls faults turns (Journal j) disk held is = subst (LeavesHome calls faults turns) (sym is) (j, refl, held)

-- the mark of a book
pub home_broken : {D : Type 0} (calls : D → List DiskCall) (faults : D → ℕ) (turns : List Turn) (home : Home D) → IsBook turns → IsHome calls faults turns home
    → is_broken_home home ≡ (state_of turns).broken
home_broken calls faults turns Nowhere h none = sym (whole_of turns h none)
home_broken calls faults turns (Journal j) h held = held.broken

-- a link was given, had a session, and was taken back
pub run_seated : {D L : Type 0} (calls : D → List DiskCall) (faults : D → ℕ) (answered : L → List Exchange) (link_faults : L → ℕ) (Counts : Status → Type 0)
    (start : Turn) (now : Option ℕ) (gave gave_new : List (List ℕ)) (written written_new readings readings_new : List ℕ)
    (given middle given_new back between back_new : List L) (lent returned : L) (disk : Option D) (status : Status)
    → middle ≡ given ++ lent ∷ [] → given_new ≡ middle → between ≡ back → back_new ≡ between ++ returned ∷ []
    → ((turns : List Turn) × RunsBy start (EndsJournaled Counts status) now (world (start ∷ []) gave written readings (answered lent) (link_faults lent))
    (world turns gave_new written_new readings_new (answered returned) (link_faults returned)) × LeavesHome calls faults turns disk)
    → IsSeated calls faults answered link_faults Counts start now (around gave written readings given back) (around gave_new written_new readings_new given_new back_new) disk status
run_seated {D} {L} calls faults answered link_faults Counts start now gave gave_new written written_new readings readings_new given middle given_new back between back_new
    lent returned disk status got kept same took (turns, runs, left) = record {
      runs = record {
        lent = lent;
        returned = returned;
        given = kept ∙ got;
        back = took ∙ ap (λ (xs : List L). xs ++ returned ∷ []) same;
        turns = turns;
        runs = runs;
      };
      left = left;
    }

-- the pass of a hall that was just made
pub opener : {D : Type 0} (calls : D → List DiskCall) (faults : D → ℕ) (b : Book D) (known : Known (Book D)) → view known ≡ book.opener (recorded_in b.machine.history)
    → IsFree known → IsSoundBook calls faults b → ((n : ℕ) → book.turns_by maker n (recorded_in b.machine.history) ≡ []) → IsOpener known
opener calls faults b known made free is unmade =
    let seen : turns_seen known ≡ turns_of b.machine = ap (λ (v : View CodeTurn). map turn_of v.seen) made in
    let none : turns_by 0 (turns_of b.machine) ≡ [] = own_turns 0 (recorded_in b.machine.history) ∙ ap (map turn_of) (unmade 0) in
    record {
      number = ap (λ (v : View CodeTurn). v.number) made;
      made = ap (λ (v : View CodeTurn). v.made) made;
      free = free;
      book = subst IsBook (sym seen) is.kept.book;
      unmade = ap (turns_by 0) seen ∙ none;
      rests = subst (Rests 0) (sym seen) (none_of_mine 0 (turns_of b.machine) (begun first_tables) none refl);
    }

-- what a closed book is: the pass has seen its whole history
pub ended_home : {D : Type 0} (calls : D → List DiskCall) (faults : D → ℕ) (b : Book D) (known : Known (Book D)) → number_of known ≡ 0
    → Learns maker (view known) (recorded_in b.machine.history) → IsUnmade maker 1 (recorded_in b.machine.history) → IsSoundBook calls faults b
    → IsBook (turns_seen known) → IsHome calls faults (turns_seen known) b.home
ended_home calls faults b known number learns unmade is seen =
    subst (λ (ts : List Turn). IsHome calls faults ts b.home) (same_history (view known) (recorded_in b.machine.history) number learns unmade seen is.kept.book) is.home

-- a pass that made nothing has seen the one turn of the book
pub first_home : {D : Type 0} (calls : D → List DiskCall) (faults : D → ℕ) (b : Book D) (old new : Known (Book D)) (start : Turn) (disk : Option D) → IsOpener old
    → new ≡ old → turns_seen old ≡ start ∷ [] → Learns maker (view new) (recorded_in b.machine.history) → IsUnmade maker (view new).made (recorded_in b.machine.history)
    → IsSoundBook calls faults b → disk ≡ disk_in b.home → LeavesHome calls faults (start ∷ []) disk
first_home {D} calls faults b old new start disk o same opened learns unmade is disk_is =
    let all = recorded_in b.machine.history in
    let made : (view new).made ≡ 1 = ap (λ (k : Known (Book D)). (view k).made) same ∙ o.made in
    home_leaves calls faults (start ∷ []) b.home disk
    (subst (λ (ts : List Turn). IsHome calls faults ts b.home) opened
    (ended_home calls faults b old o.number (subst (λ (k : Known (Book D)). Learns maker (view k) all) same learns) (subst (λ (n : ℕ). IsUnmade maker n all) made unmade) is o.book))
    disk_is

-- a broken book stays broken
pub still_broken : (seen all : List CodeTurn) → IsPrefix seen all → IsBook (map turn_of seen) → IsBook (map turn_of all)
    → (state_of (map turn_of seen)).broken ≡ true → (state_of (map turn_of all)).broken ≡ true
still_broken seen all (rest, is) old new broken =
    let split : map turn_of all ≡ map turn_of seen ++ map turn_of rest = sym (ap (map turn_of) is) ∙ map-append turn_of seen rest in
    ap (λ (ts : List Turn). (state_of ts).broken) split
    ∙ ap (λ (s : State). s.broken) (state_append (begun first_tables) (map turn_of seen) (map turn_of rest))
    ∙ stays_broken (map turn_of rest) (state_of (map turn_of seen)) (added_legal (map turn_of seen) (map turn_of all) (map turn_of rest) old new split) broken

-- the status of a session is none of these
pub no_door_after : (broken : Bool) (end : SessionEnd) (status : Status) → status ≡ status_after broken end → (status ≢ statuses.DoorFault) × (status ≢ statuses.Usage)
no_door_after true end status is = ((λ e. cc), (λ e. cc))
no_door_after false end status is = (no_door_fault end status is, no_usage_end end status is)

-- ---- without a journal

-- a book without a journal is not broken
whole_once : (Counts : Status → Type 0) (status : Status) (old new : World) → RunsOnce opening (EndsJournaled Counts status) old new
    → RunsOnce opening (EndsWhole status) old new × Counts status
whole_once Counts status old new r =
    let broken : (state_of new.turns).broken ≡ false = whole_of new.turns r.history.book (disk_first opening (EndsJournaled Counts status) old new r) in
    let is : status ≡ status_of r.end = r.ends.0 ∙ ap (λ (b : Bool). status_after b r.end) broken in (
      record { end = r.end; session = r.session; recorded = r.recorded; first = r.first; ends = (broken, is); history = r.history },
      subst Counts (sym is) r.ends.1,
    )

whole_by : (Counts : Status → Type 0) (status : Status) (now : Option ℕ) (old new : World) → RunsBy opening (EndsJournaled Counts status) now old new
    → RunsBy opening (EndsWhole status) now old new × Counts status
whole_by Counts status None old new runs = whole_once Counts status old new runs
whole_by Counts status (Some moment) old new (readings, each, runs, same) =
    let (whole, counted) = whole_once Counts status (record old { readings = [] }) (record new { readings = readings }) runs in
    ((readings, each, whole, same), counted)

pub sits_whole : {D L : Type 0} (calls : D → List DiskCall) (faults : D → ℕ) (answered : L → List Exchange) (link_faults : L → ℕ) (Counts : Status → Type 0)
    (now : Option ℕ) (old new : Around L) (disk : Option D) (status : Status) → Sits calls faults answered link_faults Counts opening now old new disk status
    → IsRun answered link_faults now old new status × Counts status
sits_whole calls faults answered link_faults Counts now old new disk status (inl s) =
    let (runs, counted) = whole_by Counts status now _ _ s.runs.runs in (
      inl (record {
        lent = s.runs.lent;
        returned = s.runs.returned;
        given = s.runs.given;
        back = s.runs.back;
        turns = s.runs.turns;
        runs = runs;
      }),
      counted,
    )
sits_whole calls faults answered link_faults Counts now old new disk status (inr s) = (inr (s.why, s.unbegun), s.counted)
