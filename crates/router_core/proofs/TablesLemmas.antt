-- The tables after one entry of a batch, by its part. The answers of `Tables` cite `change_part`, `event_part`, `event_few`, `deletion_part`,
-- `start_part`, `step_part`, `step_few`, `cancellation_part`, `can_start`, `with_replay`, `started`, `with_step`, `stepped`,
-- `with_cancellation`, `cancelled`, `archive_kept`, `archive_known`, `new_replay_so`, `room_for`, `archive_room`, `can_keep`, `duties_by`, `created_after`, `has_changed`, `has_published`, `with_change`, `with_event`,
-- `with_deletion`, `changed` and `published`.
use Rattle.std.proofs.Common.{◌≡◌, ℕ, ◌+◌, ◌^◌, ◌<◌, ◌≤◌, true, false, cond, List, [], ◌∷◌, ◌++◌, length, suc, length-append}
use Rattle.std.proofs.Common.{map, max, Option, Some, None, sym, refl, ap, subst, ◌∙◌, arith}
use Rattle.std.specs.Prelude.{All, bytes_eq, IfSome, IfOk, IsTrue, Result, Ok, Err, is_some}
use Rattle.std.specs.declared.cmp.Ordering.TheVariants.{Less, Equal, Greater}
use Rattle.std.proofs.Common.{is_eq}
use Rattle.std.specs.Cmp.Lexicographic.{slice_cmp}
use Rattle.std.specs.Ordering.{nat_cmp}
use Rattle.std.proofs.lemmas.Slice.Eq.{bytes_eq-Decides}
use Rattle.std.proofs.lemmas.List.{length-map}
use Rattle.std.proofs.lemmas.Map.Text.{is_eq-slice_cmp}
use Rattle.json_text.specs.Moment.{IsMoment}
use Rattle.name_rows.specs.Rows.{AreSorted, by_order, named}
use Rattle.archive_keep.specs.declared.event_ref.KeptEvent.{KeptEvent}
use Rattle.archive_keep.specs.Archive.{Archive}
use Rattle.archive_keep.specs.Archives.{most_archives, name_of}
use Rattle.rule_table.specs.Control.{Control, bus_created, bus_deleted, rule_put, rule_deleted, state_put, targets_put, targets_removed, policy_put}
use Rattle.rule_table.specs.Control.{queue_created, queue_deleted, archive_created, archive_updated, archive_deleted}
use Rattle.rule_table.specs.RuleSet.{RuleSet, put_queue, without_queue, applied, archive_at, has_archive}
use Rattle.rule_table.specs.RuleSet.{Archive as Row}
use Rattle.rule_table.specs.Refusal.{IsAllowed}
use Rattle.rule_table.specs.WellFormed.{is_well_formed}
use Rattle.rule_table.proofs.AllowedLemmas.{queue_new, archive_new}
use Rattle.delivery_duties.specs.declared.duty.NewDuty.{NewDuty}
use Rattle.delivery_queues.specs.Queues.{Queue, with_queue, without_queue as less_queue}
use Rattle.delivery_duties.specs.Duties.{Duties, added, with_deleted}
use Rattle.router_requests.specs.Batch.{Accepted, Stepped, Entry, control, accepted, attempt, replay_started, replay_stepped, replay_cancelled, messages_deleted}
use Rattle.router_core.specs.Tables.{Tables, duties_after, archives_after, kept_event, kept_by, after_entry, number_limit, replays_started, settings_of, with_start, KeepsUpTo, IsConsistent}
use Rattle.router_core.specs.Admitted.{IsEventAdmitted, IsEntryAdmitted, IsStartAdmitted}
use Rattle.router_core.specs.Keeping.{CanKeep}
use Rattle.router_core.specs.Parts.{deleted_by, with_created, with_forgotten}
use Rattle.router_core.specs.Ready.{HasPlace, AreKeptAs, IsNewReplay, IsPartOf}
use Rattle.router_core.proofs.KeepingLemmas.{row_name, archives_changed, all_kept, names_kept}
use Rattle.replay_run.specs.declared.replays.NewReplay.{NewReplay}
use Rattle.replay_run.specs.declared.row.ReplayRow.{ReplayRow}
use Rattle.replay_run.specs.declared.settings.ReplaySettings.{ReplaySettings}
use Rattle.replay_run.specs.Replays.{cancelled_at, cancelled_in, changed_named, first_row, found, is_running, most_running, names_of, next_number, running, stepped_at, stepped_in}
use Rattle.replay_run.specs.Replays as replay_list
use Rattle.replay_run.proofs.ReplaysLemmas.{first_kept}
use Rattle.router_requests.specs.declared.batch.StartedReplay.{StartedReplay}
use Rattle.router_core.specs.declared.ready.Part.TheVariants.{Configuration, Event, Start, Step, Cancellation, Nothing}

-- the names of the queues after one is created
names_with : (name : List ℕ) (ms : List Queue) → map (λ (m : Queue). m.name) (with_queue name ms) ≡ put_queue name (map (λ (m : Queue). m.name) ms)
names_with name [] = refl
names_with name (m ∷ ms) =
    let N : Queue → List ℕ = λ q. q.name in
    let new : Queue = record { name = name; sent = 0; messages = [] } in
    (elim (slice_cmp nat_cmp name m.name) as (λ o. slice_cmp nat_cmp name m.name ≡ o
    → map N (by_order o (new ∷ m ∷ ms) (m ∷ ms) (m ∷ with_queue name ms))
    ≡ by_order o (name ∷ m.name ∷ map N ms) (name ∷ map N ms) (m.name ∷ put_queue name (map N ms))) [
      | Less ↦ λ _. refl
      | Equal ↦ λ e.
          let same : bytes_eq name m.name ≡ true = sym (is_eq-slice_cmp name m.name) ∙ ap is_eq e in
          ap (λ (n : List ℕ). n ∷ map N ms) (sym ((bytes_eq-Decides name m.name).0 same))
      | Greater ↦ λ _. ap (λ (ns : List (List ℕ)). m.name ∷ ns) (names_with name ms)
    ]) refl

-- the names of the queues after one is deleted
names_without : (name : List ℕ) (ms : List Queue) → map (λ (m : Queue). m.name) (less_queue name ms) ≡ without_queue name (map (λ (m : Queue). m.name) ms)
names_without name [] = refl
names_without name (m ∷ ms) =
    let N : Queue → List ℕ = λ q. q.name in
    elim (bytes_eq m.name name) as (λ b. map N (cond b (less_queue name ms) (m ∷ less_queue name ms))
    ≡ cond b (without_queue name (map N ms)) (m.name ∷ without_queue name (map N ms))) [
      | true ↦ names_without name ms
      | false ↦ ap (λ (ns : List (List ℕ)). m.name ∷ ns) (names_without name ms)
    ]

-- the part of a change is that of a change
pub change_part : (moment : ℕ) (e : Entry) (set new : RuleSet) (queue : Option (List ℕ)) (archive : Option Archive)
    → IsPartOf moment set e (Configuration new queue archive) → (c : Control) × (e ≡ control c)
change_part moment (control c) set new queue archive part = (c, refl)
change_part moment (accepted e) set new queue archive none = absurd none
change_part moment (attempt duty outcome) set new queue archive none = absurd none
change_part moment (replay_started s) set new place archive none = absurd none
change_part moment (replay_stepped s) set new place archive none = absurd none
change_part moment (replay_cancelled name) set new place archive none = absurd none
change_part moment (messages_deleted queue through) set new place archive none = absurd none

-- the part of an event is that of an event
pub event_part : (moment : ℕ) (e : Entry) (set : RuleSet) (duties : List NewDuty) (kept : List KeptEvent) → IsPartOf moment set e (Event duties kept)
    → (event : Accepted) × (e ≡ accepted event)
event_part moment (control c) set duties kept none = absurd none
event_part moment (accepted e) set duties kept part = (e, refl)
event_part moment (attempt duty outcome) set duties kept none = absurd none
event_part moment (replay_started s) set duties kept none = absurd none
event_part moment (replay_stepped s) set duties kept none = absurd none
event_part moment (replay_cancelled name) set duties kept none = absurd none
event_part moment (messages_deleted queue through) set duties kept none = absurd none

-- an event has few duties
pub event_few : (moment : ℕ) (e : Entry) (t : Tables) (duties : List NewDuty) (kept : List KeptEvent) → IsPartOf moment t.set e (Event duties kept)
    → IsEntryAdmitted moment e t → length duties ≤ 1500
event_few moment (control c) t duties kept none admitted = absurd none
event_few moment (accepted e) t duties kept part admitted = subst (λ (ds : List NewDuty). length ds ≤ 1500) (sym part.0) admitted.few
event_few moment (attempt duty outcome) t duties kept none admitted = absurd none
event_few moment (replay_started s) t duties kept none admitted = absurd none
event_few moment (replay_stepped s) t duties kept none admitted = absurd none
event_few moment (replay_cancelled name) t duties kept none admitted = absurd none
event_few moment (messages_deleted queue through) t duties kept none admitted = absurd none

-- a part that is nothing is that of a deletion of messages
pub deletion_part : (moment : ℕ) (e : Entry) (set : RuleSet) → IsPartOf moment set e Nothing → (queue : List ℕ) × (through : ℕ) × (e ≡ messages_deleted queue through)
deletion_part moment (control c) set none = absurd none
deletion_part moment (accepted e) set none = absurd none
deletion_part moment (attempt duty outcome) set none = absurd none
deletion_part moment (replay_started s) set none = absurd none
deletion_part moment (replay_stepped s) set none = absurd none
deletion_part moment (replay_cancelled name) set none = absurd none
deletion_part moment (messages_deleted queue through) set part = (queue, through, refl)

-- the part of a start is that of a start
pub start_part : (moment : ℕ) (e : Entry) (set : RuleSet) (new : NewReplay) → IsPartOf moment set e (Start new) → (s : StartedReplay) × (e ≡ replay_started s)
start_part moment (control c) set new none = absurd none
start_part moment (accepted e) set new none = absurd none
start_part moment (attempt duty outcome) set new none = absurd none
start_part moment (replay_started s) set new part = (s, refl)
start_part moment (replay_stepped s) set new none = absurd none
start_part moment (replay_cancelled name) set new none = absurd none
start_part moment (messages_deleted queue through) set new none = absurd none

-- the part of a step is that of a step
pub step_part : (moment : ℕ) (e : Entry) (set : RuleSet) (duties : List NewDuty) → IsPartOf moment set e (Step duties) → (s : Stepped) × (e ≡ replay_stepped s)
step_part moment (control c) set duties none = absurd none
step_part moment (accepted e) set duties none = absurd none
step_part moment (attempt duty outcome) set duties none = absurd none
step_part moment (replay_started s) set duties none = absurd none
step_part moment (replay_stepped s) set duties part = (s, refl)
step_part moment (replay_cancelled name) set duties none = absurd none
step_part moment (messages_deleted queue through) set duties none = absurd none

-- a step has few duties
pub step_few : (moment : ℕ) (e : Entry) (t : Tables) (duties : List NewDuty) → IsPartOf moment t.set e (Step duties) → IsEntryAdmitted moment e t
    → length duties ≤ 1500
step_few moment (control c) t duties none admitted = absurd none
step_few moment (accepted e) t duties none admitted = absurd none
step_few moment (attempt duty outcome) t duties none admitted = absurd none
step_few moment (replay_started s) t duties none admitted = absurd none
step_few moment (replay_stepped s) t duties part admitted = subst (λ (ds : List NewDuty). length ds ≤ 1500) (sym part) admitted.few
step_few moment (replay_cancelled name) t duties none admitted = absurd none
step_few moment (messages_deleted queue through) t duties none admitted = absurd none

-- the part of a cancellation is that of a cancellation
pub cancellation_part : (moment : ℕ) (e : Entry) (set : RuleSet) → IsPartOf moment set e Cancellation → (name : List ℕ) × (e ≡ replay_cancelled name)
cancellation_part moment (control c) set none = absurd none
cancellation_part moment (accepted e) set none = absurd none
cancellation_part moment (attempt duty outcome) set none = absurd none
cancellation_part moment (replay_started s) set none = absurd none
cancellation_part moment (replay_stepped s) set none = absurd none
cancellation_part moment (replay_cancelled name) set part = (name, refl)
cancellation_part moment (messages_deleted queue through) set none = absurd none

both : {created other deleted removed : Option (List ℕ)} (duties : Duties) → created ≡ other → deleted ≡ removed
    → with_forgotten deleted (with_created created duties) ≡ with_forgotten removed (with_created other duties)
both {created} {other} {deleted} {removed} duties e f =
    ap (λ (q : Option (List ℕ)). with_forgotten deleted (with_created q duties)) e
    ∙ ap (λ (q : Option (List ℕ)). with_forgotten q (with_created other duties)) f

-- the duties after a change, by the queue that it creates and the one that it deletes
pub duties_by : (c : Control) (created deleted : Option (List ℕ)) (duties : Duties) → HasPlace c created → deleted ≡ deleted_by c
    → with_forgotten deleted (with_created created duties) ≡ duties_after c duties
duties_by (bus_created name) created deleted duties place gone = both duties place gone
duties_by (bus_deleted name) created deleted duties place gone = both duties place gone
duties_by (rule_put bus name pattern enabled) created deleted duties place gone = both duties place gone
duties_by (rule_deleted bus name) created deleted duties place gone = both duties place gone
duties_by (state_put bus name enabled) created deleted duties place gone = both duties place gone
duties_by (targets_put bus rule targets) created deleted duties place gone = both duties place gone
duties_by (targets_removed bus rule ids) created deleted duties place gone = both duties place gone
duties_by (policy_put bus policy) created deleted duties place gone = both duties place gone
duties_by (queue_created name) created deleted duties place gone = both duties place gone
duties_by (queue_deleted name) created deleted duties place gone = both duties place gone
duties_by (archive_created name bus pattern days) created deleted duties place gone = both duties place gone
duties_by (archive_updated name pattern days) created deleted duties place gone = both duties place gone
duties_by (archive_deleted name) created deleted duties place gone = both duties place gone

-- what a change keeps: the queues are those of the rule set, no duty is made, and the rule set counts the change
record IsKept (c : Control) (set : RuleSet) (duties : Duties) : Type 0 where
  pub queues : map (λ (m : Queue). m.name) (duties_after c duties).queues ≡ (applied c set).queues
  pub created : (duties_after c duties).created ≡ duties.created
  pub count : (applied c set).count ≡ set.count + 1

kept : (c : Control) (set : RuleSet) (duties : Duties) → map (λ (m : Queue). m.name) duties.queues ≡ set.queues → IsKept c set duties
kept (bus_created name) set duties same = record { queues = same; created = refl; count = refl }
kept (bus_deleted name) set duties same = record { queues = same; created = refl; count = refl }
kept (rule_put bus name pattern enabled) set duties same = record { queues = same; created = refl; count = refl }
kept (rule_deleted bus name) set duties same = record { queues = same; created = refl; count = refl }
kept (state_put bus name enabled) set duties same = record { queues = same; created = refl; count = refl }
kept (targets_put bus rule targets) set duties same = record { queues = same; created = refl; count = refl }
kept (targets_removed bus rule ids) set duties same = record { queues = same; created = refl; count = refl }
kept (policy_put bus policy) set duties same = record { queues = same; created = refl; count = refl }
kept (queue_created name) set duties same = record { queues = names_with name duties.queues ∙ ap (put_queue name) same; created = refl; count = refl }
kept (queue_deleted name) set duties same = record { queues = names_without name duties.queues ∙ ap (without_queue name) same; created = refl; count = refl }
kept (archive_created name bus pattern days) set duties same = record { queues = same; created = refl; count = refl }
kept (archive_updated name pattern days) set duties same = record { queues = same; created = refl; count = refl }
kept (archive_deleted name) set duties same = record { queues = same; created = refl; count = refl }

queue_fits : (c : Control) (queue : Option (List ℕ)) (t : Tables) (name : List ℕ) → HasPlace c queue → IsAllowed c t.set
    → map (λ (m : Queue). m.name) t.duties.queues ≡ t.set.queues → queue ≡ Some name → length t.duties.queues < 1000
queue_fits (bus_created n) queue t name place allowed same is = cc
queue_fits (bus_deleted n) queue t name place allowed same is = cc
queue_fits (rule_put bus n pattern enabled) queue t name place allowed same is = cc
queue_fits (rule_deleted bus n) queue t name place allowed same is = cc
queue_fits (state_put bus n enabled) queue t name place allowed same is = cc
queue_fits (targets_put bus rule targets) queue t name place allowed same is = cc
queue_fits (targets_removed bus rule ids) queue t name place allowed same is = cc
queue_fits (policy_put bus policy) queue t name place allowed same is = cc
queue_fits (queue_created n) queue t name place allowed same is =
    omega (arith, queue_new n t.set allowed, ap length same, length-map t.duties.queues (λ (m : Queue). m.name))
queue_fits (queue_deleted n) queue t name place allowed same is = cc
queue_fits (archive_created n bus pattern days) queue t name place allowed same is = cc
queue_fits (archive_updated n pattern days) queue t name place allowed same is = cc
queue_fits (archive_deleted n) queue t name place allowed same is = cc

-- a created queue finds room
pub room_for : (c : Control) (queue : Option (List ℕ)) (t now : Tables) → t ≡ now → HasPlace c queue → IsAllowed c now.set
    → map (λ (m : Queue). m.name) t.duties.queues ≡ t.set.queues → IfSome queue (λ name. length t.duties.queues < 1000)
room_for c None t now same place allowed are = tt
room_for c (Some name) t now same place allowed are =
    queue_fits c (Some name) t name place (subst (λ (s : Tables). IsAllowed c s.set) (sym same) allowed) are refl

-- a created archive finds room
pub archive_room : (c : Control) (t now : Tables) → t ≡ now → IsAllowed c now.set → IsConsistent t
    → (name bus : List ℕ) (pattern : Option (List ℕ)) (days : ℕ) → c ≡ archive_created name bus pattern days → length t.archives < most_archives
archive_room c t now same allowed was name bus pattern days is =
    let own = subst (λ x. IsAllowed x t.set) is (subst (λ (s : Tables). IsAllowed c s.set) (sym same) allowed) in
    omega (
      arith,
      (archive_new name bus pattern days t.set own).1,
      ap (length {A = List ℕ}) was.archives,
      length-map t.archives name_of,
      length-map t.set.archives row_name,
    )

-- what a change makes of the tables
pub record HasChanged (c : Control) (moment : ℕ) (t now : Tables) (set : RuleSet) (duties : Duties) (archives : List Archive) : Type 0 where
  pub own : set ≡ applied c t.set
  pub all : duties ≡ duties_after c t.duties
  pub kept : archives ≡ archives_after c moment t.archives

pub has_changed : (c : Control) (moment : ℕ) (created deleted : Option (List ℕ)) (t now : Tables) (set : RuleSet) (middle duties : Duties) (archives : List Archive)
    → t ≡ now → set ≡ applied c now.set → HasPlace c created → deleted ≡ deleted_by c → middle ≡ with_created created t.duties
    → duties ≡ with_forgotten deleted middle → archives ≡ archives_after c moment t.archives → HasChanged c moment t now set duties archives
has_changed c moment created deleted t now set middle duties archives same new place gone first last kept = record {
  own = new ∙ ap (λ (s : Tables). applied c s.set) (sym same);
  all = last ∙ ap (with_forgotten deleted) first ∙ duties_by c created deleted t.duties place gone;
  kept = kept;
}

-- a change keeps tables consistent
pub with_change : (c : Control) (moment : ℕ) (t now : Tables) (set : RuleSet) (duties : Duties) (archives : List Archive) → t ≡ now
    → HasChanged c moment t now set duties archives → IsTrue (is_well_formed c) → IsConsistent t → now.entries + 1 < number_limit + 2 ^ 20
    → IsConsistent (record t { set = set; duties = duties; archives = archives; entries = t.entries + 1 })
with_change c moment t now set duties archives same h formed was room =
    let k = kept c t.set t.duties was.queues in
    let a = archives_changed c t.set moment t.events t.moment t.archives was.archives was.kept formed in
    record {
      queues = ap (λ (d : Duties). map (λ (m : Queue). m.name) d.queues) h.all ∙ k.queues ∙ sym (ap (λ (s : RuleSet). s.queues) h.own);
      moment = was.moment;
      count = omega (arith, was.count, k.count, ap (λ (s : RuleSet). s.count) h.own);
      events = omega (arith, was.events);
      batches = omega (arith, was.batches);
      entries = omega (arith, room, ap (λ (s : Tables). s.entries) same);
      created = omega (arith, was.created, k.created, ap (λ (d : Duties). d.created) h.all);
      archives = ap (map name_of) h.kept ∙ a.names ∙ sym (ap (λ (s : RuleSet). map row_name s.archives) h.own);
      kept = subst (All (KeepsUpTo t.events t.moment)) (sym h.kept) a.up;
      starts = omega (arith, was.starts);
    }

-- the tables after a change
pub changed : (c : Control) (moment : ℕ) (t now : Tables) (set : RuleSet) (duties : Duties) (archives : List Archive) → t ≡ now
    → HasChanged c moment t now set duties archives
    → record t { set = set; duties = duties; archives = archives; entries = t.entries + 1 } ≡ after_entry moment (control c) now
changed c moment t now set duties archives same h =
    ap (λ (s : RuleSet). record t { set = s; duties = duties; archives = archives; entries = t.entries + 1 }) h.own
    ∙ ap (λ (d : Duties). record t { set = applied c t.set; duties = d; archives = archives; entries = t.entries + 1 }) h.all
    ∙ ap (λ (rows : List Archive). record t { set = applied c t.set; duties = duties_after c t.duties; archives = rows; entries = t.entries + 1 }) h.kept
    ∙ ap (after_entry moment (control c)) same

-- a change makes no duty
pub created_after : (c : Control) (duties : Duties) → (duties_after c duties).created ≡ duties.created
created_after (bus_created name) duties = refl
created_after (bus_deleted name) duties = refl
created_after (rule_put bus name pattern enabled) duties = refl
created_after (rule_deleted bus name) duties = refl
created_after (state_put bus name enabled) duties = refl
created_after (targets_put bus rule targets) duties = refl
created_after (targets_removed bus rule ids) duties = refl
created_after (policy_put bus policy) duties = refl
created_after (queue_created name) duties = refl
created_after (queue_deleted name) duties = refl
created_after (archive_created name bus pattern days) duties = refl
created_after (archive_updated name pattern days) duties = refl
created_after (archive_deleted name) duties = refl

-- the records of an event can be kept
pub can_keep : (moment : ℕ) (e : Accepted) (t now : Tables) (names : List (List ℕ)) (records : List KeptEvent) → t ≡ now → names ≡ e.archives
    → AreKeptAs moment e records → IsEventAdmitted now e → now.moment ≤ moment → IsConsistent t → CanKeep names t.archives records
can_keep moment e t now names records same named_so part admitted later was =
    let own = subst (λ (s : Tables). IsEventAdmitted s e) (sym same) admitted in
    record {
      event = kept_event moment e;
      events = t.events;
      before = t.moment;
      each = part.each;
      number = part.number ∙ ap (length {A = List ℕ}) (sym named_so);
      sorted = subst (AreSorted (λ (n : List ℕ). n)) (sym named_so) own.archive_order;
      earlier = was.kept;
      next = record {
        number = own.number;
        later = omega (arith, later, ap (λ (s : Tables). s.moment) same);
        bound = omega (arith, was.events, was.entries);
      };
    }

-- what an event makes of the tables
pub record HasPublished (e : Accepted) (moment : ℕ) (t now : Tables) (duties : Duties) (archives : List Archive) : Type 0 where
  pub duties_so : duties ≡ added e.duties moment t.duties
  pub kept : archives ≡ kept_by e.archives (kept_event moment e) t.archives
  pub admitted : IsEventAdmitted t e
  pub later : t.moment ≤ moment

pub has_published : (e : Accepted) (moment : ℕ) (t now : Tables) (own : List NewDuty) (records : List KeptEvent) (names : List (List ℕ)) (duties : Duties)
    (archives : List Archive) → t ≡ now → (own ≡ e.duties) × AreKeptAs moment e records → names ≡ e.archives → duties ≡ added own moment t.duties
    → ((k : KeptEvent) → All (λ r. r ≡ k) records → archives ≡ kept_by names k t.archives) → IsEventAdmitted now e → now.moment ≤ moment
    → HasPublished e moment t now duties archives
has_published e moment t now own records names duties archives same part named_so made kept admitted later = record {
  duties_so = made ∙ ap (λ (ds : List NewDuty). added ds moment t.duties) part.0;
  kept = kept (kept_event moment e) part.1.each ∙ ap (λ ns. kept_by ns (kept_event moment e) t.archives) named_so;
  admitted = subst (λ (s : Tables). IsEventAdmitted s e) (sym same) admitted;
  later = omega (arith, later, ap (λ (s : Tables). s.moment) same);
}

-- an event keeps tables consistent
pub with_event : (e : Accepted) (moment : ℕ) (t now : Tables) (duties : Duties) (archives : List Archive) (count : ℕ) → t ≡ now
    → map (λ (m : Queue). m.name) duties.queues ≡ map (λ (m : Queue). m.name) t.duties.queues → duties.created ≡ t.duties.created + count
    → HasPublished e moment t now duties archives → IsMoment moment
    → IsConsistent t → now.entries + 1 < number_limit + 2 ^ 20 → now.duties.created + count < number_limit + 2 ^ 20
    → IsConsistent (record t { duties = duties; archives = archives; events = t.events + 1; entries = t.entries + 1; moment = moment })
with_event e moment t now duties archives count same names made h valid was room few = record {
  queues = names ∙ was.queues;
  moment = valid;
  count = omega (arith, was.count);
  events = omega (arith, was.events);
  batches = omega (arith, was.batches);
  entries = omega (arith, room, ap (λ (s : Tables). s.entries) same);
  created = omega (arith, few, made, ap (λ (s : Tables). s.duties.created) same);
  archives = ap (map name_of) h.kept ∙ names_kept e.archives (kept_event moment e) t.archives ∙ was.archives;
  kept = subst (All (KeepsUpTo (t.events + 1) moment)) (sym h.kept)
      (all_kept e.archives (kept_event moment e) t.archives t.events t.moment h.admitted.archive_order was.kept h.admitted.number h.later);
  starts = omega (arith, was.starts);
}

max_later : (a b : ℕ) → a ≤ b → b ≡ max a b
max_later a b le = omega (arith, le)

-- the tables after an event
pub published : (e : Accepted) (moment : ℕ) (t now : Tables) (duties : Duties) (archives : List Archive) → t ≡ now → HasPublished e moment t now duties archives
    → record t { duties = duties; archives = archives; events = t.events + 1; entries = t.entries + 1; moment = moment } ≡ after_entry moment (accepted e) now
published e moment t now duties archives same h =
    ap (λ (d : Duties). record t { duties = d; archives = archives; events = t.events + 1; entries = t.entries + 1; moment = moment }) h.duties_so
    ∙ ap (λ (rows : List Archive). record t { duties = added e.duties moment t.duties; archives = rows; events = t.events + 1; entries = t.entries + 1; moment = moment }) h.kept
    ∙ ap (λ (m : ℕ). record t {
      duties = added e.duties moment t.duties;
      archives = kept_by e.archives (kept_event moment e) t.archives;
      events = t.events + 1;
      entries = t.entries + 1;
      moment = m;
    }) (max_later t.moment moment h.later)
    ∙ ap (after_entry moment (accepted e)) same

-- a deletion of messages keeps tables consistent
pub with_deletion : (t now : Tables) (duties : Duties) (queue : List ℕ) (through : ℕ) → t ≡ now
    → map (λ (m : Queue). m.name) duties.queues ≡ map (λ (m : Queue). m.name) t.duties.queues → duties ≡ with_deleted queue through t.duties
    → IsConsistent t → now.entries + 1 < number_limit + 2 ^ 20 → IsConsistent (record t { duties = duties; entries = t.entries + 1 })
with_deletion t now duties queue through same names is was room = record {
  queues = names ∙ was.queues;
  moment = was.moment;
  count = omega (arith, was.count);
  events = omega (arith, was.events);
  batches = omega (arith, was.batches);
  entries = omega (arith, room, ap (λ (s : Tables). s.entries) same);
  created = omega (arith, was.created, ap (λ (d : Duties). d.created) is);
  archives = was.archives;
  kept = was.kept;
  starts = omega (arith, was.starts);
}

-- ---- replays

-- a start keeps tables consistent
pub with_replay : (t now : Tables) (replays : List ReplayRow) (new : ReplayRow) → t ≡ now → replays ≡ t.replays ++ new ∷ [] → IsConsistent t
    → now.entries + 1 < number_limit + 2 ^ 20 → IsConsistent (record t { replays = replays; entries = t.entries + 1 })
with_replay t now replays new same is was room = record {
  queues = was.queues;
  moment = was.moment;
  count = omega (arith, was.count);
  events = omega (arith, was.events);
  batches = omega (arith, was.batches);
  entries = omega (arith, room, ap (λ (s : Tables). s.entries) same);
  created = was.created;
  archives = was.archives;
  kept = was.kept;
  starts = omega (arith, was.starts, ap (length {A = ReplayRow}) is, length-append t.replays (new ∷ []));
}

-- the replays after a start
started_so : (moment : ℕ) (s : StartedReplay) (now : Tables) (new : NewReplay) → IsNewReplay moment s now new
    → replays_started moment s now ≡ now.replays ++ new.row ∷ []
started_so moment s now new made =
    ap (λ o. with_start moment s o (named name_of s.archive now.archives) now.replays) made.known
    ∙ ap (λ p. with_start moment s (Some made.row) p now.replays) made.kept
    ∙ ap (λ (r : ReplayRow). now.replays ++ r ∷ []) (sym made.is)

-- the tables after a start
pub started : (moment : ℕ) (s : StartedReplay) (t now : Tables) (new : NewReplay) (replays : List ReplayRow) → t ≡ now → IsNewReplay moment s now new
    → replays ≡ t.replays ++ new.row ∷ [] → record t { replays = replays; entries = t.entries + 1 } ≡ after_entry moment (replay_started s) now
started moment s t now new replays same made is =
    ap (λ (rows : List ReplayRow). record t { replays = rows; entries = t.entries + 1 }) is
    ∙ ap (λ (x : Tables). record x { replays = x.replays ++ new.row ∷ []; entries = x.entries + 1 }) same
    ∙ ap (λ (rows : List ReplayRow). record now { replays = rows; entries = now.entries + 1 }) (sym (started_so moment s now new made))

-- what a start asks for
pub record CanStart (all : List ReplayRow) (new : NewReplay) : Type 0 where
  pub name : found (replay_list.name_of new.row) all ≡ None
  pub number : new.row.number ≡ next_number all
  pub names : new.names ≡ names_of (all ++ new.row ∷ [])
  pub few : next_number all < 2 ^ 64
  pub room : is_running new.row ≡ true → length (running all) < most_running

pub can_start : (moment : ℕ) (s : StartedReplay) (t now : Tables) (new : NewReplay) → t ≡ now → IsNewReplay moment s now new → IsStartAdmitted now s
    → IsConsistent t → CanStart t.replays new
can_start moment s t now new same made admitted was =
    let own : t.replays ≡ now.replays = ap (λ (x : Tables). x.replays) same in
    let kept = first_kept made.archive (settings_of moment made.row s) (next_number now.replays) in
    let name_is : replay_list.name_of new.row ≡ s.name = ap replay_list.name_of made.is ∙ ap (λ (x : ReplaySettings). x.name) kept.1 in
    record {
      name = ap (λ n. found n t.replays) name_is ∙ ap (found s.name) own ∙ admitted.new;
      number = ap (λ (r : ReplayRow). r.number) made.is ∙ kept.0 ∙ ap next_number (sym own);
      names = made.names ∙ ap (λ (rows : List ReplayRow). names_of (rows ++ new.row ∷ [])) (sym own);
      few = omega (arith, was.starts, was.entries);
      room = λ _. subst (λ (rows : List ReplayRow). length (running rows) < most_running) (sym own) admitted.few;
    }

-- a change of one replay leaves their number
changed_length : (name : List ℕ) (change : ReplayRow → ReplayRow) (all : List ReplayRow) → length (changed_named name change all) ≡ length all
changed_length name change [] = refl
changed_length name change (row ∷ all) =
    elim (bytes_eq (replay_list.name_of row) name) as (λ b. length (cond b (change row ∷ all) (row ∷ changed_named name change all)) ≡ length (row ∷ all)) [
      | true ↦ refl
      | false ↦ ap suc (changed_length name change all)
    ]

-- a step keeps tables consistent
pub with_step : (name : List ℕ) (moment : ℕ) (t now : Tables) (duties : Duties) (replays : List ReplayRow) (count : ℕ) → t ≡ now
    → map (λ (m : Queue). m.name) duties.queues ≡ map (λ (m : Queue). m.name) t.duties.queues → duties.created ≡ t.duties.created + count
    → replays ≡ stepped_in name moment t.replays → IsConsistent t → now.entries + 1 < number_limit + 2 ^ 20
    → now.duties.created + count < number_limit + 2 ^ 20 → IsConsistent (record t { duties = duties; replays = replays; entries = t.entries + 1 })
with_step name moment t now duties replays count same names made is was room few = record {
  queues = names ∙ was.queues;
  moment = was.moment;
  count = omega (arith, was.count);
  events = omega (arith, was.events);
  batches = omega (arith, was.batches);
  entries = omega (arith, room, ap (λ (s : Tables). s.entries) same);
  created = omega (arith, few, made, ap (λ (s : Tables). s.duties.created) same);
  archives = was.archives;
  kept = was.kept;
  starts = omega (arith, was.starts, ap (length {A = ReplayRow}) is, changed_length name (stepped_at moment) t.replays);
}

-- the tables after a step
pub stepped : (s : Stepped) (moment : ℕ) (t now : Tables) (own : List NewDuty) (name : List ℕ) (duties : Duties) (replays : List ReplayRow) → t ≡ now
    → own ≡ s.duties → name ≡ s.name → duties ≡ added own moment t.duties → replays ≡ stepped_in name moment t.replays
    → record t { duties = duties; replays = replays; entries = t.entries + 1 } ≡ after_entry moment (replay_stepped s) now
stepped s moment t now own name duties replays same part named_so made is =
    ap (λ (d : Duties). record t { duties = d; replays = replays; entries = t.entries + 1 }) (made ∙ ap (λ (ds : List NewDuty). added ds moment t.duties) part)
    ∙ ap (λ (rows : List ReplayRow). record t { duties = added s.duties moment t.duties; replays = rows; entries = t.entries + 1 })
    (is ∙ ap (λ (n : List ℕ). stepped_in n moment t.replays) named_so)
    ∙ ap (after_entry moment (replay_stepped s)) same

-- a cancellation keeps tables consistent
pub with_cancellation : (name : List ℕ) (moment : ℕ) (t now : Tables) (replays : List ReplayRow) → t ≡ now → replays ≡ cancelled_in name moment t.replays
    → IsConsistent t → now.entries + 1 < number_limit + 2 ^ 20 → IsConsistent (record t { replays = replays; entries = t.entries + 1 })
with_cancellation name moment t now replays same is was room = record {
  queues = was.queues;
  moment = was.moment;
  count = omega (arith, was.count);
  events = omega (arith, was.events);
  batches = omega (arith, was.batches);
  entries = omega (arith, room, ap (λ (s : Tables). s.entries) same);
  created = was.created;
  archives = was.archives;
  kept = was.kept;
  starts = omega (arith, was.starts, ap (length {A = ReplayRow}) is, changed_length name (cancelled_at moment) t.replays);
}

-- the tables after a cancellation
pub cancelled : (other : List ℕ) (moment : ℕ) (t now : Tables) (name : List ℕ) (replays : List ReplayRow) → t ≡ now → name ≡ other
    → replays ≡ cancelled_in name moment t.replays
    → record t { replays = replays; entries = t.entries + 1 } ≡ after_entry moment (replay_cancelled other) now
cancelled other moment t now name replays same named_so is =
    ap (λ (rows : List ReplayRow). record t { replays = rows; entries = t.entries + 1 }) (is ∙ ap (λ (n : List ℕ). cancelled_in n moment t.replays) named_so)
    ∙ ap (after_entry moment (replay_cancelled other)) same

-- an archive of the rule set is one of the archives
archive_there : (name : List ℕ) (rows : List Archive) (others : List Row) → map name_of rows ≡ map row_name others
    → is_some (named row_name name others) ≡ true → named name_of name rows ≡ None → ⊥
archive_there name rows [] same there none = let never : false ≡ true = there in cc
archive_there name [] (other ∷ others) same there none = absurd (cc)
archive_there name (a ∷ rows) (other ∷ others) same there none =
    let first : a.name ≡ other.name = cc in
    let rest : map name_of rows ≡ map row_name others = cc in
    (elim (bytes_eq other.name name) as (λ b. bytes_eq other.name name ≡ b → is_some (cond b (Some other) (named row_name name others)) ≡ true → ⊥) [
      | true ↦ λ e _.
          let here : bytes_eq a.name name ≡ true = ap (λ n. bytes_eq n name) first ∙ e in
          let found_so : Some a ≡ None = sym (ap (λ b. cond b (Some a) (named name_of name rows)) here) ∙ none in
          absurd (cc)
      | false ↦ λ e more.
          let here : bytes_eq a.name name ≡ false = ap (λ n. bytes_eq n name) first ∙ e in
          archive_there name rows others rest more (sym (ap (λ b. cond b (Some a) (named name_of name rows)) here) ∙ none)
    ]) refl there

pub archive_kept : (t now : Tables) (name : List ℕ) → t ≡ now → has_archive name now.set ≡ true → IsConsistent t → named name_of name t.archives ≡ None → ⊥
archive_kept t now name same there was none =
    archive_there name t.archives t.set.archives was.archives (subst (λ (s : Tables). has_archive name s.set ≡ true) (sym same) there) none

pub archive_known : (set : RuleSet) (name : List ℕ) → has_archive name set ≡ true → archive_at name set ≡ None → ⊥
archive_known set name there none = let never : false ≡ true = sym (ap is_some none) ∙ there in cc

pub new_replay_so : {E : Type 0} (r : Result NewReplay E) (moment : ℕ) (s : StartedReplay) (t : Tables) (row : Row) (archive : Archive) (settings : ReplaySettings)
    → archive_at s.archive t.set ≡ Some row → named name_of s.archive t.archives ≡ Some archive → settings ≡ settings_of moment row s
    → IfOk r (λ new. new.row ≡ first_row archive settings (next_number t.replays)) → IfOk r (λ new. new.names ≡ names_of (t.replays ++ new.row ∷ []))
    → IfOk r (λ new. IsNewReplay moment s t new)
new_replay_so (Ok new) moment s t row archive settings known kept settings_so is names = record {
  row = row;
  known = known;
  archive = archive;
  kept = kept;
  is = is ∙ ap (λ (x : ReplaySettings). first_row archive x (next_number t.replays)) settings_so;
  names = names;
}
new_replay_so (Err e) moment s t row archive settings known kept settings_so is names = tt
