-- Batches that are applied again: which ones the tables admit, and what applying them needs.
use Rattle.std.specs.Prelude.{◌≡◌, ℕ, ◌+◌, ◌≤◌, Bool, true, false, ◌&&◌, nat_le, List, [], ◌∷◌, length, Some, All}
use Rattle.json_text.specs.Limits.{most_text}
use Rattle.json_text.specs.Moment.{IsMoment}
use Rattle.event_shape.specs.Names.{IsBusName}
use Rattle.std.specs.Cmp.Lexicographic.{slice_cmp}
use Rattle.std.specs.Ordering.{nat_cmp}
use Rattle.name_rows.specs.Rows.{AreSorted, by_order}
use Rattle.rule_table.specs.RuleSet.{RuleSet, has_archive}
use Rattle.archive_keep.specs.declared.event_ref.KeptEvent.{KeptEvent}
use Rattle.replay_run.specs.declared.row.ReplayRow.{ReplayRow}
use Rattle.replay_run.specs.Replays.{running_named}
use Rattle.delivery_duties.specs.declared.duty.DutyRow.{DutyRow}
use Rattle.delivery_duties.specs.declared.duty.NewDuty.{NewDuty}
use Rattle.delivery_duties.specs.Duties.{Duties, pending_row}
use Rattle.router_requests.specs.Batch.{Accepted, Entry, control, accepted, attempt, replay_started, replay_stepped, replay_cancelled, messages_deleted, Batch}
use Rattle.router_core.specs.Tables.{Tables}
use Rattle.router_core.specs.Admitted.{IsTextAdmitted, IsAdmitted}
use Rattle.router_core.specs.Steps.{record_of}
use Rattle.router_core.specs.Ready.{IsPartOf, ArePartsOf, IsMadeOn, AreMadeOn, IsReadyFor}
use Rattle.router_requests.specs.View.{batch_of}
use Rattle.duty_journal.specs.declared.redo.Redo.{Redo}
use Rattle.duty_journal.specs.declared.redo.Redo.TheVariants.{Ready, Attempt}
use Rattle.duty_journal.specs.declared.redo.Plan.{Plan}
use Rattle.duty_journal.specs.declared.redo.Plan.TheVariants.{Parts, OneAttempt}
use Rattle.duty_journal.specs.declared.admit.Need.{Need}
use Rattle.duty_journal.specs.declared.admit.Need.TheVariants as needs

-- None of the duties is claimed.
-- Shown by: proofs alone.
abbrev pub AreUnclaimed : List (ℕ × DutyRow) → Type 0
AreUnclaimed [] = Unit {0}
AreUnclaimed (entry ∷ rows) = (entry.1.claimed ≡ false) × AreUnclaimed rows

-- No duty of the tables is claimed, as between a router's start and its first claim.
-- Shown by: proofs alone.
abbrev pub HasNoClaim : Tables → Type 0
HasNoClaim t = AreUnclaimed t.duties.pending

-- The duty of this number is pending and not claimed.
-- Shown by: proofs alone.
abbrev pub IsFreeDuty : ℕ → Duties → Type 0
IsFreeDuty duty duties = (row : DutyRow) × (pending_row duty duties ≡ Some row) × (row.claimed ≡ false) × (row.number ≡ duty)

-- What a batch needs to be applied to these tables, which admit it: its parts, or nothing if it is an attempt of a free duty.
-- Shown by: proofs alone.
abbrev pub IsRedoOf : Tables → Batch → Redo → Type 0
IsRedoOf t b (Ready r) = IsReadyFor t r × (batch_of r.batch ≡ b)
IsRedoOf t b (Attempt moment duty outcome) = (b ≡ record_of moment duty outcome) × IsAdmitted t b × IsFreeDuty duty t.duties

-- for private clauses: the text of the duty is not too long
abbrev pub is_short : NewDuty → Bool
is_short duty = nat_le (length duty.text) most_text

-- for private clauses: the name is before the first of the others, if there is one
abbrev pub is_before_first : List ℕ → List (List ℕ) → Bool
is_before_first name [] = true
is_before_first name (other ∷ others) = by_order (slice_cmp nat_cmp name other) true false false

-- for private clauses: each name is before the one after it
abbrev pub are_in_order : List (List ℕ) → Bool
are_in_order [] = true
are_in_order (name ∷ names) = is_before_first name names && are_in_order names

-- for private clauses: the next event of this number, if this is the tables' rule set
pub record IsNextEvent (number : ℕ) (set : RuleSet) (e : Accepted) : Type 0 where
  pub number_is : e.number ≡ number
  pub bus : IsBusName e.bus
  pub version : e.k ≤ set.count
  pub time : IsMoment e.time
  pub text : IsTextAdmitted e.text
  pub archive_order : AreSorted (λ name. name) e.archives
  pub archives : All (λ name. has_archive name set ≡ true) e.archives
  pub few : length e.duties ≤ 1500
  pub short : All (λ (duty : NewDuty). length duty.text ≤ most_text) e.duties

-- for private clauses: the operations are events with numbers from this one on
abbrev pub AreNextEvents : ℕ → RuleSet → List Entry → Type 0
AreNextEvents number set [] = Unit {0}
AreNextEvents number set (accepted e ∷ es) = IsNextEvent number set e × AreNextEvents (number + 1) set es
AreNextEvents number set (control c ∷ es) = ⊥
AreNextEvents number set (attempt duty outcome ∷ es) = ⊥
AreNextEvents number set (replay_started s ∷ es) = ⊥
AreNextEvents number set (replay_stepped s ∷ es) = ⊥
AreNextEvents number set (replay_cancelled name ∷ es) = ⊥
AreNextEvents number set (messages_deleted queue through ∷ es) = ⊥

-- for private clauses: the replay of the name is running, and its next event has this number
pub record IsNextOfReplay (t : Tables) (name : List ℕ) (number : ℕ) : Type 0 where
  pub row : ReplayRow
  pub runs : running_named name t.replays ≡ Some row
  pub event : KeptEvent
  pub rest : List KeptEvent
  pub next : row.replay.left ≡ event ∷ rest
  pub number_is : number ≡ event.number

-- for private clauses: what one operation of a batch of this moment needs to be applied
abbrev pub IsNeedOf : Tables → ℕ → Entry → Need → Type 0
IsNeedOf t moment e (needs.OfPart part) = IsPartOf moment t.set e part × IsMadeOn moment t e part
IsNeedOf t moment e (needs.OfAttempt duty outcome) = (e ≡ attempt duty outcome) × IsFreeDuty duty t.duties

-- for private clauses: what the operations of a batch of this moment need to be applied
abbrev pub IsPlanOf : Tables → ℕ → List Entry → Plan → Type 0
IsPlanOf t moment es (Parts parts) = ArePartsOf moment t.set es parts.items × AreMadeOn moment t es parts.items
IsPlanOf t moment es (OneAttempt duty outcome) = (es ≡ attempt duty outcome ∷ []) × IsFreeDuty duty t.duties
