-- What the steps of a replay repeat, over admitted batches: `repeats_front` and `repeats_all`, which the law cites. A replay is followed by its
-- name (`Follows`) from its start on; before its start no step names it.
use Rattle.std.proofs.Common.{◌≡◌, ◌==◌, ℕ, ◌+◌, ◌<◌, Bool, true, false, cond, List, [], ◌∷◌, ◌++◌, length, map, Option, Some, None, refl, sym, ap, ◌∙◌, subst, arith, append_assoc}
use Rattle.std.specs.Prelude.{All, flat_map, is_some}
use Rattle.std.specs.Str.{bytes_eq}
use Rattle.std.proofs.lemmas.Bool.{eqb-true}
use Rattle.std.proofs.lemmas.Bool.Decides.{nat_tests}
use Rattle.std.proofs.lemmas.Grind.{flat_map-append}
use Rattle.std.proofs.lemmas.List.{append-nil, length-map}
use Rattle.std.proofs.lemmas.Slice.Eq.{bytes_eq-Decides}
use Rattle.name_rows.specs.Rows.{named}
use Rattle.archive_keep.specs.declared.event_ref.KeptEvent.{KeptEvent}
use Rattle.archive_keep.specs.Archive.{Archive}
use Rattle.archive_keep.specs.Archives.{name_of}
use Rattle.rule_table.specs.RuleSet.{archive_at, has_archive}
use Rattle.rule_table.specs.RuleSet.{Archive as Row}
use Rattle.replay_run.specs.declared.row.ReplayRow.{ReplayRow}
use Rattle.replay_run.specs.declared.settings.ReplaySettings.{ReplaySettings}
use Rattle.replay_run.specs.declared.state.ReplayState.TheVariants.{Running, Completed, Cancelled}
use Rattle.replay_run.specs.Selection.{selection_of}
use Rattle.replay_run.specs.Replay.{Replay, IsSound, IsSoundIf, advanced, advanced_by, after_cancellation, after_event, new_replay, replay_state}
use Rattle.replay_run.specs.Replays.{cancelled_at, cancelled_in, changed_at, changed_named, first_row, found, if_running, is_running, next_number, running_named, stepped_at, stepped_in}
use Rattle.replay_run.specs.Replays as replays
use Rattle.replay_run.proofs.ReplayLemmas.{advanced_sound, cancelled_sound, completed_in, running_left}
use Rattle.replay_run.proofs.ReplaysLemmas.{cancelled_kept, first_kept, runs_state, stepped_kept}
use Rattle.router_requests.specs.declared.batch.StartedReplay.{StartedReplay}
use Rattle.router_requests.specs.Batch.{Batch, Entry, Stepped, control, accepted, attempt, replay_started, replay_stepped, replay_cancelled, messages_deleted}
use Rattle.router_core.specs.Tables.{Tables, after_entry, after_entries, after_batch, first_tables, replays_started, settings_of, tables_after, with_start}
use Rattle.router_core.specs.Admitted.{AreAdmitted, AreBatchesAdmitted, IsAdmitted, IsEntryAdmitted, IsStartAdmitted}
use Rattle.router_core.specs.Replaying.{IsCompleted, IsStartIn, repeated_by, repeated_in}

-- ---- the replay of a name

same_text : (x y : List ℕ) → bytes_eq x y ≡ true → x ≡ y
same_text x y e = (bytes_eq-Decides x y).0 e

-- one more replay leaves those that are there
found_pushed : (name : List ℕ) (all : List ReplayRow) (new row : ReplayRow) → found name all ≡ Some row → found name (all ++ new ∷ []) ≡ Some row
found_pushed name [] new row there = absurd (cc)
found_pushed name (r ∷ all) new row there =
    (elim (bytes_eq (replays.name_of r) name) as (λ b. cond b (Some r) (found name all) ≡ Some row → cond b (Some r) (found name (all ++ new ∷ [])) ≡ Some row) [
      | true ↦ λ is. is
      | false ↦ λ is. found_pushed name all new row is
    ]) there

-- the last replay is that of its name if no other is
found_last : (name : List ℕ) (all : List ReplayRow) (new : ReplayRow) → found name all ≡ None → replays.name_of new ≡ name → found name (all ++ new ∷ []) ≡ Some new
found_last name [] new none own = let same : bytes_eq (replays.name_of new) name ≡ true = (bytes_eq-Decides (replays.name_of new) name).1 own in rw same refl
found_last name (r ∷ all) new none own =
    (elim (bytes_eq (replays.name_of r) name) as (λ b. cond b (Some r) (found name all) ≡ None → cond b (Some r) (found name (all ++ new ∷ [])) ≡ Some new) [
      | true ↦ λ is. absurd (cc)
      | false ↦ λ is. found_last name all new is own
    ]) none

-- a change that leaves names is found
abbrev KeepsName : (ReplayRow → ReplayRow) → Type 0
KeepsName change = (row : ReplayRow) → replays.name_of (change row) ≡ replays.name_of row

found_changed : (name : List ℕ) (change : ReplayRow → ReplayRow) (all : List ReplayRow) (row : ReplayRow) → KeepsName change → found name all ≡ Some row
    → found name (changed_named name change all) ≡ Some (change row)
found_changed name change [] row keeps there = absurd (cc)
found_changed name change (r ∷ all) row keeps there =
    (elim (bytes_eq (replays.name_of r) name) as (λ b. bytes_eq (replays.name_of r) name ≡ b → cond b (Some r) (found name all) ≡ Some row
    → found name (cond b (change r ∷ all) (r ∷ changed_named name change all)) ≡ Some (change row)) [
      | true ↦ λ e is.
          let same : r ≡ row = cc in
          let own : bytes_eq (replays.name_of (change r)) name ≡ true = ap (λ n. bytes_eq n name) (keeps r) ∙ e in
          ap (λ b. cond b (Some (change r)) (found name all)) own ∙ ap (λ x. Some (change x)) same
      | false ↦ λ e is.
          ap (λ b. cond b (Some r) (found name (changed_named name change all))) e ∙ found_changed name change all row keeps is
    ]) refl there

-- a change of the replay of another name is not
apart_so : (x y name : List ℕ) → bytes_eq x y ≡ true → bytes_eq y name ≡ false → bytes_eq x name ≡ false
apart_so x y name same other = ap (λ n. bytes_eq n name) (same_text x y same) ∙ other

found_other : (name other : List ℕ) (change : ReplayRow → ReplayRow) (all : List ReplayRow) → KeepsName change → bytes_eq other name ≡ false
    → found name (changed_named other change all) ≡ found name all
found_other name other change [] keeps apart = refl
found_other name other change (r ∷ all) keeps apart =
    (elim (bytes_eq (replays.name_of r) other) as (λ b. bytes_eq (replays.name_of r) other ≡ b
    → found name (cond b (change r ∷ all) (r ∷ changed_named other change all)) ≡ found name (r ∷ all)) [
      | true ↦ λ e.
          let own : bytes_eq (replays.name_of r) name ≡ false = apart_so (replays.name_of r) other name e apart in
          let new : bytes_eq (replays.name_of (change r)) name ≡ false = ap (λ n. bytes_eq n name) (keeps r) ∙ own in
          ap (λ b. cond b (Some (change r)) (found name all)) new ∙ sym (ap (λ b. cond b (Some r) (found name all)) own)
      | false ↦ λ e. ap (λ o. cond (bytes_eq (replays.name_of r) name) (Some r) o) (found_other name other change all keeps apart)
    ]) refl

steps_keep : (moment : ℕ) → KeepsName (stepped_at moment)
steps_keep moment row = (stepped_kept moment row).1

cancels_keep : (moment : ℕ) → KeepsName (cancelled_at moment)
cancels_keep moment row = (cancelled_kept moment row).1

-- a running replay of a name is the replay of the name
named_running : (o : Option ReplayRow) (row : ReplayRow) → if_running o ≡ Some row → (o ≡ Some row) × (is_running row ≡ true)
named_running None row is = absurd (cc)
named_running (Some r) row is =
    (elim (is_running r) as (λ b. is_running r ≡ b → cond b (Some r) None ≡ Some row → (Some r ≡ Some row) × (is_running row ≡ true)) [
      | true ↦ λ e h. let same : r ≡ row = cc in (ap (λ x. Some x) same, subst (λ (x : ReplayRow). is_running x ≡ true) same e)
      | false ↦ λ e h. absurd (cc)
    ]) refl is

-- ---- a replay stays

-- a change of one name leaves a replay of each name
stays_changed : (name other : List ℕ) (change : ReplayRow → ReplayRow) (all : List ReplayRow) (row : ReplayRow) → KeepsName change → found name all ≡ Some row
    → (new : ReplayRow) × (found name (changed_named other change all) ≡ Some new)
stays_changed name other change all row keeps there =
    (elim (bytes_eq other name) as (λ b. bytes_eq other name ≡ b → (new : ReplayRow) × (found name (changed_named other change all) ≡ Some new)) [
      | true ↦ λ e.
          let same = same_text other name e in
          (change row, subst (λ n. found name (changed_named n change all) ≡ Some (change row)) (sym same) (found_changed name change all row keeps there))
      | false ↦ λ e. (row, found_other name other change all keeps e ∙ there)
    ]) refl

stays_started : (name : List ℕ) (moment : ℕ) (s : StartedReplay) (o : Option Row) (p : Option Archive) (all : List ReplayRow) (row : ReplayRow)
    → found name all ≡ Some row → found name (with_start moment s o p all) ≡ Some row
stays_started name moment s None p all row there = there
stays_started name moment s (Some r) None all row there = there
stays_started name moment s (Some r) (Some a) all row there = found_pushed name all (first_row a (settings_of moment r s) (next_number all)) row there

stays : (name : List ℕ) (moment : ℕ) (e : Entry) (t : Tables) (row : ReplayRow) → found name t.replays ≡ Some row
    → (new : ReplayRow) × (found name (after_entry moment e t).replays ≡ Some new)
stays name moment (control c) t row there = (row, there)
stays name moment (accepted e) t row there = (row, there)
stays name moment (attempt duty outcome) t row there = (row, there)
stays name moment (replay_started s) t row there =
    (row, stays_started name moment s (archive_at s.archive t.set) (named name_of s.archive t.archives) t.replays row there)
stays name moment (replay_stepped s) t row there = stays_changed name s.name (stepped_at moment) t.replays row (steps_keep moment) there
stays name moment (replay_cancelled other) t row there = stays_changed name other (cancelled_at moment) t.replays row (cancels_keep moment) there
stays name moment (messages_deleted queue through) t row there = (row, there)

stays_all : (name : List ℕ) (moment : ℕ) (es : List Entry) (t : Tables) (row : ReplayRow) → found name t.replays ≡ Some row
    → (new : ReplayRow) × (found name (after_entries moment es t).replays ≡ Some new)
stays_all name moment [] t row there = (row, there)
stays_all name moment (e ∷ es) t row there = let (new, is) = stays name moment e t row there in stays_all name moment es (after_entry moment e t) new is

stays_on : (name : List ℕ) (bs : List Batch) (t : Tables) (row : ReplayRow) → found name t.replays ≡ Some row
    → (new : ReplayRow) × (found name (tables_after bs t).replays ≡ Some new)
stays_on name [] t row there = (row, there)
stays_on name (b ∷ bs) t row there = let (new, is) = stays_all name b.moment b.entries t row there in stays_on name bs (after_batch b t) new is

-- a replay that is not there was not there before
none_before : (name : List ℕ) (o p : Option ReplayRow) → ((row : ReplayRow) → o ≡ Some row → (new : ReplayRow) × (p ≡ Some new)) → p ≡ None → o ≡ None
none_before name None p stay none = refl
none_before name (Some row) p stay none = let (new, is) = stay row refl in absurd (cc)

-- ---- no step before the start

no_step : (name : List ℕ) (moment : ℕ) (e : Entry) (t : Tables) → IsEntryAdmitted moment e t → found name t.replays ≡ None → repeated_by name e ≡ []
no_step name moment (control c) t admitted none = refl
no_step name moment (accepted e) t admitted none = refl
no_step name moment (attempt duty outcome) t admitted none = refl
no_step name moment (replay_started s) t admitted none = refl
no_step name moment (replay_stepped s) t admitted none =
    (elim (bytes_eq s.name name) as (λ b. bytes_eq s.name name ≡ b → cond b (s.event ∷ []) [] ≡ []) [
      | true ↦ λ e.
          let (there, runs) = named_running (found s.name t.replays) admitted.row admitted.runs in
          let own : found name t.replays ≡ Some admitted.row = ap (λ n. found n t.replays) (sym (same_text s.name name e)) ∙ there in
          absurd (cc)
      | false ↦ λ e. refl
    ]) refl
no_step name moment (replay_cancelled other) t admitted none = refl
no_step name moment (messages_deleted queue through) t admitted none = refl

no_steps : (name : List ℕ) (moment : ℕ) (es : List Entry) (t : Tables) → AreAdmitted moment es t → found name (after_entries moment es t).replays ≡ None
    → flat_map (repeated_by name) es ≡ []
no_steps name moment [] t admitted none = refl
no_steps name moment (e ∷ es) t (first, rest) none =
    let now : found name t.replays ≡ None =
    none_before name (found name t.replays) (found name (after_entries moment (e ∷ es) t).replays) (stays_all name moment (e ∷ es) t) none in
    ap (λ (xs : List ℕ). xs ++ flat_map (repeated_by name) es) (no_step name moment e t first now) ∙ no_steps name moment es (after_entry moment e t) rest none

none_repeated : (name : List ℕ) (bs : List Batch) (t : Tables) → AreBatchesAdmitted t bs → found name (tables_after bs t).replays ≡ None → repeated_in name bs ≡ []
none_repeated name [] t admitted none = refl
none_repeated name (b ∷ bs) t (first, rest) none =
    let now : found name (after_batch b t).replays ≡ None =
    none_before name (found name (after_batch b t).replays) (found name (tables_after bs (after_batch b t)).replays) (stays_on name bs (after_batch b t)) none in
    ap (λ (xs : List ℕ). xs ++ repeated_in name bs) (no_steps name b.moment b.entries t first.entries now) ∙ none_repeated name bs (after_batch b t) rest none

-- ---- a replay that is followed

abbrev number_of : KeptEvent → ℕ
number_of e = e.number

-- of the numbers that the replay selected these were repeated: what it has left are the others, unless it was cancelled before its end
record Follows (name : List ℕ) (selection done : List ℕ) (all : List ReplayRow) : Type 0 where
  pub row : ReplayRow
  pub there : found name all ≡ Some row
  pub sound : IsSound row.replay
  pub rest : List ℕ
  pub whole : selection ≡ done ++ rest
  pub left : row.replay.cancelled ≡ false → rest ≡ map number_of row.replay.left
  pub ended : row.replay.cancelled ≡ true → 0 < length rest

abbrev same_replay : ℕ → ReplayRow → Type 0
same_replay moment row = (changed_at moment row).replay ≡ row.replay

changed_replay : (moment : ℕ) (row : ReplayRow) → same_replay moment row
changed_replay moment row = elim (is_running row) as (λ b. (cond b row (record row { ended_at = Some moment })).replay ≡ row.replay) [ true ↦ refl | false ↦ refl ]

stepped_replay : (moment : ℕ) (row : ReplayRow) (e : KeptEvent) (es : List KeptEvent) → is_running row ≡ true → row.replay.left ≡ e ∷ es
    → (stepped_at moment row).replay ≡ after_event e es row.replay
stepped_replay moment row e es runs left =
    let new = record row { replay = advanced row.replay } in
    ap (λ b. (cond b (changed_at moment new) row).replay) runs ∙ changed_replay moment new ∙ ap (λ l. advanced_by l row.replay) left

cancelled_replay : (moment : ℕ) (row : ReplayRow) → is_running row ≡ true → (cancelled_at moment row).replay ≡ after_cancellation row.replay
cancelled_replay moment row runs =
    let new = record row { replay = after_cancellation row.replay } in
    ap (λ b. (cond b (changed_at moment new) row).replay) runs ∙ changed_replay moment new

-- the same replay, which nothing was repeated of
follows_same : (name selection done : List ℕ) (all now : List ReplayRow) → (f : Follows name selection done all) → found name now ≡ found name all
    → Follows name selection (done ++ []) now
follows_same name selection done all now f same = record {
  row = f.row;
  there = same ∙ f.there;
  sound = f.sound;
  rest = f.rest;
  whole = f.whole ∙ ap (λ (xs : List ℕ). xs ++ f.rest) (sym (append-nil done));
  left = f.left;
  ended = f.ended;
}

-- one event of it is repeated
follows_step : (name selection done : List ℕ) (moment : ℕ) (s : Stepped) (t : Tables) → (f : Follows name selection done t.replays)
    → IsEntryAdmitted moment (replay_stepped s) t → s.name ≡ name → Follows name selection (done ++ s.event ∷ []) (stepped_in s.name moment t.replays)
follows_step name selection done moment s t f admitted own =
    let (named_so, runs) = named_running (found s.name t.replays) admitted.row admitted.runs in
    let there : found s.name t.replays ≡ Some f.row = ap (λ n. found n t.replays) own ∙ f.there in
    let same : admitted.row ≡ f.row = cc in
    let running_now : is_running f.row ≡ true = subst (λ (r : ReplayRow). is_running r ≡ true) same runs in
    let next : f.row.replay.left ≡ admitted.event ∷ admitted.rest = subst (λ (r : ReplayRow). r.replay.left ≡ admitted.event ∷ admitted.rest) same admitted.next in
    let (kept, all, more) = running_left f.row.replay f.sound (runs_state f.row running_now) in
    let is : (stepped_at moment f.row).replay ≡ after_event admitted.event admitted.rest f.row.replay =
    stepped_replay moment f.row admitted.event admitted.rest running_now next in
    let rest_is : f.rest ≡ s.event ∷ map number_of admitted.rest =
    f.left kept ∙ ap (map number_of) next ∙ ap (λ n. n ∷ map number_of admitted.rest) (sym admitted.number) in
    let sound = advanced_sound f.row.replay admitted.event admitted.rest f.sound (runs_state f.row running_now) next in
    record {
      row = stepped_at moment f.row;
      there = ap (λ n. found name (changed_named n (stepped_at moment) t.replays)) own ∙ found_changed name (stepped_at moment) t.replays f.row (steps_keep moment) f.there;
      sound = subst IsSound (sym is) sound;
      rest = map number_of admitted.rest;
      whole = f.whole ∙ ap (λ (xs : List ℕ). done ++ xs) rest_is ∙ sym (append_assoc done (s.event ∷ []) (map number_of admitted.rest));
      left = λ _. ap (λ (r : Replay). map number_of r.left) (sym is);
      ended = λ ended. let never : true ≡ false = sym ended ∙ ap (λ (r : Replay). r.cancelled) is ∙ kept in absurd (cc);
    }

-- it is cancelled
follows_cancel : (name selection done : List ℕ) (moment : ℕ) (other : List ℕ) (t : Tables) → (f : Follows name selection done t.replays)
    → IsEntryAdmitted moment (replay_cancelled other) t → other ≡ name → Follows name selection (done ++ []) (cancelled_in other moment t.replays)
follows_cancel name selection done moment other t f (named_row, named_so) own =
    let (found_so, runs) = named_running (found other t.replays) named_row named_so in
    let there : found other t.replays ≡ Some f.row = ap (λ n. found n t.replays) own ∙ f.there in
    let same : named_row ≡ f.row = cc in
    let running_now : is_running f.row ≡ true = subst (λ (r : ReplayRow). is_running r ≡ true) same runs in
    let (kept, all, more) = running_left f.row.replay f.sound (runs_state f.row running_now) in
    let is : (cancelled_at moment f.row).replay ≡ after_cancellation f.row.replay = cancelled_replay moment f.row running_now in
    record {
      row = cancelled_at moment f.row;
      there = ap (λ n. found name (changed_named n (cancelled_at moment) t.replays)) own ∙ found_changed name (cancelled_at moment) t.replays f.row (cancels_keep moment) f.there;
      sound = subst IsSound (sym is) (cancelled_sound f.row.replay f.sound (runs_state f.row running_now));
      rest = f.rest;
      whole = f.whole ∙ ap (λ (xs : List ℕ). xs ++ f.rest) (sym (append-nil done));
      left = λ open_. let never : true ≡ false = ap (λ (r : Replay). r.cancelled) (sym is) ∙ open_ in absurd (cc);
      ended = λ _. omega (arith, ap (length {A = ℕ}) (f.left kept), length-map f.row.replay.left number_of, all, more);
    }

follows_entry : (name selection done : List ℕ) (moment : ℕ) (e : Entry) (t : Tables) → Follows name selection done t.replays → IsEntryAdmitted moment e t
    → Follows name selection (done ++ repeated_by name e) (after_entry moment e t).replays
follows_entry name selection done moment (control c) t f admitted = follows_same name selection done t.replays t.replays f refl
follows_entry name selection done moment (accepted e) t f admitted = follows_same name selection done t.replays t.replays f refl
follows_entry name selection done moment (attempt duty outcome) t f admitted = follows_same name selection done t.replays t.replays f refl
follows_entry name selection done moment (replay_started s) t f admitted =
    follows_same name selection done t.replays (replays_started moment s t) f
    (stays_started name moment s (archive_at s.archive t.set) (named name_of s.archive t.archives) t.replays f.row f.there ∙ sym f.there)
follows_entry name selection done moment (replay_stepped s) t f admitted =
    (elim (bytes_eq s.name name) as (λ b. bytes_eq s.name name ≡ b → Follows name selection (done ++ cond b (s.event ∷ []) []) (stepped_in s.name moment t.replays)) [
      | true ↦ λ e. follows_step name selection done moment s t f admitted (same_text s.name name e)
      | false ↦ λ e.
          follows_same name selection done t.replays (stepped_in s.name moment t.replays) f
          (found_other name s.name (stepped_at moment) t.replays (steps_keep moment) e)
    ]) refl
follows_entry name selection done moment (replay_cancelled other) t f admitted =
    (elim (bytes_eq other name) as (λ b. bytes_eq other name ≡ b → Follows name selection (done ++ []) (cancelled_in other moment t.replays)) [
      | true ↦ λ e. follows_cancel name selection done moment other t f admitted (same_text other name e)
      | false ↦ λ e.
          follows_same name selection done t.replays (cancelled_in other moment t.replays) f
          (found_other name other (cancelled_at moment) t.replays (cancels_keep moment) e)
    ]) refl
follows_entry name selection done moment (messages_deleted queue through) t f admitted = follows_same name selection done t.replays t.replays f refl

follows_entries : (name selection done : List ℕ) (moment : ℕ) (es : List Entry) (t : Tables) → Follows name selection done t.replays → AreAdmitted moment es t
    → Follows name selection (done ++ flat_map (repeated_by name) es) (after_entries moment es t).replays
follows_entries name selection done moment [] t f admitted = subst (λ (xs : List ℕ). Follows name selection xs t.replays) (sym (append-nil done)) f
follows_entries name selection done moment (e ∷ es) t f (first, rest) =
    let now = after_entry moment e t in
    subst (λ (xs : List ℕ). Follows name selection xs (after_entries moment es now).replays)
    (append_assoc done (repeated_by name e) (flat_map (repeated_by name) es))
    (follows_entries name selection (done ++ repeated_by name e) moment es now (follows_entry name selection done moment e t f first) rest)

follows_batches : (name selection done : List ℕ) (bs : List Batch) (t : Tables) → Follows name selection done t.replays → AreBatchesAdmitted t bs
    → Follows name selection (done ++ repeated_in name bs) (tables_after bs t).replays
follows_batches name selection done [] t f admitted = subst (λ (xs : List ℕ). Follows name selection xs t.replays) (sym (append-nil done)) f
follows_batches name selection done (b ∷ bs) t f (first, rest) =
    let here = flat_map (repeated_by name) b.entries in
    subst (λ (xs : List ℕ). Follows name selection xs (tables_after bs (after_batch b t)).replays) (append_assoc done here (repeated_in name bs))
    (follows_batches name selection (done ++ here) bs (after_batch b t) (follows_entries name selection done b.moment b.entries t f first.entries) rest)

-- ---- from the start on

split_tables : (xs ys : List Batch) (t : Tables) → tables_after (xs ++ ys) t ≡ tables_after ys (tables_after xs t)
split_tables [] ys t = refl
split_tables (x ∷ xs) ys t = split_tables xs ys (after_batch x t)

split_admitted : (xs ys : List Batch) (t : Tables) → AreBatchesAdmitted t (xs ++ ys) → AreBatchesAdmitted t xs × AreBatchesAdmitted (tables_after xs t) ys
split_admitted [] ys t all = (tt, all)
split_admitted (x ∷ xs) ys t (first, rest) = let both = split_admitted xs ys (after_batch x t) rest in ((first, both.0), both.1)

some_row : (o : Option Row) → is_some o ≡ true → (row : Row) × (o ≡ Some row)
some_row None e = absurd (cc)
some_row (Some row) e = (row, refl)

-- the replay as it starts
follows_start : (s : StartedReplay) (moment : ℕ) (t : Tables) (a : Archive) → IsStartAdmitted t s → named name_of s.archive t.archives ≡ Some a
    → Follows s.name (map number_of (selection_of s.range moment a)) [] (replays_started moment s t)
follows_start s moment t a admitted kept =
    let (row, known) = some_row (archive_at s.archive t.set) admitted.archive in
    let settings = settings_of moment row s in
    let new = first_row a settings (next_number t.replays) in
    let chosen = selection_of s.range moment a in
    let is : replays_started moment s t ≡ t.replays ++ new ∷ [] =
    ap (λ o. with_start moment s o (named name_of s.archive t.archives) t.replays) known ∙ ap (λ p. with_start moment s (Some row) p t.replays) kept in
    let own : replays.name_of new ≡ s.name = ap (λ (x : ReplaySettings). x.name) (first_kept a settings (next_number t.replays)).1 in
    let first : ReplayRow = record { number = next_number t.replays; settings = settings; replay = new_replay chosen; ended_at = None } in
    let replay_is : new.replay ≡ new_replay chosen = changed_replay moment first in
    let fresh : IsSound (new_replay chosen) = omega arith in
    record {
      row = new;
      there = ap (found s.name) is ∙ found_last s.name t.replays new admitted.new own;
      sound = subst IsSound (sym replay_is) fresh;
      rest = map number_of chosen;
      whole = refl;
      left = λ _. ap (λ (r : Replay). map number_of r.left) (sym replay_is);
      ended = λ ended. let never : true ≡ false = sym ended ∙ ap (λ (r : Replay). r.cancelled) replay_is in absurd (cc);
    }

-- a replay of the batches, with the numbers that all steps of its name repeat
follows_law : (batches : List Batch) (s : StartedReplay) (selection : List KeptEvent) → AreBatchesAdmitted first_tables batches → IsStartIn batches s selection
    → Follows s.name (map number_of selection) (repeated_in s.name batches) (tables_after batches first_tables).replays
follows_law batches s selection admitted at =
    let bs = at.before ++ at.batch ∷ at.after in
    let t = tables_after at.before first_tables in
    let (early, later) = split_admitted at.before (at.batch ∷ at.after) first_tables (subst (AreBatchesAdmitted first_tables) at.are admitted) in
    let one : AreAdmitted at.batch.moment (replay_started s ∷ []) t = subst (λ es. AreAdmitted at.batch.moment es t) at.starts later.0.entries in
    let start = follows_start s at.batch.moment t at.archive one.0 at.kept in
    let none : repeated_in s.name at.before ≡ [] = none_repeated s.name at.before first_tables early one.0.new in
    let here : flat_map (repeated_by s.name) at.batch.entries ≡ [] = ap (flat_map (repeated_by s.name)) at.starts in
    let now : (after_batch at.batch t).replays ≡ replays_started at.batch.moment s t = ap (λ es. (after_entries at.batch.moment es t).replays) at.starts in
    let begun = subst (Follows s.name (map number_of (selection_of s.range at.batch.moment at.archive)) []) (sym now) start in
    let done = follows_batches s.name (map number_of (selection_of s.range at.batch.moment at.archive)) [] at.after (after_batch at.batch t) begun later.1 in
    let all : repeated_in s.name bs ≡ repeated_in s.name at.after =
    flat_map-append (λ (b : Batch). flat_map (repeated_by s.name) b.entries) at.before (at.batch ∷ at.after)
    ∙ ap (λ (xs : List ℕ). xs ++ repeated_in s.name (at.batch ∷ at.after)) none ∙ ap (λ (xs : List ℕ). xs ++ repeated_in s.name at.after) here in
    let end : tables_after bs first_tables ≡ tables_after at.after (after_batch at.batch t) = split_tables at.before (at.batch ∷ at.after) first_tables in
    let chosen : map number_of (selection_of s.range at.batch.moment at.archive) ≡ map number_of selection = ap (map number_of) (sym at.is) in
    let whole : Follows s.name (map number_of selection) (repeated_in s.name bs) (tables_after bs first_tables).replays =
    subst (λ (t2 : Tables). Follows s.name (map number_of selection) (repeated_in s.name bs) t2.replays) (sym end)
    (subst (λ (xs : List ℕ). Follows s.name (map number_of selection) xs (tables_after at.after (after_batch at.batch t)).replays) (sym all)
    (subst (λ (xs : List ℕ). Follows s.name xs (repeated_in s.name at.after) (tables_after at.after (after_batch at.batch t)).replays) chosen done)) in
    subst (λ (xs : List Batch). Follows s.name (map number_of selection) (repeated_in s.name xs) (tables_after xs first_tables).replays) (sym at.are) whole

pub repeats_front : (batches : List Batch) (s : StartedReplay) (selection : List KeptEvent) → AreBatchesAdmitted first_tables batches → IsStartIn batches s selection
    → (rest : List ℕ) × (map number_of selection ≡ repeated_in s.name batches ++ rest)
repeats_front batches s selection admitted at = let f = follows_law batches s selection admitted at in (f.rest, f.whole)

-- ---- all of the selection

no_more : (xs rest : List ℕ) → xs ≡ xs ++ rest → rest ≡ []
no_more [] rest is = sym is
no_more (x ∷ xs) rest is = no_more xs rest (cc)

none_left : (es : List KeptEvent) → map number_of es ≡ [] → es ≡ []
none_left [] is = refl
none_left (e ∷ es) is = absurd (cc)

equal_test : (m n : ℕ) → m ≡ n → (m == n) ≡ true
equal_test m n is = grind (arith, nat_tests)

completed_so : (b : Bool) (r : Replay) (rest : List ℕ) → r.cancelled ≡ b → IsSoundIf b r → (b ≡ false → rest ≡ map number_of r.left) → (b ≡ true → 0 < length rest)
    → rest ≡ [] → replay_state r ≡ Completed
completed_so true r rest is sound left ended none = absurd (omega (arith, ended refl, ap (length {A = ℕ}) none))
completed_so false r rest is sound left ended none =
    let empty : r.left ≡ [] = none_left r.left (sym (left refl) ∙ none) in
    let same : (r.repeated == r.selected) ≡ true = equal_test r.repeated r.selected (omega (arith, sound, ap (length {A = KeptEvent}) empty)) in
    ap (λ b. cond b Cancelled (cond (r.repeated == r.selected) Completed Running)) is ∙ ap (λ b. cond b Completed Running) same

rest_none : (r : Replay) (rest : List ℕ) → IsSound r → (r.cancelled ≡ false → rest ≡ map number_of r.left) → replay_state r ≡ Completed → rest ≡ []
rest_none r rest sound left done =
    let (kept, test) = completed_in r.cancelled (r.repeated == r.selected) done in
    let now : length r.left + r.repeated ≡ r.selected = subst (λ b. IsSoundIf b r) kept sound in
    let same : r.repeated ≡ r.selected = eqb-true r.repeated r.selected test in
    no_length rest (omega (arith, ap (length {A = ℕ}) (left kept), length-map r.left number_of, now, same))
  where
    no_length : (xs : List ℕ) → length xs ≡ 0 → xs ≡ []
    no_length [] e = refl
    no_length (x ∷ xs) e = absurd (omega (arith, e))

pub repeats_all : (batches : List Batch) (s : StartedReplay) (selection : List KeptEvent) → AreBatchesAdmitted first_tables batches → IsStartIn batches s selection
    → ((repeated_in s.name batches ≡ map number_of selection) → IsCompleted s.name (tables_after batches first_tables))
    × (IsCompleted s.name (tables_after batches first_tables) → (repeated_in s.name batches ≡ map number_of selection))
repeats_all batches s selection admitted at =
    let f = follows_law batches s selection admitted at in
    let done = repeated_in s.name batches in (
      (λ same.
          let none : f.rest ≡ [] = no_more done f.rest (same ∙ f.whole) in
          (f.row, f.there, completed_so f.row.replay.cancelled f.row.replay f.rest refl f.sound f.left f.ended none)),
      (λ completed.
          let (row, there, state) = completed in
          let own : row ≡ f.row = (let both : Some row ≡ Some f.row = sym there ∙ f.there in cc) in
          let none : f.rest ≡ [] = rest_none f.row.replay f.rest f.sound f.left (subst (λ (r : ReplayRow). replay_state r.replay ≡ Completed) own state) in
          sym (f.whole ∙ ap (λ (xs : List ℕ). done ++ xs) none ∙ append-nil done)),
    )
