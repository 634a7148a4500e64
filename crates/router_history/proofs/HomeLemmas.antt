-- A book's journal through its turns: `broken_at` (the mark and the journal agree), `can_append` (a batch may be appended), `home_same` (a turn without
-- a batch), `home_appended` (a batch was appended) and `home_lost` (its append failed).
use Rattle.std.proofs.Common.{◌≡◌, ℕ, ◌+◌, true, false, List, [], ◌∷◌, ◌++◌, length, Option, Some, None, Result, Ok, Err, refl, sym, ap, ◌∙◌, subst, arith, append_assoc, append-nil, length-append}
use Rattle.std.specs.Prelude.{IsOk, IsSome, OnOk, OnErr, is_err, if◌then◌else◌}
use Rattle.std.specs.List.{AllByRecursion}
use Rattle.std.proofs.lemmas.Bool.{true≢false}
use Rattle.router_disk.specs.declared.disk_call.DiskCall.{DiskCall}
use Rattle.router_disk.specs.Disk.{AreAnswers}
use Rattle.router_disk.specs.Faults.{Rose, CountsFaults}
use Rattle.record_file.specs.Append.{MadeCalls}
use Rattle.rule_table.specs.RuleSet.{RuleSet}
use Rattle.router_core.specs.Admitted.{IsAdmitted}
use Rattle.router_requests.specs.Batch.{Batch}
use Rattle.router_core.specs.Tables.{Tables, first_tables, tables_after, after_batch}
use Rattle.duty_journal.specs.declared.fault.DiskFault.{DiskFault}
use Rattle.duty_journal.specs.declared.journal.Journal as journals
use Rattle.duty_journal.specs.declared.home.Home.{Home}
use Rattle.duty_journal.specs.declared.home.Home.TheVariants.{Nowhere, Journal}
use Rattle.duty_journal.specs.Batch.{NamesRules}
use Rattle.duty_journal.specs.Home.{CanAppend, HasAppended, IsSoundHome, is_broken_home}
use Rattle.duty_journal.specs.Journal as journal
use Rattle.duty_journal.specs.Journal.{AreKept, AreRecordable, StayKept}
use Rattle.duty_journal.specs.Named.{AreNamedByArns}
use Rattle.duty_journal.proofs.JournalLemmas.{recordable_front}
use Rattle.duty_journal.proofs.NamedLemmas.{named_first, named_after}
use Rattle.router_history.specs.Folds.{without_claims}
use Rattle.router_history.specs.History.{OpenedDisk, Turn, State, Ask, breaks, state_of, batches_of, unacknowledged_by, unacknowledged_of}
use Rattle.router_history.specs.Book.{IsBook}
use Rattle.router_history.specs.Home.{IsHeld, IsHome, found_of, appended_of}
use Rattle.router_history.specs.Answered.{IsAdded}
use Rattle.router_history.proofs.BookLemmas.{whole_of}
use Rattle.router_history.proofs.FoldLemmas.{folds_book}
use Rattle.router_history.proofs.AdmittedLemmas.{admitted_freed}
use Rattle.router_history.proofs.BatchLemmas.{none_unacknowledged, unacknowledged_one, after_one, batches_one, disk_one, found_one, appended_one, batches_split}
use Rattle.router_history.proofs.EachLemmas.{kept_as, each_same, each_appended, each_lost}

-- ---- the journal and the mark agree

pub broken_at : {D : Type 0} (calls : D → List DiskCall) (faults : D → ℕ) (turns : List Turn) (home : Home D) → IsBook turns → IsHome calls faults turns home
    → is_broken_home home ≡ (state_of turns).broken
broken_at calls faults turns Nowhere book none = sym (whole_of turns book none)
broken_at calls faults turns (Journal j) book held = held.broken

pub sound_home : {D : Type 0} (calls : D → List DiskCall) (faults : D → ℕ) (turns : List Turn) (home : Home D) → IsHome calls faults turns home → IsSoundHome calls home
sound_home calls faults turns Nowhere none = tt
sound_home calls faults turns (Journal j) held = held.sound

-- ---- a batch may be appended

named_all : (t : Tables) (bs : List Batch) → AreRecordable t bs → AreNamedByArns t.set → AreNamedByArns (tables_after bs t).set
named_all t [] are named = named
named_all t (b ∷ bs) (readable, admitted, more) named = named_all (after_batch b t) bs more (named_after b t admitted named)

-- the rules of a history whose batches can be recorded
pub history_named : (turns : List Turn) (tables : Tables) → IsBook turns → AreRecordable first_tables (batches_of turns) → (state_of turns).tables ≡ tables
    → AreNamedByArns tables.set
history_named turns tables book are is =
    let set : (tables_after (batches_of turns) first_tables).set ≡ tables.set = ap (λ (t : Tables). t.set) (sym (folds_book turns book)) ∙ ap (λ (t : Tables). t.set) is in
    subst (λ (s : RuleSet). AreNamedByArns s) set (named_all first_tables (batches_of turns) are named_first)

history_admits : (turns : List Turn) (tables : Tables) (b : Batch) → IsBook turns → (state_of turns).tables ≡ tables → IsAdmitted tables b
    → IsAdmitted (tables_after (batches_of turns) first_tables) b
history_admits turns tables b book is admitted =
    subst (λ (t : Tables). IsAdmitted t b) (ap without_claims (sym is) ∙ folds_book turns book) (admitted_freed tables b admitted)

pub can_append : {D : Type 0} (calls : D → List DiskCall) (faults : D → ℕ) (turns : List Turn) (tables : Tables) (home : Home D) (b : Batch) → IsBook turns
    → (state_of turns).tables ≡ tables → IsHome calls faults turns home → IsAdmitted tables b → (AreNamedByArns tables.set → AllByRecursion NamesRules b.entries)
    → CanAppend home b
can_append calls faults turns tables Nowhere b book is none admitted names = tt
can_append calls faults turns tables (Journal j) b book is held admitted names = record {
  start = first_tables;
  recordable = subst (AreRecordable first_tables) (sym held.batches) (recordable_front first_tables (batches_of turns) (unacknowledged_of turns) held.recordable);
  admitted = subst (λ (bs : List Batch). IsAdmitted (tables_after bs first_tables) b) (sym held.batches) (history_admits turns tables b book is admitted);
  names = names (history_named turns tables book (recordable_front first_tables (batches_of turns) (unacknowledged_of turns) held.recordable) is);
}

-- ---- one turn more

-- the batches of a book that is not broken are all that its journal may have
all_held : {D : Type 0} (calls : D → List DiskCall) (faults : D → ℕ) (turns : List Turn) (j : journals.Journal D) → IsBook turns → (state_of turns).broken ≡ false
    → IsHeld calls faults turns j → (first : List ℕ) → AreAnswers first (calls j.file.disk)
    → AreKept first (calls j.file.disk) first_tables (found_of turns) 1 (batches_of turns) (batches_of turns)
all_held calls faults turns j h whole held first answers =
    kept_as first (calls j.file.disk) 1 (found_of turns) (found_of turns) (batches_of turns) (batches_of turns) (batches_of turns ++ unacknowledged_of turns)
    (batches_of turns) refl refl (sym (append-nil (batches_of turns)) ∙ ap (λ bs. batches_of turns ++ bs) (sym (none_unacknowledged turns h.legal whole)))
    (held.kept first answers)

-- a turn that neither writes nor breaks
pub home_same : {D : Type 0} (calls : D → List DiskCall) (faults : D → ℕ) (old new : List Turn) (home : Home D) (ask : Ask) → IsBook old → IsBook new
    → IsAdded ask None old new → unacknowledged_by ask ≡ [] → (state_of new).broken ≡ (state_of old).broken → IsHome calls faults old home → IsHome calls faults new home
home_same calls faults old new Nowhere ask h h_new (turn, is, wrote, turns) no_break broken none = disk_one old new turn h h_new turns ∙ none
home_same calls faults old new (Journal j) ask h h_new (turn, is, wrote, turns) no_break broken held =
    let batches : batches_of new ≡ batches_of old = batches_one old new turn ask None h h_new is wrote turns ∙ append-nil (batches_of old) in
    let unsure : unacknowledged_of new ≡ unacknowledged_of old =
    unacknowledged_one old new turn ask is turns ∙ ap (λ bs. unacknowledged_of old ++ bs) no_break ∙ append-nil (unacknowledged_of old) in
    let all : batches_of new ++ unacknowledged_of new ≡ batches_of old ++ unacknowledged_of old =
    ap (λ bs. bs ++ unacknowledged_of new) batches ∙ ap (λ bs. batches_of old ++ bs) unsure in
    record {
      sound = held.sound;
      batches = held.batches ∙ sym batches;
      recordable = subst (AreRecordable first_tables) (sym all) held.recordable;
      broken = held.broken ∙ sym broken;
      opened = held.opened;
      disk = disk_one old new turn h h_new turns ∙ held.disk;
      began = held.began;
      rose = λ is_broken. held.rose (sym broken ∙ is_broken);
      same = λ whole. held.same (sym broken ∙ whole);
      kept = λ first answers.
          kept_as first (calls j.file.disk) 1 (found_of old) (found_of new) (batches_of old) (batches_of new) (batches_of old ++ unacknowledged_of old)
          (batches_of new ++ unacknowledged_of new) (found_one old new turn h turns) batches all (held.kept first answers);
      each = each_same (length held.opened.calls) (calls j.file.disk) old new (found_one old new turn h turns) batches
          (appended_one old new turn ask None h h_new is wrote turns ∙ append-nil (appended_of old)) all broken held.each;
    }

-- no turn at all
pub home_alone : {D : Type 0} (calls : D → List DiskCall) (faults : D → ℕ) (old new : List Turn) (home : Home D) → new ≡ old → IsHome calls faults old home
    → IsHome calls faults new home
home_alone calls faults old new home same is = subst (λ (ts : List Turn). IsHome calls faults ts home) (sym same) is

-- more calls after those that there were
longer : (old new more : List DiskCall) → new ≡ old ++ more → length new ≡ length old + length more
longer old new more is = ap (λ (cs : List DiskCall). length cs) is ∙ length-append old more

began_more : (first old new : List DiskCall) → ((later : List DiskCall) × (old ≡ first ++ later)) → ((more : List DiskCall) × (new ≡ old ++ more))
    → (later : List DiskCall) × (new ≡ first ++ later)
began_more first old new (later, began) (more, grown) =
    (later ++ more, grown ∙ ap (λ (cs : List DiskCall). cs ++ more) began ∙ append_assoc first later more)

-- a batch was appended, and its turn made
pub home_appended : {D : Type 0} (calls : D → List DiskCall) (faults : D → ℕ) (old new : List Turn) (tables : Tables) (home home_new : Home D) (ask : Ask) (b : Batch)
    (result : Result (Unit {0}) DiskFault) → result ≡ Ok tt → IsBook old → IsBook new → (state_of old).tables ≡ tables → IsAdmitted tables b
    → (state_of old).broken ≡ false → (state_of new).broken ≡ (state_of old).broken → IsAdded ask (Some b) old new → IsHome calls faults old home
    → HasAppended calls faults home home_new b result → IsHome calls faults new home_new
home_appended {D} calls faults old new tables Nowhere home_new ask b result ok h h_new is admitted whole broken (turn, made_for, wrote, turns) none (same, kept) =
    subst (λ (x : Home D). IsHome calls faults new x) (sym same) (disk_one old new turn h h_new turns ∙ none)
home_appended {D} calls faults old new tables (Journal j) home_new ask b result ok h h_new is admitted whole broken (turn, made_for, wrote, turns) held (k, same, kept) =
    let batches : batches_of new ≡ batches_of old ++ b ∷ [] = batches_one old new turn ask (Some b) h h_new made_for wrote turns in
    let no_err : is_err result ≡ false = ap (λ (r : Result (Unit {0}) DiskFault). is_err r) ok in
    let unbroken : (state_of new).broken ≡ false = broken ∙ whole in
    let none : unacknowledged_of new ≡ [] = none_unacknowledged new h_new.legal unbroken in
    let front : AreRecordable first_tables (batches_of old) = recordable_front first_tables (batches_of old) (unacknowledged_of old) held.recordable in
    let are : AreRecordable first_tables (journal.batches_of j ++ b ∷ []) =
    kept.recordable first_tables (subst (AreRecordable first_tables) (sym held.batches) front)
    (subst (λ (bs : List Batch). IsAdmitted (tables_after bs first_tables) b) (sym held.batches) (history_admits old tables b h is admitted)) in
    let made = subst (λ (r : Result (Unit {0}) DiskFault). MadeCalls (calls j.file.disk) (calls k.file.disk) r) ok kept.appended.made in
    let more : batches_of new ≡ journal.batches_of j ++ b ∷ [] = batches ∙ ap (λ bs. bs ++ b ∷ []) (sym held.batches) in
    let all : batches_of new ++ unacknowledged_of new ≡ batches_of old ++ b ∷ [] =
    ap (λ bs. batches_of new ++ bs) none ∙ append-nil (batches_of new) ∙ batches in
    let stays : StayKept (calls j.file.disk) (calls k.file.disk) first_tables (batches_of old) (b ∷ []) (Ok tt) =
    subst (λ (bs : List Batch). StayKept (calls j.file.disk) (calls k.file.disk) first_tables bs (b ∷ []) (Ok tt)) held.batches
    (subst (λ (r : Result (Unit {0}) DiskFault). StayKept (calls j.file.disk) (calls k.file.disk) first_tables (journal.batches_of j) (b ∷ []) r) ok
    (kept.appended.kept (held.broken ∙ whole) first_tables are)) in
    let found : found_of new ≡ found_of old = found_one old new turn h turns in
    let kept_all : (first : List ℕ) → AreAnswers first (calls k.file.disk)
    → AreKept first (calls k.file.disk) first_tables (found_of new) 1 (batches_of old ++ b ∷ []) (batches_of old ++ b ∷ []) =
    λ first answers.
    kept_as first (calls k.file.disk) 1 (found_of old) (found_of new) (batches_of old ++ b ∷ []) (batches_of old ++ b ∷ []) (batches_of old ++ b ∷ [])
    (batches_of old ++ b ∷ []) found refl refl
    (stays first (found_of old) 1 answers (all_held calls faults old j h whole held first (kept.appended.answers first answers))) in
    subst (λ (x : Home D). IsHome calls faults new x) (sym same) (record {
      sound = kept.appended.sound;
      batches = kept.appended.batches ∙ ap (λ e. if e then journal.batches_of j else journal.batches_of j ++ b ∷ []) no_err ∙ sym more;
      recordable = subst (AreRecordable first_tables) (ap (λ bs. bs ++ b ∷ []) held.batches ∙ sym all) are;
      broken = kept.appended.broken ∙ no_err ∙ sym unbroken;
      opened = held.opened;
      disk = disk_one old new turn h h_new turns ∙ held.disk;
      began = began_more held.opened.calls (calls j.file.disk) (calls k.file.disk) held.began (made.0, made.1);
      rose = λ is_broken. absurd (true≢false (sym is_broken ∙ unbroken));
      same = λ still. same_count (kept.appended.count (held.broken ∙ whole)) ∙ held.same whole;
      kept = λ first answers.
          kept_as first (calls k.file.disk) 1 (found_of new) (found_of new) (batches_of old ++ b ∷ []) (batches_of new) (batches_of old ++ b ∷ [])
          (batches_of new ++ unacknowledged_of new) refl batches all (kept_all first answers);
      each = each_appended (length held.opened.calls) (calls j.file.disk) (calls k.file.disk) old new b found (none_unacknowledged old h.legal whole)
          kept.appended.answers held.each batches (appended_one old new turn ask (Some b) h h_new made_for wrote turns) (batches_split new h_new) all whole
          (longer (calls j.file.disk) (calls k.file.disk) made.0 made.1 ∙ ap (λ n. length (calls j.file.disk) + n) made.2) stays kept_all;
    })
  where
    same_count : CountsFaults (faults j.file.disk) (faults k.file.disk) result → faults k.file.disk ≡ faults j.file.disk
    same_count counts = (subst (λ (r : Result (Unit {0}) DiskFault). OnOk r (faults k.file.disk ≡ faults j.file.disk)) ok counts.same)

-- an append failed, and the turn broke the book
pub home_lost : {D : Type 0} (calls : D → List DiskCall) (faults : D → ℕ) (old new : List Turn) (home home_new : Home D) (b : Batch)
    (tables : Tables) (result : Result (Unit {0}) DiskFault) (fault : DiskFault) → result ≡ Err fault → IsBook old → IsBook new → (state_of old).tables ≡ tables
    → IsAdmitted tables b → (state_of old).broken ≡ false
    → IsAdded (breaks (b ∷ [])) None old new → IsHome calls faults old home → HasAppended calls faults home home_new b result → IsHome calls faults new home_new
home_lost calls faults old new Nowhere home_new b tables result fault err h h_new is admitted whole added none (same, ok) =
    absurd (failed (subst (λ (r : Result (Unit {0}) DiskFault). IsOk r) err ok))
  where
    failed : IsOk {T = Unit {0}} (Err fault) → ⊥
    failed is = absurd (cc)
home_lost {D} calls faults old new (Journal j) home_new b tables result fault err h h_new is admitted whole (turn, made_for, wrote, turns) held (k, same, kept) =
    let batches : batches_of new ≡ batches_of old =
    batches_one old new turn (breaks (b ∷ [])) None h h_new made_for wrote turns ∙ append-nil (batches_of old) in
    let unsure : unacknowledged_of new ≡ b ∷ [] =
    unacknowledged_one old new turn (breaks (b ∷ [])) made_for turns ∙ ap (λ bs. bs ++ b ∷ []) (none_unacknowledged old h.legal whole) in
    let front : AreRecordable first_tables (batches_of old) = recordable_front first_tables (batches_of old) (unacknowledged_of old) held.recordable in
    let are : AreRecordable first_tables (journal.batches_of j ++ b ∷ []) =
    kept.recordable first_tables (subst (AreRecordable first_tables) (sym held.batches) front)
    (subst (λ (bs : List Batch). IsAdmitted (tables_after bs first_tables) b) (sym held.batches) (history_admits old tables b h is admitted)) in
    let all : batches_of new ++ unacknowledged_of new ≡ batches_of old ++ b ∷ [] =
    ap (λ bs. bs ++ unacknowledged_of new) batches ∙ ap (λ bs. batches_of old ++ bs) unsure in
    let made = subst (λ (r : Result (Unit {0}) DiskFault). MadeCalls (calls j.file.disk) (calls k.file.disk) r) err kept.appended.made in
    let is_error : is_err result ≡ true = ap (λ (r : Result (Unit {0}) DiskFault). is_err r) err in
    let broken : (state_of new).broken ≡ true = ap (λ (s : State). s.broken) (after_one old new turn (breaks (b ∷ [])) made_for turns) in
    let rose : Rose (faults j.file.disk) (faults k.file.disk) =
    subst (λ (r : Result (Unit {0}) DiskFault). OnErr r (Rose (faults j.file.disk) (faults k.file.disk))) err (kept.appended.count (held.broken ∙ whole)).rose in
    let stays : StayKept (calls j.file.disk) (calls k.file.disk) first_tables (batches_of old) (b ∷ []) (Err fault) =
    subst (λ (bs : List Batch). StayKept (calls j.file.disk) (calls k.file.disk) first_tables bs (b ∷ []) (Err fault)) held.batches
    (subst (λ (r : Result (Unit {0}) DiskFault). StayKept (calls j.file.disk) (calls k.file.disk) first_tables (journal.batches_of j) (b ∷ []) r) err
    (kept.appended.kept (held.broken ∙ whole) first_tables are)) in
    let found : found_of new ≡ found_of old = found_one old new turn h turns in
    subst (λ (x : Home D). IsHome calls faults new x) (sym same) (record {
      sound = kept.appended.sound;
      batches = kept.appended.batches ∙ ap (λ e. if e then journal.batches_of j else journal.batches_of j ++ b ∷ []) is_error ∙ held.batches ∙ sym batches;
      recordable = subst (AreRecordable first_tables) (ap (λ bs. bs ++ b ∷ []) held.batches ∙ sym all) are;
      broken = kept.appended.broken ∙ is_error ∙ sym broken;
      opened = held.opened;
      disk = disk_one old new turn h h_new turns ∙ held.disk;
      began = began_more held.opened.calls (calls j.file.disk) (calls k.file.disk) held.began made;
      rose = λ is_broken. subst (λ n. Rose n (faults k.file.disk)) (held.same whole) rose;
      same = λ still. absurd (true≢false (sym broken ∙ still));
      kept = λ first answers.
          kept_as first (calls k.file.disk) 1 (found_of old) (found_of new) (batches_of old) (batches_of new) (batches_of old ++ b ∷ [])
          (batches_of new ++ unacknowledged_of new) found batches all
          (stays first (found_of old) 1 answers (all_held calls faults old j h whole held first (kept.appended.answers first answers)));
      each = each_lost (length held.opened.calls) (calls j.file.disk) (calls k.file.disk) old new b found (none_unacknowledged old h.legal whole)
          kept.appended.answers held.each fault batches
          (appended_one old new turn (breaks (b ∷ [])) None h h_new made_for wrote turns ∙ append-nil (appended_of old)) all broken
          (omega (arith, longer (calls j.file.disk) (calls k.file.disk) made.0 made.1)) stays;
    })

-- a book that breaks has a journal
pub lost_journal : {D : Type 0} (calls : D → List DiskCall) (faults : D → ℕ) (turns : List Turn) (home home_new : Home D) (b : Batch)
    (result : Result (Unit {0}) DiskFault) (fault : DiskFault) → result ≡ Err fault → IsHome calls faults turns home → HasAppended calls faults home home_new b result
    → IsSome (state_of turns).disk
lost_journal calls faults turns Nowhere home_new b result fault err none (same, ok) = absurd (failed (subst (λ (r : Result (Unit {0}) DiskFault). IsOk r) err ok))
  where
    failed : IsOk {T = Unit {0}} (Err fault) → ⊥
    failed is = absurd (cc)
lost_journal calls faults turns (Journal j) home_new b result fault err held kept = subst (λ (d : Option OpenedDisk). IsSome d) (sym held.disk) refl
