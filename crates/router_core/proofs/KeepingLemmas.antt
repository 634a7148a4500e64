-- Archives that keep one event more: the loop over their names (`IsKeeping`, `keeping_all`, `keeping_at`, `keeping_some`, `keeping_one`,
-- `keeping_later`, `keeping_room`, `keeping_next`, `keeping_end`), what they keep then (`all_kept`, `names_kept`), and few enough events to
-- count (`count_small`). After a change of the configuration: `archives_changed`.
use Rattle.std.proofs.Common.{◌≡◌, ℕ, suc, ◌+◌, ◌*◌, ◌^◌, ◌<◌, ◌≤◌, true, false, ◌&&◌, cond, List, [], ◌∷◌, length, map, take, drop, get_or}
use Rattle.std.proofs.Common.{Option, Some, is_eq, refl, sym, ap, ◌∙◌, subst, arith, length-append, mul-le-mul_right, suc-mul}
use Rattle.std.specs.Prelude.{All, filter, nat_le, IsTrue}
use Rattle.std.specs.List.{sum_by}
use Rattle.std.specs.Str.{bytes_eq}
use Rattle.std.specs.Cmp.Lexicographic.{slice_cmp}
use Rattle.std.specs.Ordering.{nat_cmp}
use Rattle.std.specs.declared.cmp.Ordering.TheVariants.{Less, Equal, Greater}
use Rattle.std.proofs.lemmas.Slice.Eq.{bytes_eq-Decides}
use Rattle.std.proofs.lemmas.Map.Text.{is_eq-slice_cmp}
use Rattle.std.proofs.lemmas.Bool.{and_parts}
use Rattle.std.proofs.lemmas.Bool.Decides.{nat_tests}
use Rattle.std.proofs.lemmas.List.{drop_all, drop_more}
use Rattle.std.proofs.lemmas.List.Sums.{sum_by-cons}
use Rattle.std.proofs.lemmas.List.Elements.{All-nil, All-cons, All-head, All-tail, All-push, All-weaker, All-filter}
use Rattle.event_shape.specs.Names.{is_archive_name, is_bus_name}
use Rattle.name_rows.specs.Rows.{AreSorted, by_order, named, placed, replacing, without}
use Rattle.name_rows.proofs.NameOrder.{bytes_eq_Less}
use Rattle.name_rows.proofs.RowLemmas.{by_test, All_placed}
use Rattle.archive_keep.specs.declared.event_ref.KeptEvent.{KeptEvent}
use Rattle.archive_keep.specs.Kept.{IsLater}
use Rattle.archive_keep.specs.Archive.{Archive, empty_archive, is_retained, purged, with_days, with_event}
use Rattle.archive_keep.specs.Archives.{all_purged, changed_named, event_count, keeping, kept_in, name_of}
use Rattle.archive_keep.proofs.KeptLemmas.{parts_count}
use Rattle.archive_keep.proofs.RowLemmas.{All_without}
use Rattle.rule_table.specs.Control.{Control, bus_created, bus_deleted, rule_put, rule_deleted, state_put, targets_put, targets_removed, policy_put}
use Rattle.rule_table.specs.Control.{queue_created, queue_deleted, archive_created, archive_updated, archive_deleted}
use Rattle.rule_table.specs.RuleSet.{Archive as Row, RuleSet, applied, put_archive, with_pattern, without_archive}
use Rattle.rule_table.specs.WellFormed.{is_well_formed, most_days}
use Rattle.rule_table.proofs.RowLemmas.{map_placed, map_without}
use Rattle.router_core.specs.Tables.{KeepsUpTo, archives_after, kept_by}
use Rattle.router_core.specs.Keeping.{CanKeep, IsNextEvent, IsUntouched}

-- ---- one archive of a name changes

pub All_changed : (P : Archive → Type 0) (name : List ℕ) (change : Archive → Archive) (rows : List Archive) → All P rows
    → ((a : Archive) → named name_of name rows ≡ Some a → P (change a)) → All P (changed_named name change rows)
All_changed P name change [] all new = all
All_changed P name change (a ∷ rows) all new =
    (elim (bytes_eq a.name name) as (λ b. ((x : Archive) → cond b (Some a) (named name_of name rows) ≡ Some x → P (change x))
    → All P (cond b (change a ∷ rows) (a ∷ changed_named name change rows))) [
      | true ↦ λ k. All-cons P (change a) rows (k a refl) (All-tail P a rows all)
      | false ↦ λ k. All-cons P a (changed_named name change rows) (All-head P a rows all) (All_changed P name change rows (All-tail P a rows all) k)
    ]) new

names_changed : (name : List ℕ) (change : Archive → Archive) (rows : List Archive) → ((a : Archive) → (change a).name ≡ a.name)
    → map name_of (changed_named name change rows) ≡ map name_of rows
names_changed name change [] same = refl
names_changed name change (a ∷ rows) same =
    elim (bytes_eq a.name name) as (λ b. map name_of (cond b (change a ∷ rows) (a ∷ changed_named name change rows)) ≡ a.name ∷ map name_of rows) [
      | true ↦ ap (λ n. n ∷ map name_of rows) (same a)
      | false ↦ ap (λ ns. a.name ∷ ns) (names_changed name change rows same)
    ]

-- another archive stays as it was
named_apart : (name other : List ℕ) (e : KeptEvent) (rows : List Archive) → bytes_eq name other ≡ false
    → named name_of other (kept_in name e rows) ≡ named name_of other rows
named_apart name other e [] apart = refl
named_apart name other e (a ∷ rows) apart =
    by_test (bytes_eq a.name name)
    (λ here.
    let off : bytes_eq a.name other ≡ false = ap (λ n. bytes_eq n other) ((bytes_eq-Decides a.name name).0 here) ∙ apart in
    rw (here, off) refl)
    (λ there. rw there (ap (λ o. cond (bytes_eq a.name other) (Some a) o) (named_apart name other e rows apart)))

untouched_after : (events before : ℕ) (e : KeptEvent) (name : List ℕ) (rows : List Archive) (others : List (List ℕ))
    → All (λ other. slice_cmp nat_cmp name other ≡ Less) others → All (IsUntouched events before rows) others
    → All (IsUntouched events before (kept_in name e rows)) others
untouched_after events before e name rows [] less all = All-nil (IsUntouched events before (kept_in name e rows))
untouched_after events before e name rows (other ∷ others) less all =
    let L : List ℕ → Type 0 = λ o. slice_cmp nat_cmp name o ≡ Less in
    let U : List ℕ → Type 0 = IsUntouched events before rows in
    All-cons (IsUntouched events before (kept_in name e rows)) other others
    (λ a there. All-head U other others all a (sym (named_apart name other e rows (bytes_eq_Less name other (All-head L other others less))) ∙ there))
    (untouched_after events before e name rows others (All-tail L other others less) (All-tail U other others all))

-- an archive that keeps the next event too
grown : (events before moment : ℕ) (e : KeptEvent) (a : Archive) → KeepsUpTo events before a → e.number ≡ events + 1 → e.accepted ≡ moment → before ≤ moment
    → KeepsUpTo (events + 1) moment (with_event e a)
grown events before moment e a up number accepted le =
    let Old : KeptEvent → Type 0 = λ o. (o.number ≤ events) × (o.accepted ≤ before) in
    let New : KeptEvent → Type 0 = λ o. (o.number ≤ events + 1) × (o.accepted ≤ moment) in
    record {
      days = up.days;
      earlier = All-push New a.events e (All-weaker Old New (λ o h. (omega (arith, h.0), omega (arith, h.1, le))) a.events up.earlier)
          (omega (arith, number), omega (arith, accepted));
      few = omega (arith, up.few, length-append a.events (e ∷ []));
    }

later_still : (events before moment : ℕ) (a : Archive) → before ≤ moment → KeepsUpTo events before a → KeepsUpTo (events + 1) moment a
later_still events before moment a le up =
    let Old : KeptEvent → Type 0 = λ o. (o.number ≤ events) × (o.accepted ≤ before) in
    let New : KeptEvent → Type 0 = λ o. (o.number ≤ events + 1) × (o.accepted ≤ moment) in
    record {
      days = up.days;
      earlier = All-weaker Old New (λ o h. (omega (arith, h.0), omega (arith, h.1, le))) a.events up.earlier;
      few = omega (arith, up.few);
    }

all_later : (events before moment : ℕ) (rows : List Archive) → before ≤ moment → All (KeepsUpTo events before) rows → All (KeepsUpTo (events + 1) moment) rows
all_later events before moment rows le all =
    All-weaker (KeepsUpTo events before) (KeepsUpTo (events + 1) moment) (λ a up. later_still events before moment a le up) rows all

found_in : (P : Archive → Type 0) (name : List ℕ) (rows : List Archive) (a : Archive) → named name_of name rows ≡ Some a → All P rows → P a
found_in P name [] a is all = absurd (cc)
found_in P name (x ∷ rows) a is all =
    (elim (bytes_eq x.name name) as (λ b. cond b (Some x) (named name_of name rows) ≡ Some a → P a) [
      | true ↦ λ here. let same : x ≡ a = cc in subst P same (All-head P x rows all)
      | false ↦ λ there. found_in P name rows a there (All-tail P x rows all)
    ]) is

all_untouched : (events before : ℕ) (rows : List Archive) (names : List (List ℕ)) → All (KeepsUpTo events before) rows
    → All (IsUntouched events before rows) names
all_untouched events before rows [] all = All-nil (IsUntouched events before rows)
all_untouched events before rows (name ∷ names) all =
    All-cons (IsUntouched events before rows) name names (λ a there. found_in (KeepsUpTo events before) name rows a there all)
    (all_untouched events before rows names all)

kept_up : (names : List (List ℕ)) (e : KeptEvent) (rows : List Archive) (events before moment : ℕ) → AreSorted (λ name. name) names
    → All (IsUntouched events before rows) names → All (KeepsUpTo (events + 1) moment) rows → e.number ≡ events + 1 → e.accepted ≡ moment → before ≤ moment
    → All (KeepsUpTo (events + 1) moment) (kept_by names e rows)
kept_up [] e rows events before moment sorted free all number accepted le = all
kept_up (name ∷ names) e rows events before moment sorted free all number accepted le =
    let U : List ℕ → Type 0 = IsUntouched events before rows in
    kept_up names e (kept_in name e rows) events before moment sorted.1
    (untouched_after events before e name rows names sorted.0 (All-tail U name names free))
    (All_changed (KeepsUpTo (events + 1) moment) name (with_event e) rows all
    (λ a there. grown events before moment e a (All-head U name names free a there) number accepted le))
    number accepted le

-- the archives after an event keep events up to it
pub all_kept : (names : List (List ℕ)) (e : KeptEvent) (rows : List Archive) (events before : ℕ) → AreSorted (λ name. name) names
    → All (KeepsUpTo events before) rows → e.number ≡ events + 1 → before ≤ e.accepted → All (KeepsUpTo (events + 1) e.accepted) (kept_by names e rows)
all_kept names e rows events before sorted all number le =
    kept_up names e rows events before e.accepted sorted (all_untouched events before rows names all) (all_later events before e.accepted rows le all) number refl le

pub names_kept : (names : List (List ℕ)) (e : KeptEvent) (rows : List Archive) → map name_of (kept_by names e rows) ≡ map name_of rows
names_kept [] e rows = refl
names_kept (name ∷ names) e rows = names_kept names e (kept_in name e rows) ∙ names_changed name (with_event e) rows (λ a. refl)

-- ---- the loop over the names

pub record IsKeeping (names rest : List (List ℕ)) (old now : List Archive) (all left : List KeptEvent) : Type 0 where
  pub event : KeptEvent
  pub events : ℕ
  pub before : ℕ
  pub each : All (λ k. k ≡ event) all
  pub total : length all ≡ length names
  pub those : All (λ k. k ≡ event) left
  pub number : length left ≡ length rest
  pub sorted : AreSorted (λ name. name) rest
  pub same : kept_by rest event now ≡ kept_by names event old
  pub free : All (IsUntouched events before now) rest
  pub few : All (λ (a : Archive). length a.events ≤ events + 1) now
  pub next : IsNextEvent events before event

pub keeping_all : (names : List (List ℕ)) (rows : List Archive) (records : List KeptEvent) → CanKeep names rows records
    → IsKeeping names names rows rows records records
keeping_all names rows records can = record {
  event = can.event;
  events = can.events;
  before = can.before;
  each = can.each;
  total = can.number;
  those = can.each;
  number = can.number;
  sorted = can.sorted;
  same = refl;
  free = all_untouched can.events can.before rows names can.earlier;
  few = All-weaker (KeepsUpTo can.events can.before) (λ (a : Archive). length a.events ≤ can.events + 1) (λ a up. omega (arith, up.few)) rows can.earlier;
  next = can.next;
}

-- the names from an index on are its name, and those after it
pub keeping_at : (names : List (List ℕ)) (i : ℕ) (name : List ℕ) (old now : List Archive) (all left : List KeptEvent) → i < length names
    → name ≡ get_or names i name → IsKeeping names (drop i names) old now all left → IsKeeping names (name ∷ drop (i + 1) names) old now all left
keeping_at names i name old now all left below at k =
    let more : drop i names ≡ get_or names i name ∷ drop (i + 1) names = drop_more names i name below in
    subst (λ rest. IsKeeping names rest old now all left) (more ∙ ap (λ n. n ∷ drop (i + 1) names) (sym at)) k

pub keeping_some : (names after : List (List ℕ)) (name : List ℕ) (old now : List Archive) (all left : List KeptEvent)
    → (k : IsKeeping names (name ∷ after) old now all left) → (ks : List KeptEvent) × (left ≡ k.event ∷ ks)
keeping_some names after name old now all [] k = absurd (omega (arith, k.number))
keeping_some names after name old now all (x ∷ ks) k = (ks, ap (λ e. e ∷ ks) (All-head (λ z. z ≡ k.event) x ks k.those))

pub keeping_left : (names after : List (List ℕ)) (name : List ℕ) (old now : List Archive) (all left : List KeptEvent)
    → IsKeeping names (name ∷ after) old now all left → 1 ≤ length left
keeping_left names after name old now all left k = omega (arith, k.number)

pub keeping_one : (names after : List (List ℕ)) (name : List ℕ) (old now : List Archive) (all left : List KeptEvent)
    → IsKeeping names (name ∷ after) old now all left → length (take 1 left) ≡ 1
keeping_one names after name old now all left k =
    let (ks, is) = keeping_some names after name old now all left k in ap (λ (es : List KeptEvent). length (take 1 es)) is

pub keeping_later : (names after : List (List ℕ)) (name : List ℕ) (old now : List Archive) (all left : List KeptEvent)
    → IsKeeping names (name ∷ after) old now all left → (e : KeptEvent) (a : Archive) → take 1 left ≡ e ∷ [] → named name_of name now ≡ Some a
    → All (λ o. IsLater o e) a.events
keeping_later names after name old now all left k e a first there =
    let (ks, is) = keeping_some names after name old now all left k in
    let both : k.event ∷ [] ≡ e ∷ [] = sym (ap (take 1) is) ∙ first in
    let same : k.event ≡ e = cc in
    let up = All-head (IsUntouched k.events k.before now) name after k.free a there in
    let Old : KeptEvent → Type 0 = λ o. (o.number ≤ k.events) × (o.accepted ≤ k.before) in
    subst (λ z. All (λ o. IsLater o z) a.events) same
    (All-weaker Old (λ o. IsLater o k.event) (λ o h. (omega (arith, h.0, k.next.number), omega (arith, h.1, k.next.later))) a.events up.earlier)

pub keeping_room : (names after : List (List ℕ)) (name : List ℕ) (old now : List Archive) (all left : List KeptEvent)
    → IsKeeping names (name ∷ after) old now all left → All (λ (a : Archive). length a.events + 1 < 2 ^ 63) now
keeping_room names after name old now all left k =
    All-weaker (λ (a : Archive). length a.events ≤ k.events + 1) (λ (a : Archive). length a.events + 1 < 2 ^ 63) (λ a h. omega (arith, h, k.next.bound)) now k.few

pub keeping_next : (names after : List (List ℕ)) (name : List ℕ) (old now new : List Archive) (all left rest : List KeptEvent)
    → IsKeeping names (name ∷ after) old now all left → rest ≡ drop 1 left → ((e : KeptEvent) → take 1 left ≡ e ∷ [] → new ≡ kept_in name e now)
    → IsKeeping names after old new all rest
keeping_next names after name old now new all left rest k gone made =
    let (ks, is) = keeping_some names after name old now all left k in
    let e = k.event in
    let U : List ℕ → Type 0 = IsUntouched k.events k.before now in
    let F : Archive → Type 0 = λ a. length a.events ≤ k.events + 1 in
    let after_is : new ≡ kept_in name e now = made e (ap (take 1) is) in
    let rest_is : rest ≡ ks = gone ∙ ap (drop 1) is in
    let made_so : IsKeeping names after old (kept_in name e now) all ks = record {
      event = e;
      events = k.events;
      before = k.before;
      each = k.each;
      total = k.total;
      those = All-tail (λ z. z ≡ e) e ks (subst (All (λ z. z ≡ e)) is k.those);
      number = omega (arith, k.number, ap (length {A = KeptEvent}) is);
      sorted = k.sorted.1;
      same = k.same;
      free = untouched_after k.events k.before e name now after k.sorted.0 (All-tail U name after k.free);
      few = All_changed F name (with_event e) now k.few
          (λ a there. let up = All-head U name after k.free a there in omega (arith, up.few, length-append a.events (e ∷ [])));
      next = k.next;
    } in
    subst (λ rows. IsKeeping names after old rows all rest) (sym after_is) (subst (IsKeeping names after old (kept_in name e now) all) (sym rest_is) made_so)

same_kept : (names : List (List ℕ)) (all : List KeptEvent) (e o : KeptEvent) (rows : List Archive) → length all ≡ length names → All (λ k. k ≡ o) all
    → All (λ k. k ≡ e) all → kept_by names o rows ≡ kept_by names e rows
same_kept [] all e o rows number these those = refl
same_kept (name ∷ names) [] e o rows number these those = absurd (omega (arith, number))
same_kept (name ∷ names) (k ∷ ks) e o rows number these those =
    ap (λ z. kept_by (name ∷ names) z rows) (sym (All-head (λ z. z ≡ o) k ks these) ∙ All-head (λ z. z ≡ e) k ks those)

-- no name is left
pub keeping_end : (names : List (List ℕ)) (i : ℕ) (old now : List Archive) (all left : List KeptEvent) → length names ≤ i
    → IsKeeping names (drop i names) old now all left → (e : KeptEvent) → All (λ k. k ≡ e) all → now ≡ kept_by names e old
keeping_end names i old now all left reached k e those =
    let none : drop i names ≡ [] = drop_all i names reached in
    let at_end : IsKeeping names [] old now all left = subst (λ rest. IsKeeping names rest old now all left) none k in
    at_end.same ∙ same_kept names all e at_end.event old at_end.total at_end.each those

-- ---- a purge

count_by : (rows : List Archive) (n : ℕ) → All (λ (a : Archive). length a.events ≤ n) rows → event_count rows ≤ length rows * n
count_by [] n all = omega arith
count_by (a ∷ rows) n all =
    let F : Archive → Type 0 = λ a. length a.events ≤ n in
    omega (
      arith,
      sum_by-cons (λ (a : Archive). length a.events) a rows,
      All-head F a rows all,
      count_by rows n (All-tail F a rows all),
      suc-mul (length rows) n,
    )

pub count_small : (rows : List Archive) (n : ℕ) → length rows ≤ 100 → n < 2 ^ 49 → All (λ (a : Archive). length a.events ≤ n) rows → event_count rows < 2 ^ 63
count_small rows n few small all =
    let product : length rows * n ≤ 100 * n = mul-le-mul_right n few in
    omega (arith, count_by rows n all, product, small)

pub names_purged : (moment : ℕ) (rows : List Archive) → map name_of (all_purged moment rows) ≡ map name_of rows
names_purged moment [] = refl
names_purged moment (a ∷ rows) = ap (λ ns. a.name ∷ ns) (names_purged moment rows)

purged_up : (events before now moment : ℕ) (a : Archive) → before ≤ now → KeepsUpTo events before a → KeepsUpTo events now (purged moment a)
purged_up events before now moment a le up =
    let Old : KeptEvent → Type 0 = λ o. (o.number ≤ events) × (o.accepted ≤ before) in
    let New : KeptEvent → Type 0 = λ o. (o.number ≤ events) × (o.accepted ≤ now) in
    record {
      days = up.days;
      earlier = All-filter (is_retained a.days moment) New a.events (All-weaker Old New (λ o h. (h.0, omega (arith, h.1, le))) a.events up.earlier);
      few = omega (arith, up.few, parts_count (is_retained a.days moment) a.events);
    }

pub all_purged_up : (events before now moment : ℕ) (rows : List Archive) → before ≤ now → All (KeepsUpTo events before) rows
    → All (KeepsUpTo events now) (all_purged moment rows)
all_purged_up events before now moment [] le all = All-nil (KeepsUpTo events now)
all_purged_up events before now moment (a ∷ rows) le all =
    All-cons (KeepsUpTo events now) (purged moment a) (all_purged moment rows)
    (purged_up events before now moment a le (All-head (KeepsUpTo events before) a rows all))
    (all_purged_up events before now moment rows le (All-tail (KeepsUpTo events before) a rows all))

pub few_events : (events before : ℕ) (rows : List Archive) → All (KeepsUpTo events before) rows → All (λ (a : Archive). length a.events ≤ events) rows
few_events events before rows all = All-weaker (KeepsUpTo events before) (λ (a : Archive). length a.events ≤ events) (λ a up. up.few) rows all

-- ---- after a change

abbrev pub row_name : Row → List ℕ
row_name row = row.name

placed_names : (new : Archive) (rows : List Archive) → map name_of (placed name_of keeping new rows) ≡ placed (λ n. n) replacing new.name (map name_of rows)
placed_names new [] = refl
placed_names new (a ∷ rows) =
    (elim (slice_cmp nat_cmp new.name a.name) as (λ o. slice_cmp nat_cmp new.name a.name ≡ o
    → map name_of (by_order o (new ∷ a ∷ rows) (a ∷ rows) (a ∷ placed name_of keeping new rows))
    ≡ by_order o (new.name ∷ a.name ∷ map name_of rows) (new.name ∷ map name_of rows) (a.name ∷ placed (λ n. n) replacing new.name (map name_of rows))) [
      | Less ↦ λ _. refl
      | Equal ↦ λ e.
          let same : bytes_eq new.name a.name ≡ true = sym (is_eq-slice_cmp new.name a.name) ∙ ap is_eq e in
          ap (λ (n : List ℕ). n ∷ map name_of rows) (sym ((bytes_eq-Decides new.name a.name).0 same))
      | Greater ↦ λ _. ap (λ (ns : List (List ℕ)). a.name ∷ ns) (placed_names new rows)
    ]) refl

pattern_names : (name : List ℕ) (pattern : Option (List ℕ)) (rows : List Row) → map row_name (with_pattern name pattern rows) ≡ map row_name rows
pattern_names name pattern [] = refl
pattern_names name pattern (row ∷ rows) =
    elim (bytes_eq row.name name) as (λ b. (cond b (record row { pattern = pattern }) row).name ∷ map row_name (with_pattern name pattern rows)
    ≡ row.name ∷ map row_name rows) [
      | true ↦ ap (λ ns. row.name ∷ ns) (pattern_names name pattern rows)
      | false ↦ ap (λ ns. row.name ∷ ns) (pattern_names name pattern rows)
    ]

names_created : (new : Archive) (row : Row) (rows : List Archive) (others : List Row) → new.name ≡ row.name → map name_of rows ≡ map row_name others
    → map name_of (placed name_of keeping new rows) ≡ map row_name (put_archive row others)
names_created new row rows others one same =
    placed_names new rows ∙ ap (λ n. placed (λ (n : List ℕ). n) replacing n (map name_of rows)) one ∙ ap (placed (λ (n : List ℕ). n) replacing row.name) same
    ∙ sym (map_placed row_name (λ n. n) row others)

names_deleted : (name : List ℕ) (rows : List Archive) (others : List Row) → map name_of rows ≡ map row_name others
    → map name_of (without name_of name rows) ≡ map row_name (without_archive name others)
names_deleted name rows others same =
    map_without name_of (λ n. n) name rows ∙ ap (without (λ (n : List ℕ). n) name) same ∙ sym (map_without row_name (λ n. n) name others)

days_up : (events before moment days : ℕ) (a : Archive) → days ≤ most_days → KeepsUpTo events before a
    → KeepsUpTo events before (with_days days moment a)
days_up events before moment days a within up =
    let left = purged_up events before before moment a (omega arith) up in
    record { days = within; earlier = left.earlier; few = left.few }

created_up : (name : List ℕ) (days moment events before : ℕ) → days ≤ most_days → KeepsUpTo events before (empty_archive name days moment)
created_up name days moment events before within = record {
  days = within;
  earlier = All-nil (λ (e : KeptEvent). (e.number ≤ events) × (e.accepted ≤ before));
  few = omega arith;
}

-- the days of a change that is well formed
created_within : (name bus : List ℕ) (days : ℕ) → (is_archive_name name && (is_bus_name bus && nat_le days most_days)) ≡ true → days ≤ most_days
created_within name bus days formed =
    let few = (and_parts (is_bus_name bus) (nat_le days most_days) (and_parts (is_archive_name name) (is_bus_name bus && nat_le days most_days) formed).1).1 in
    grind (arith, nat_tests)

updated_within : (name : List ℕ) (days : ℕ) → (is_archive_name name && nat_le days most_days) ≡ true → days ≤ most_days
updated_within name days formed =
    let few = (and_parts (is_archive_name name) (nat_le days most_days) formed).1 in
    grind (arith, nat_tests)

-- the archives after a change are those of the rule set after it, and keep no later event
pub record AreChanged (c : Control) (set : RuleSet) (moment events before : ℕ) (rows : List Archive) : Type 0 where
  pub names : map name_of (archives_after c moment rows) ≡ map row_name (applied c set).archives
  pub up : All (KeepsUpTo events before) (archives_after c moment rows)

pub archives_changed : (c : Control) (set : RuleSet) (moment events before : ℕ) (rows : List Archive) → map name_of rows ≡ map row_name set.archives
    → All (KeepsUpTo events before) rows → IsTrue (is_well_formed c) → AreChanged c set moment events before rows
archives_changed (bus_created name) set moment events before rows same all formed = record { names = same; up = all }
archives_changed (bus_deleted name) set moment events before rows same all formed = record { names = same; up = all }
archives_changed (rule_put bus name pattern enabled) set moment events before rows same all formed = record { names = same; up = all }
archives_changed (rule_deleted bus name) set moment events before rows same all formed = record { names = same; up = all }
archives_changed (state_put bus name enabled) set moment events before rows same all formed = record { names = same; up = all }
archives_changed (targets_put bus rule targets) set moment events before rows same all formed = record { names = same; up = all }
archives_changed (targets_removed bus rule ids) set moment events before rows same all formed = record { names = same; up = all }
archives_changed (policy_put bus policy) set moment events before rows same all formed = record { names = same; up = all }
archives_changed (queue_created name) set moment events before rows same all formed = record { names = same; up = all }
archives_changed (queue_deleted name) set moment events before rows same all formed = record { names = same; up = all }
archives_changed (archive_created name bus pattern days) set moment events before rows same all formed =
    let within = created_within name bus days formed in
    let new : Archive = empty_archive name days moment in
    let row : Row = record { name = name; bus = bus; pattern = pattern; made = set.count + 1 } in
    record {
      names = names_created new row rows set.archives refl same;
      up = All_placed (KeepsUpTo events before) name_of keeping new rows (created_up name days moment events before within) (λ old up. up) all;
    }
archives_changed (archive_updated name pattern days) set moment events before rows same all formed = record {
  names = names_changed name (with_days days moment) rows (λ a. refl) ∙ same ∙ sym (pattern_names name pattern set.archives);
  up = All_changed (KeepsUpTo events before) name (with_days days moment) rows all
      (λ a there. days_up events before moment days a (updated_within name days formed) (found_in (KeepsUpTo events before) name rows a there all));
}
archives_changed (archive_deleted name) set moment events before rows same all formed = record {
  names = names_deleted name rows set.archives same;
  up = All_without (KeepsUpTo events before) name rows all;
}
