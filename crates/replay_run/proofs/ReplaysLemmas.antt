-- All replays: the entry of a name (`entry_named`), that of the first one that runs (`first_entry`), what the names show (`number_named`), and
-- soundness after a start (`sound_started`) and after a change in place (`sound_changed`), each with the rows that it leaves.
use Rattle.std.proofs.Common.{◌≡◌, ◌≢◌, ◌==◌, ℕ, ◌+◌, ◌<◌, ◌≤◌, Bor, MatchOption, Bool, true, false, not, cond, Some, None, Option, List, [], ◌∷◌, ◌++◌, length, map, refl, sym, ap, ◌∙◌, subst, arith, append_assoc, length-append, append-nil}
use Rattle.std.specs.Prelude.{All, filter, IfSome, ◌||◌}
use Rattle.std.specs.List.{list_any}
use Rattle.std.specs.Str.{bytes_eq}
use Rattle.std.specs.Cmp.Lexicographic.{slice_cmp}
use Rattle.std.specs.Ordering.{nat_cmp}
use Rattle.std.proofs.lemmas.Bool.{false_from_ne_true, ne_eqb, eq-eqb}
use Rattle.std.proofs.lemmas.Slice.Eq.{bytes_eq-Decides}
use Rattle.std.proofs.lemmas.List.{map-append, length-map}
use Rattle.std.proofs.lemmas.List.Elements.{All-nil, All-cons, All-head, All-tail, All-push, All-append, filter-append}
use Rattle.name_rows.specs.Rows.{named, replacing}
use Rattle.name_rows.specs.Rows as rows
use Rattle.name_rows.proofs.NameOrder.{same_name, bytes_eq_Greater}
use Rattle.name_rows.proofs.RowLemmas.{by_cmp, by_test, Other, All_front, All_back, named_none, sorted_placed}
use Rattle.key_tree.specs.Entries.{placed, value_at, without, AllKeys, AreSorted}
use Rattle.key_tree.proofs.EntryLemmas.{AllKeys-weaker, placed_lower, placed_upper, value_at_none, value_here, value_at-without_same, without_here, around}
use Rattle.replay_run.specs.declared.row.ReplayRow.{ReplayRow}
use Rattle.replay_run.specs.declared.row.NumberedName.{NumberedName}
use Rattle.archive_keep.specs.Archive.{Archive}
use Rattle.replay_run.specs.declared.settings.ReplaySettings.{ReplaySettings}
use Rattle.replay_run.specs.Selection.{selection_of}
use Rattle.replay_run.specs.declared.state.ReplayState.{ReplayState}
use Rattle.replay_run.specs.declared.state.ReplayState.TheVariants.{Running, Completed, Cancelled}
use Rattle.replay_run.specs.Replay.{new_replay, replay_state, advanced, after_cancellation}
use Rattle.replay_run.specs.Replays.{name_of, is_running_state, is_running, running, found, if_running, running_named, is_sent_to, is_one_sent_to, next_number, changed_at, first_row, stepped_at, cancelled_at, changed_named, stepped_in, cancelled_in, numbered, numbered_if, number_name, with_name, names_after, names_of, row_of, rows_in, AreCounted, HaveOwnNames, number_of, running_numbers, AreSound, numbers_after, numbers_with}

-- counted entries
counted_from : (n : ℕ) (es : List (ℕ × ReplayRow)) → AreCounted n es → AllKeys (λ key. n ≤ key) es
counted_from n [] c = tt
counted_from n (e ∷ es) (key, number, rest) = (
  omega (arith, key),
  AllKeys-weaker (λ k. n + 1 ≤ k) (λ k. n ≤ k) (λ k more. omega (arith, more)) es (counted_from (n + 1) es rest),
)

pub counted_sorted : (n : ℕ) (es : List (ℕ × ReplayRow)) → AreCounted n es → AreSorted es
counted_sorted n [] c = tt
counted_sorted n (e ∷ es) (key, number, rest) = (
  AllKeys-weaker (λ k. n + 1 ≤ k) (λ k. e.0 < k) (λ k more. omega (arith, more, key)) es (counted_from (n + 1) es rest),
  counted_sorted (n + 1) es rest,
)

counted_below : (n : ℕ) (es : List (ℕ × ReplayRow)) → AreCounted n es → AllKeys (λ key. key < n + length es) es
counted_below n [] c = tt
counted_below n (e ∷ es) (key, number, rest) = (
  omega (arith, key),
  AllKeys-weaker (λ k. k < (n + 1) + length es) (λ k. k < n + length (e ∷ es)) (λ k less. omega (arith, less)) es (counted_below (n + 1) es rest),
)

counted_pushed : (n : ℕ) (es : List (ℕ × ReplayRow)) (key : ℕ) (row : ReplayRow) → AreCounted n es → key ≡ n + length es → row.number ≡ n + length es
    → AreCounted n (es ++ (key, row) ∷ [])
counted_pushed n [] key row c is number = (omega (arith, is), omega (arith, number), tt)
counted_pushed n (e ∷ es) key row (first, own, rest) is number = (first, own, counted_pushed (n + 1) es key row rest (omega (arith, is)) (omega (arith, number)))

counted_replaced : (n : ℕ) (front : List (ℕ × ReplayRow)) (key : ℕ) (old new : ReplayRow) (back : List (ℕ × ReplayRow)) → new.number ≡ old.number
    → AreCounted n (front ++ (key, old) ∷ back) → AreCounted n (front ++ (key, new) ∷ back)
counted_replaced n [] key old new back same (first, own, rest) = (first, same ∙ own, rest)
counted_replaced n (e ∷ front) key old new back same (first, own, rest) = (first, own, counted_replaced (n + 1) front key old new back same rest)

-- names
other_back : (x y : List ℕ) → bytes_eq x y ≡ false → bytes_eq y x ≡ false
other_back x y e =
    let here = bytes_eq-Decides x y in
    let there = bytes_eq-Decides y x in
    false_from_ne_true _ (λ same. let both : bytes_eq x y ≡ true = here.1 (sym (there.0 same)) in absurd (cc))

own_pushed : (all : List ReplayRow) (new : ReplayRow) → All (Other name_of (name_of new)) all → HaveOwnNames all → HaveOwnNames (all ++ new ∷ [])
own_pushed [] new none own = (All-nil (Other name_of (name_of new)), tt)
own_pushed (row ∷ all) new none (first, rest) = (
  All-push (Other name_of (name_of row)) all new first
      (other_back (name_of row) (name_of new) (All-head (Other name_of (name_of new)) row all none)),
  own_pushed all new (All-tail (Other name_of (name_of new)) row all none) rest,
)

All_with_new : (P : ReplayRow → Type 0) (front : List ReplayRow) (old new : ReplayRow) (back : List ReplayRow) → (P old → P new) → All P (front ++ old ∷ back)
    → All P (front ++ new ∷ back)
All_with_new P front old new back f a =
    let later = All_back P front (old ∷ back) a in
    All-append P front (new ∷ back) (All_front P front (old ∷ back) a) (All-cons P new back (f (All-head P old back later)) (All-tail P old back later))

own_replaced : (front : List ReplayRow) (old new : ReplayRow) (back : List ReplayRow) → name_of new ≡ name_of old → HaveOwnNames (front ++ old ∷ back)
    → HaveOwnNames (front ++ new ∷ back)
own_replaced [] old new back same (first, rest) = (subst (λ n. All (Other name_of n) back) (sym same) first, rest)
own_replaced (row ∷ front) old new back same (first, rest) = (
  All_with_new (Other name_of (name_of row)) front old new back (λ e. subst (λ n. bytes_eq n (name_of row) ≡ false) (sym same) e) first,
  own_replaced front old new back same rest,
)

none_named : (name : List ℕ) (all : List ReplayRow) → named name_of name all ≡ None → All (Other name_of name) all
none_named name [] h = All-nil (Other name_of name)
none_named name (row ∷ all) h =
    (elim (bytes_eq (name_of row) name) as (λ b. bytes_eq (name_of row) name ≡ b → cond b (Some row) (named name_of name all) ≡ None
    → All (Other name_of name) (row ∷ all)) [
      | true ↦ λ _ is. absurd (cc)
      | false ↦ λ other is. All-cons (Other name_of name) row all other (none_named name all is)
    ]) refl h

-- the row of a name after another row was placed among names
apart_names : {X : Type 0} (x y name : List ℕ) (one two three : X) → (bytes_eq x name ≡ true → bytes_eq y name ≡ false)
    → cond (bytes_eq y name) two (cond (bytes_eq x name) one three) ≡ cond (bytes_eq x name) one (cond (bytes_eq y name) two three)
apart_names {X} x y name one two three apart =
    by_test (bytes_eq x name)
    (λ e. let n = apart e in rw (e, n) refl)
    (λ e. rw e refl)

named_placed : (new : NumberedName) (name : List ℕ) (all : List NumberedName)
    → named number_name name (rows.placed number_name replacing new all) ≡ cond (bytes_eq new.name name) (Some new) (named number_name name all)
named_placed new name [] = refl
named_placed new name (old ∷ rest) =
    by_cmp (slice_cmp nat_cmp new.name old.name)
    (λ e. rw e refl)
    (λ e. rw e (
    let same : old.name ≡ new.name = sym (same_name new.name old.name e) in
    by_test (bytes_eq new.name name)
    (λ t. rw t refl)
    (λ t. let u : bytes_eq old.name name ≡ false = ap (λ n. bytes_eq n name) same ∙ t in rw (t, u) refl)
    ))
    (λ e. rw e (
    ap (λ o. cond (bytes_eq old.name name) (Some old) o) (named_placed new name rest)
    ∙ apart_names new.name old.name name (Some new) (Some old) (named number_name name rest)
    (λ t.
    let is : new.name ≡ name = (bytes_eq-Decides new.name name).0 t in
    subst (λ n. bytes_eq old.name n ≡ false) is (other_back new.name old.name (bytes_eq_Greater new.name old.name e)))
    ))

abbrev number_or : Option ReplayRow → Option NumberedName → Option NumberedName
number_or None other = other
number_or (Some row) other = Some (numbered row)

named_after_all : (name : List ℕ) (names : List NumberedName) (all : List ReplayRow) → HaveOwnNames all
    → named number_name name (names_after names all) ≡ number_or (named name_of name all) (named number_name name names)
named_after_all name names [] own = refl
named_after_all name names (row ∷ all) (first, rest) =
    named_after_all name (with_name row names) all rest
    ∙ ap (number_or (named name_of name all)) (named_placed (numbered row) name names)
    ∙ by_test (bytes_eq (name_of row) name)
    (λ e.
    let is : name_of row ≡ name = (bytes_eq-Decides (name_of row) name).0 e in
    let none = named_none name_of name all (subst (λ n. All (Other name_of n) all) is first) in
    rw (e, none) refl)
    (λ e. rw e refl)

pub number_named : (name : List ℕ) (all : List ReplayRow) → HaveOwnNames all
    → named number_name name (names_of all) ≡ number_or (named name_of name all) None
number_named name all own = named_after_all name [] all own

pub number_found : (o : Option ReplayRow) (n : NumberedName) → number_or o None ≡ Some n → (row : ReplayRow) × (o ≡ Some row) × (n ≡ numbered row)
number_found None n h = absurd (cc)
number_found (Some row) n h = (row, refl, cc)

pub number_missing : (o : Option ReplayRow) → number_or o None ≡ None → o ≡ None
number_missing None h = refl
number_missing (Some row) h = absurd (cc)

pub names_pushed : (names : List NumberedName) (all : List ReplayRow) (row : ReplayRow) → names_after names (all ++ row ∷ []) ≡ with_name row (names_after names all)
names_pushed names [] row = refl
names_pushed names (first ∷ all) row = names_pushed (with_name first names) all row

names_sorted : (names : List NumberedName) (all : List ReplayRow) → rows.AreSorted number_name names → rows.AreSorted number_name (names_after names all)
names_sorted names [] o = o
names_sorted names (row ∷ all) o = names_sorted (with_name row names) all (sorted_placed number_name replacing (numbered row) names (λ old. refl) o)

pub all_names_sorted : (all : List ReplayRow) → rows.AreSorted number_name (names_of all)
all_names_sorted all = names_sorted [] all tt

number_of_found : (o : Option ReplayRow) → number_or o None ≡ numbered_if o
number_of_found None = refl
number_of_found (Some row) = refl

-- the list of names has each replay's name with its number, and no other name
pub number_for : (name : List ℕ) (es : List (ℕ × ReplayRow)) (numbers : List ℕ) (names : List NumberedName) → AreSound es numbers names
    → named number_name name names ≡ numbered_if (found name (rows_in es))
number_for name es numbers names sound =
    ap (named number_name name) sound.named ∙ number_named name (rows_in es) sound.apart ∙ number_of_found (found name (rows_in es))

names_same : (names : List NumberedName) (front : List ReplayRow) (old new : ReplayRow) (back : List ReplayRow) → numbered new ≡ numbered old
    → names_after names (front ++ new ∷ back) ≡ names_after names (front ++ old ∷ back)
names_same names [] old new back same = ap (λ n. names_after (rows.placed number_name replacing n names) back) same
names_same names (row ∷ front) old new back same = names_same (with_name row names) front old new back same

-- an entry
pub record IsEntry (name : List ℕ) (entries : List (ℕ × ReplayRow)) (row : ReplayRow) : Type 0 where
  pub front : List (ℕ × ReplayRow)
  pub back : List (ℕ × ReplayRow)
  pub parts : entries ≡ front ++ (row.number, row) ∷ back
  pub others : All (Other name_of name) (rows_in front)
  pub same : bytes_eq (name_of row) name ≡ true

entry_is : (n : ℕ) (e : ℕ × ReplayRow) → e.0 ≡ n → e.1.number ≡ n → e ≡ (e.1.number, e.1)
entry_is n e key number = ap (λ k. (k, e.1)) (key ∙ sym number)

entry_in : (n : ℕ) (name : List ℕ) (es : List (ℕ × ReplayRow)) (row : ReplayRow) → AreCounted n es → named name_of name (rows_in es) ≡ Some row
    → IsEntry name es row
entry_in n name [] row c h = absurd (cc)
entry_in n name (e ∷ es) row (key, number, rest) h =
    (elim (bytes_eq (name_of e.1) name) as (λ b. bytes_eq (name_of e.1) name ≡ b → cond b (Some e.1) (named name_of name (rows_in es)) ≡ Some row
    → IsEntry name (e ∷ es) row) [
      | true ↦ λ same is.
          let own : e.1 ≡ row = cc in
          record {
            front = [];
            back = es;
            parts = ap (λ x. x ∷ es) (entry_is n e key number ∙ ap (λ (r : ReplayRow). (r.number, r)) own);
            others = All-nil (Other name_of name);
            same = ap (λ r. bytes_eq (name_of r) name) (sym own) ∙ same;
          }
      | false ↦ λ other is.
          let more = entry_in (n + 1) name es row rest is in
          record {
            front = e ∷ more.front;
            back = more.back;
            parts = ap (λ xs. e ∷ xs) more.parts;
            others = All-cons (Other name_of name) e.1 (rows_in more.front) other more.others;
            same = more.same;
          }
    ]) refl h

pub entry_named : (name : List ℕ) (es : List (ℕ × ReplayRow)) (row : ReplayRow) (numbers : List ℕ) (names : List NumberedName) → AreSound es numbers names
    → named name_of name (rows_in es) ≡ Some row → IsEntry name es row
entry_named name es row numbers names sound h = entry_in 1 name es row sound.counted h

pub value_of_entry : (name : List ℕ) (es : List (ℕ × ReplayRow)) (row : ReplayRow) → AreCounted 1 es → (h : IsEntry name es row) → value_at row.number es ≡ Some row
value_of_entry name es row c h =
    let sorted = subst AreSorted h.parts (counted_sorted 1 es c) in
    ap (value_at row.number) h.parts ∙ value_here row.number h.front (row.number, row) h.back sorted refl

-- the entry of the first row that runs
first_in : (n : ℕ) (es : List (ℕ × ReplayRow)) (row : ReplayRow) (rest : List ReplayRow) → AreCounted n es → running (rows_in es) ≡ row ∷ rest
    → (front back : List (ℕ × ReplayRow)) × (es ≡ front ++ (row.number, row) ∷ back)
first_in n [] row rest c h = absurd (cc)
first_in n (e ∷ es) row rest (key, number, more) h =
    (elim (is_running e.1) as (λ b. cond b (e.1 ∷ running (rows_in es)) (running (rows_in es)) ≡ row ∷ rest
    → (front back : List (ℕ × ReplayRow)) × (e ∷ es ≡ front ++ (row.number, row) ∷ back)) [
      | true ↦ λ is.
          let own : e.1 ≡ row = cc in
          ([], es, ap (λ x. x ∷ es) (entry_is n e key number ∙ ap (λ (r : ReplayRow). (r.number, r)) own))
      | false ↦ λ is.
          let (front, back, parts) = first_in (n + 1) es row rest more is in
          (e ∷ front, back, ap (λ xs. e ∷ xs) parts)
    ]) h

first_number : (all : List ReplayRow) (n : ℕ) (later : List ℕ) → map number_of all ≡ n ∷ later → (row : ReplayRow) × (rest : List ReplayRow) × (all ≡ row ∷ rest) × (row.number ≡ n)
first_number [] n later h = absurd (cc)
first_number (row ∷ rest) n later h = (row, rest, refl, cc)

-- the row with the first of the numbers that run
pub first_entry : (es : List (ℕ × ReplayRow)) (n : ℕ) (later : List ℕ) → AreCounted 1 es → n ∷ later ≡ running_numbers (rows_in es)
    → (row : ReplayRow) × (rest : List ReplayRow) × (running (rows_in es) ≡ row ∷ rest) × (value_at n es ≡ Some row)
first_entry es n later c h =
    let (row, rest, is, number) = first_number (running (rows_in es)) n later (sym h) in
    let (front, back, parts) = first_in 1 es row rest c is in
    let sorted = subst AreSorted parts (counted_sorted 1 es c) in
    let value : value_at row.number es ≡ Some row = ap (value_at row.number) parts ∙ value_here row.number front (row.number, row) back sorted refl in
    (row, rest, is, subst (λ k. value_at k es ≡ Some row) number value)

own_named : (front : List ReplayRow) (row : ReplayRow) (back : List ReplayRow) → HaveOwnNames (front ++ row ∷ back)
    → named name_of (name_of row) (front ++ row ∷ back) ≡ Some row
own_named [] row back own =
    let same : bytes_eq (name_of row) (name_of row) ≡ true = (bytes_eq-Decides (name_of row) (name_of row)).1 refl in
    rw same refl
own_named (r ∷ front) row back (first, rest) =
    let later = All_back (Other name_of (name_of r)) front (row ∷ back) first in
    let other = other_back (name_of row) (name_of r) (All-head (Other name_of (name_of r)) row back later) in
    rw other (own_named front row back rest)

-- the first row that runs is that of its name
pub first_named : (es : List (ℕ × ReplayRow)) (row : ReplayRow) (rest : List ReplayRow) → AreCounted 1 es → HaveOwnNames (rows_in es)
    → running (rows_in es) ≡ row ∷ rest → found (name_of row) (rows_in es) ≡ Some row
first_named es row rest counted own runs =
    let (front, back, parts) = first_in 1 es row rest counted runs in
    let rows_so : rows_in es ≡ rows_in front ++ row ∷ rows_in back = ap rows_in parts ∙ map-append row_of front ((row.number, row) ∷ back) in
    ap (named name_of (name_of row)) rows_so ∙ own_named (rows_in front) row (rows_in back) (subst HaveOwnNames rows_so own)

-- of the rows with the numbers that run one sends its events to the bus if one of those that run does
sent_in : (bus : List ℕ) (es : List (ℕ × ReplayRow)) (n : ℕ) (front back : List (ℕ × ReplayRow)) → es ≡ front ++ back → AreSorted es → AreCounted n back
    → is_one_sent_to bus es (running_numbers (rows_in back)) ≡ is_sent_to bus (rows_in back)
sent_in bus es n front [] parts sorted counted = refl
sent_in bus es n front (e ∷ back) parts sorted (key, number, rest) =
    let more = sent_in bus es (n + 1) (front ++ e ∷ []) back (parts ∙ sym (append_assoc front (e ∷ []) back)) sorted rest in
    let placed_so : es ≡ front ++ (e.1.number, e.1) ∷ back = parts ∙ ap (λ x. front ++ x ∷ back) (entry_is n e key number) in
    let value : value_at e.1.number es ≡ Some e.1 =
    ap (value_at e.1.number) placed_so ∙ value_here e.1.number front (e.1.number, e.1) back (subst AreSorted placed_so sorted) refl in
    elim (is_running e.1) as (λ b. is_one_sent_to bus es (map number_of (cond b (e.1 ∷ running (rows_in back)) (running (rows_in back))))
    ≡ list_any (λ (row : ReplayRow). bytes_eq row.settings.bus bus) (cond b (e.1 ∷ running (rows_in back)) (running (rows_in back)))) [
      | true ↦ rw value (ap (λ b. bytes_eq e.1.settings.bus bus || b) more)
      | false ↦ more
    ]

pub sent_so : (bus : List ℕ) (es : List (ℕ × ReplayRow)) (numbers : List ℕ) (names : List NumberedName) → AreSound es numbers names
    → is_one_sent_to bus es numbers ≡ is_sent_to bus (rows_in es)
sent_so bus es numbers names sound =
    ap (is_one_sent_to bus es) sound.runs ∙ sent_in bus es 1 [] es refl (counted_sorted 1 es sound.counted) sound.counted

nothing : (all : List ReplayRow) → [] ≡ map number_of all → all ≡ []
nothing [] h = refl
nothing (row ∷ all) h = absurd (cc)

pub no_entry : (es : List (ℕ × ReplayRow)) → [] ≡ running_numbers (rows_in es) → running (rows_in es) ≡ []
no_entry es h = nothing (running (rows_in es)) h

-- numbers that run
abbrev AreKeyed : List (ℕ × ReplayRow) → Type 0
AreKeyed [] = Unit {0}
AreKeyed (e ∷ es) = (e.0 ≡ e.1.number) × AreKeyed es

keyed : (n : ℕ) (es : List (ℕ × ReplayRow)) → AreCounted n es → AreKeyed es
keyed n [] c = tt
keyed n (e ∷ es) (key, number, rest) = (key ∙ sym number, keyed (n + 1) es rest)

keyed_front : (front back : List (ℕ × ReplayRow)) → AreKeyed (front ++ back) → AreKeyed front
keyed_front [] back k = tt
keyed_front (e ∷ front) back (first, rest) = (first, keyed_front front back rest)

keyed_back : (front back : List (ℕ × ReplayRow)) → AreKeyed (front ++ back) → AreKeyed back
keyed_back [] back k = k
keyed_back (e ∷ front) back (first, rest) = keyed_back front back rest

numbers_in : (P : ℕ → Type 0) (es : List (ℕ × ReplayRow)) → AreKeyed es → AllKeys P es → All P (running_numbers (rows_in es))
numbers_in P [] k a = All-nil P
numbers_in P (e ∷ es) (key, rest) (first, later) =
    let more = numbers_in P es rest later in
    elim (is_running e.1) as (λ b. All P (map number_of (cond b (e.1 ∷ running (rows_in es)) (running (rows_in es))))) [
      | true ↦ All-cons P e.1.number (running_numbers (rows_in es)) (subst P key first) more
      | false ↦ more
    ]

running_append : (xs ys : List (ℕ × ReplayRow)) → running_numbers (rows_in (xs ++ ys)) ≡ running_numbers (rows_in xs) ++ running_numbers (rows_in ys)
running_append xs ys =
    ap running_numbers (map-append row_of xs ys) ∙ ap (map number_of) (filter-append is_running (rows_in xs) (rows_in ys))
    ∙ map-append number_of (running (rows_in xs)) (running (rows_in ys))

one_running : (key : ℕ) (row : ReplayRow) (back : List (ℕ × ReplayRow)) (n : ℕ) → row.number ≡ n
    → running_numbers (rows_in ((key, row) ∷ back)) ≡ cond (is_running row) (n ∷ running_numbers (rows_in back)) (running_numbers (rows_in back))
one_running key row back n number =
    let rest = running_numbers (rows_in back) in
    elim (is_running row) as (λ b. map number_of (cond b (row ∷ running (rows_in back)) (running (rows_in back))) ≡ cond b (n ∷ rest) rest) [
      | true ↦ ap (λ k. k ∷ rest) number
      | false ↦ refl
    ]

abbrev Differs : ℕ → ℕ → Type 0
Differs n k = k ≢ n

abbrev is_other : ℕ → ℕ → Bool
is_other n k = not (k == n)

others_stay : (n : ℕ) (ks : List ℕ) → All (Differs n) ks → filter (is_other n) ks ≡ ks
others_stay n [] a = refl
others_stay n (k ∷ ks) a =
    let e = ne_eqb k n (All-head (Differs n) k ks a) in
    rw e (ap (λ xs. k ∷ xs) (others_stay n ks (All-tail (Differs n) k ks a)))

number_goes : (n : ℕ) (ks : List ℕ) → filter (is_other n) (n ∷ ks) ≡ filter (is_other n) ks
number_goes n ks = let e = eq-eqb n n refl in rw e refl

numbers_changed : (b : Bool) (n : ℕ) (front back : List ℕ) → All (Differs n) front → All (Differs n) back
    → numbers_after b n (front ++ n ∷ back) ≡ front ++ cond b (n ∷ back) back
numbers_changed true n front back f l = refl
numbers_changed false n front back f l =
    filter-append (is_other n) front (n ∷ back) ∙ ap (λ xs. filter (is_other n) front ++ xs) (number_goes n back ∙ others_stay n back l)
    ∙ ap (λ xs. xs ++ back) (others_stay n front f)

runs_changed : (front back : List (ℕ × ReplayRow)) (row new : ReplayRow) → AreCounted 1 (front ++ (row.number, row) ∷ back) → is_running row ≡ true
    → new.number ≡ row.number
    → numbers_after (is_running new) row.number (running_numbers (rows_in (front ++ (row.number, row) ∷ back)))
    ≡ running_numbers (rows_in (front ++ (row.number, new) ∷ back))
runs_changed front back row new c runs same =
    let n = row.number in
    let first = running_numbers (rows_in front) in
    let last = running_numbers (rows_in back) in
    let keys = keyed 1 (front ++ (n, row) ∷ back) c in
    let parts = around front (n, row) back (counted_sorted 1 (front ++ (n, row) ∷ back) c) in
    let before = numbers_in (Differs n) front (keyed_front front ((n, row) ∷ back) keys)
    (AllKeys-weaker (λ k. k < n) (Differs n) (λ k less is. omega (arith, less, is)) front parts.before) in
    let after = numbers_in (Differs n) back (keyed_back front ((n, row) ∷ back) keys).1
    (AllKeys-weaker (λ k. n < k) (Differs n) (λ k more is. omega (arith, more, is)) back parts.after) in
    let here : running_numbers (rows_in ((n, row) ∷ back)) ≡ n ∷ last = one_running n row back n refl ∙ ap (λ b. cond b (n ∷ last) last) runs in
    ap (numbers_after (is_running new) n) (running_append front ((n, row) ∷ back) ∙ ap (λ xs. first ++ xs) here)
    ∙ numbers_changed (is_running new) n first last before after
    ∙ sym (running_append front ((n, new) ∷ back) ∙ ap (λ xs. first ++ xs) (one_running n new back n same))

-- the entries after a start
pub placed_last : (key : ℕ) (row : ReplayRow) (es : List (ℕ × ReplayRow)) → AreCounted 1 es → key ≡ length es + 1 → placed (key, row) es ≡ es ++ (key, row) ∷ []
placed_last key row es c is =
    ap (placed (key, row)) (sym (append-nil es))
    ∙ placed_upper (key, row) es [] (AllKeys-weaker (λ k. k < 1 + length es) (λ k. k < key) (λ k less. omega (arith, less, is)) es (counted_below 1 es c))

pub new_number : (key : ℕ) (es : List (ℕ × ReplayRow)) → AreCounted 1 es → key ≡ length es + 1 → value_at key es ≡ None
new_number key es c is =
    value_at_none key es (AllKeys-weaker (λ k. k < 1 + length es) (λ k. k ≢ key) (λ k less same. omega (arith, less, is, same)) es (counted_below 1 es c))

pub rows_pushed : (es : List (ℕ × ReplayRow)) (key : ℕ) (row : ReplayRow) → rows_in (es ++ (key, row) ∷ []) ≡ rows_in es ++ row ∷ []
rows_pushed es key row = map-append row_of es ((key, row) ∷ [])

numbers_pushed : (b : Bool) (n : ℕ) (ks : List ℕ) → numbers_with b n ks ≡ ks ++ cond b (n ∷ []) []
numbers_pushed true n ks = refl
numbers_pushed false n ks = sym (append-nil ks)

pub sound_started : (es : List (ℕ × ReplayRow)) (numbers : List ℕ) (names now : List NumberedName) (key : ℕ) (row : ReplayRow) → AreSound es numbers names
    → key ≡ length es + 1 → row.number ≡ key → named name_of (name_of row) (rows_in es) ≡ None → now ≡ names_of (rows_in es ++ row ∷ [])
    → AreSound (es ++ (key, row) ∷ []) (numbers_with (is_running row) key numbers) now
sound_started es numbers names now key row sound is number free all = record {
  counted = counted_pushed 1 es key row sound.counted (omega (arith, is)) (omega (arith, is, number));
  apart = subst HaveOwnNames (sym (rows_pushed es key row)) (own_pushed (rows_in es) row (none_named (name_of row) (rows_in es) free) sound.apart);
  runs = ap (numbers_with (is_running row) key) sound.runs ∙ numbers_pushed (is_running row) key (running_numbers (rows_in es))
      ∙ sym (running_append es ((key, row) ∷ []) ∙ ap (λ xs. running_numbers (rows_in es) ++ xs) (one_running key row [] key number));
  named = all ∙ ap names_of (sym (rows_pushed es key row));
}

-- the entries after a change in place
pub put_back : (name : List ℕ) (es : List (ℕ × ReplayRow)) (row new : ReplayRow) → AreCounted 1 es → (h : IsEntry name es row)
    → placed (row.number, new) (without row.number es) ≡ h.front ++ (row.number, new) ∷ h.back
put_back name es row new c h =
    let n = row.number in
    let sorted = subst AreSorted h.parts (counted_sorted 1 es c) in
    let parts = around h.front (n, row) h.back sorted in
    ap (λ xs. placed (n, new) (without n xs)) h.parts ∙ ap (placed (n, new)) (without_here n h.front (n, row) h.back sorted refl)
    ∙ placed_upper (n, new) h.front h.back parts.before ∙ ap (λ xs. h.front ++ xs) (placed_lower (n, new) [] h.back parts.after)

changed_front : (name : List ℕ) (change : ReplayRow → ReplayRow) (front : List ReplayRow) (here : ReplayRow) (back : List ReplayRow)
    → All (Other name_of name) front → bytes_eq (name_of here) name ≡ true → changed_named name change (front ++ here ∷ back) ≡ front ++ change here ∷ back
changed_front name change [] here back a p = rw p refl
changed_front name change (row ∷ front) here back a p =
    let e = All-head (Other name_of name) row front a in
    rw e (ap (λ rs. row ∷ rs) (changed_front name change front here back (All-tail (Other name_of name) row front a) p))

pub changed_rows : (name : List ℕ) (change : ReplayRow → ReplayRow) (es : List (ℕ × ReplayRow)) (row : ReplayRow) (h : IsEntry name es row)
    → changed_named name change (rows_in es) ≡ rows_in (h.front ++ (row.number, change row) ∷ h.back)
changed_rows name change es row h =
    let n = row.number in
    ap (λ xs. changed_named name change (rows_in xs)) h.parts ∙ ap (changed_named name change) (map-append row_of h.front ((n, row) ∷ h.back))
    ∙ changed_front name change (rows_in h.front) row (rows_in h.back) h.others h.same ∙ sym (map-append row_of h.front ((n, change row) ∷ h.back))

pub changed_length : (name : List ℕ) (es : List (ℕ × ReplayRow)) (row new : ReplayRow) (h : IsEntry name es row)
    → length (h.front ++ (row.number, new) ∷ h.back) ≡ length es
changed_length name es row new h =
    length-append h.front ((row.number, new) ∷ h.back) ∙ sym (ap (length {A = ℕ × ReplayRow}) h.parts ∙ length-append h.front ((row.number, row) ∷ h.back))

pub sound_changed : (name : List ℕ) (es : List (ℕ × ReplayRow)) (numbers : List ℕ) (names : List NumberedName) (row new : ReplayRow)
    → AreSound es numbers names → (h : IsEntry name es row) → is_running row ≡ true → new.number ≡ row.number → name_of new ≡ name_of row
    → AreSound (h.front ++ (row.number, new) ∷ h.back) (numbers_after (is_running new) row.number numbers) names
sound_changed name es numbers names row new sound h runs number same =
    let n = row.number in
    let counted = subst (AreCounted 1) h.parts sound.counted in
    let before = map-append row_of h.front ((n, row) ∷ h.back) in
    let after = map-append row_of h.front ((n, new) ∷ h.back) in
    let one : numbered new ≡ numbered row = cc in
    record {
      counted = counted_replaced 1 h.front n row new h.back number counted;
      apart = subst HaveOwnNames (sym after)
          (own_replaced (rows_in h.front) row new (rows_in h.back) same (subst HaveOwnNames (ap rows_in h.parts ∙ before) sound.apart));
      runs = ap (numbers_after (is_running new) n) (sound.runs ∙ ap (λ xs. running_numbers (rows_in xs)) h.parts)
          ∙ runs_changed h.front h.back row new counted runs number;
      named = sound.named ∙ ap names_of (ap rows_in h.parts ∙ before) ∙ sym (names_same [] (rows_in h.front) row new (rows_in h.back) one)
          ∙ ap names_of (sym after);
    }

-- which replay of a name is running
pub running_is : (o : Option ReplayRow) (row : ReplayRow) → if_running o ≡ Some row → (o ≡ Some row) × (is_running row ≡ true)
running_is None row h = absurd (cc)
running_is (Some found) row h =
    (elim (is_running found) as (λ b. is_running found ≡ b → cond b (Some found) None ≡ Some row → (Some found ≡ Some row) × (is_running row ≡ true)) [
      | true ↦ λ runs is. let own : found ≡ row = cc in (is, ap is_running (sym own) ∙ runs)
      | false ↦ λ ends is. absurd (cc)
    ]) refl h

pub still_running : (o : Option ReplayRow) (row : ReplayRow) → o ≡ Some row → is_running row ≡ true → if_running o ≡ Some row
still_running o row is runs = ap if_running is ∙ ap (λ b. cond b (Some row) None) runs

pub not_running : (o : Option ReplayRow) (row : ReplayRow) → o ≡ Some row → is_running row ≡ false → if_running o ≡ None
not_running o row is ends = ap if_running is ∙ ap (λ b. cond b (Some row) None) ends

ended_row : (o : Option ReplayRow) (row : ReplayRow) → if_running o ≡ None → o ≡ Some row → is_running row ≡ false
ended_row o row none is =
    (elim (is_running row) as (λ b. is_running row ≡ b → cond b (Some row) None ≡ None → is_running row ≡ false) [
      | true ↦ λ runs never. absurd (cc)
      | false ↦ λ ends same. ends
    ]) refl (sym (ap if_running is) ∙ none)

unchanged : (name : List ℕ) (change : ReplayRow → ReplayRow) (all : List ReplayRow)
    → ((row : ReplayRow) → named name_of name all ≡ Some row → change row ≡ row) → changed_named name change all ≡ all
unchanged name change [] h = refl
unchanged name change (row ∷ all) h =
    (elim (bytes_eq (name_of row) name) as (λ b. ((r : ReplayRow) → cond b (Some row) (named name_of name all) ≡ Some r → change r ≡ r)
    → cond b (change row ∷ all) (row ∷ changed_named name change all) ≡ row ∷ all) [
      | true ↦ λ k. ap (λ r. r ∷ all) (k row refl)
      | false ↦ λ k. ap (λ rs. row ∷ rs) (unchanged name change all k)
    ]) h

pub not_stepped : (name : List ℕ) (moment : ℕ) (all : List ReplayRow) → running_named name all ≡ None → all ≡ stepped_in name moment all
not_stepped name moment all none =
    sym (unchanged name (stepped_at moment) all (λ row is.
    ap (λ b. cond b (changed_at moment (record row { replay = advanced row.replay })) row) (ended_row (found name all) row none is)))

pub not_cancelled : (name : List ℕ) (moment : ℕ) (all : List ReplayRow) → running_named name all ≡ None → all ≡ cancelled_in name moment all
not_cancelled name moment all none =
    sym (unchanged name (cancelled_at moment) all (λ row is.
    ap (λ b. cond b (changed_at moment (record row { replay = after_cancellation row.replay })) row) (ended_row (found name all) row none is)))

pub next_named : (r : Option (Bor ReplayRow)) (o : Option ReplayRow) (all rest : List ReplayRow) (row : ReplayRow)
    → MatchOption r (o ≡ None) (λ v. o ≡ Some v.now) → o ≡ Some row → found (name_of row) all ≡ Some row
    → IfSome r (λ v. found (name_of v.now) all ≡ Some v.now)
next_named None o all rest row m is named_so = tt
next_named (Some v) o all rest row m is named_so =
    let same : row ≡ v.now = (let both : Some row ≡ Some v.now = sym is ∙ m in cc) in
    subst (λ (x : ReplayRow). found (name_of x) all ≡ Some x) same named_so

-- a change leaves number and settings
changed_kept : (moment : ℕ) (row : ReplayRow) → ((changed_at moment row).number ≡ row.number) × ((changed_at moment row).settings ≡ row.settings)
changed_kept moment row =
    elim (is_running row) as (λ b. ((cond b row (record row { ended_at = Some moment })).number ≡ row.number)
    × ((cond b row (record row { ended_at = Some moment })).settings ≡ row.settings)) [ true ↦ (refl, refl) | false ↦ (refl, refl) ]

pub first_kept : (archive : Archive) (settings : ReplaySettings) (n : ℕ) → ((first_row archive settings n).number ≡ n) × ((first_row archive settings n).settings ≡ settings)
first_kept archive settings n =
    changed_kept settings.started_at (record {
      number = n;
      settings = settings;
      replay = new_replay (selection_of settings.range settings.started_at archive);
      ended_at = None;
    })

pub stepped_kept : (moment : ℕ) (row : ReplayRow) → ((stepped_at moment row).number ≡ row.number) × (name_of (stepped_at moment row) ≡ name_of row)
stepped_kept moment row =
    let new = record row { replay = advanced row.replay } in
    let (number, settings) = changed_kept moment new in
    elim (is_running row) as (λ b. ((cond b (changed_at moment new) row).number ≡ row.number) × (name_of (cond b (changed_at moment new) row) ≡ name_of row)) [
      | true ↦ (number, ap (λ (s : ReplaySettings). s.name) settings)
      | false ↦ (refl, refl)
    ]

pub cancelled_kept : (moment : ℕ) (row : ReplayRow) → ((cancelled_at moment row).number ≡ row.number) × (name_of (cancelled_at moment row) ≡ name_of row)
cancelled_kept moment row =
    let new = record row { replay = after_cancellation row.replay } in
    let (number, settings) = changed_kept moment new in
    elim (is_running row) as (λ b. ((cond b (changed_at moment new) row).number ≡ row.number) × (name_of (cond b (changed_at moment new) row) ≡ name_of row)) [
      | true ↦ (number, ap (λ (s : ReplaySettings). s.name) settings)
      | false ↦ (refl, refl)
    ]

-- the row that a tree has for the first number that runs
pub next_row : (r : Option (Bor ReplayRow)) (o : Option ReplayRow) (all rest : List ReplayRow) (row : ReplayRow)
    → MatchOption r (o ≡ None) (λ v. o ≡ Some v.now) → o ≡ Some row → running all ≡ row ∷ rest
    → MatchOption r (running all ≡ []) (λ v. (later : List ReplayRow) × (running all ≡ v.now ∷ later))
next_row None o all rest row m is runs = absurd (let never : None ≡ Some row = sym m ∙ is in cc)
next_row (Some v) o all rest row m is runs = (rest, runs ∙ ap (λ x. x ∷ rest) (let same : Some row ≡ Some v.now = sym is ∙ m in cc))

state_running : (s : ReplayState) → is_running_state s ≡ true → s ≡ Running
state_running Running runs = refl
state_running Completed runs = absurd (cc)
state_running Cancelled runs = absurd (cc)

-- a running replay is in the state `Running`
pub runs_state : (row : ReplayRow) → is_running row ≡ true → replay_state row.replay ≡ Running
runs_state row runs = state_running (replay_state row.replay) runs

-- ---- one replay is taken out of the tree, changed and put back

-- the replay that was taken out is the running one of the name, and has this number
pub record Picked (name : List ℕ) (entries : List (ℕ × ReplayRow)) (key : ℕ) (node : ReplayRow) : Type 0 where
  pub runs : is_running node ≡ true
  pub number : node.number ≡ key
  pub entry : IsEntry name entries node
  pub found_so : running_named name (rows_in entries) ≡ Some node

pub picked : (name : List ℕ) (es : List (ℕ × ReplayRow)) (numbers : List ℕ) (names : List NumberedName) (key : ℕ) (row node : ReplayRow)
    → AreSound es numbers names → running_named name (rows_in es) ≡ Some row → key ≡ row.number → value_at key es ≡ Some node → Picked name es key node
picked name es numbers names key row node sound named_so keyed value =
    let (there, runs) = running_is (named name_of name (rows_in es)) row named_so in
    let h = entry_named name es row numbers names sound there in
    let own : value_at key es ≡ Some row = ap (λ k. value_at k es) keyed ∙ value_of_entry name es row sound.counted h in
    let same : row ≡ node = cc in
    subst (Picked name es key) same (record { runs = runs; number = sym keyed; entry = h; found_so = named_so })

-- the running replay of a name is in the tree under its number
pub picked_there : (name : List ℕ) (es : List (ℕ × ReplayRow)) (numbers : List ℕ) (names : List NumberedName) (key : ℕ) (row : ReplayRow)
    → AreSound es numbers names → running_named name (rows_in es) ≡ Some row → key ≡ row.number → value_at key es ≡ Some row
picked_there name es numbers names key row sound named_so keyed =
    let (there, runs) = running_is (named name_of name (rows_in es)) row named_so in
    ap (λ k. value_at k es) keyed ∙ value_of_entry name es row sound.counted (entry_named name es row numbers names sound there)

entries_after : (name : List ℕ) (es now : List (ℕ × ReplayRow)) (key again : ℕ) (node new : ReplayRow) → AreCounted 1 es → (p : Picked name es key node)
    → again ≡ key → now ≡ placed (again, new) (without key es) → now ≡ p.entry.front ++ (node.number, new) ∷ p.entry.back
entries_after name es now key again node new counted p same is =
    is ∙ ap (λ k. placed (k, new) (without key es)) (same ∙ sym p.number) ∙ ap (λ k. placed (node.number, new) (without k es)) (sym p.number)
    ∙ put_back name es node new counted p.entry

pub rows_after : (name : List ℕ) (es now : List (ℕ × ReplayRow)) (key again : ℕ) (node new : ReplayRow) (change : ReplayRow → ReplayRow) → AreCounted 1 es
    → Picked name es key node → again ≡ key → new ≡ change node → now ≡ placed (again, new) (without key es)
    → rows_in now ≡ changed_named name change (rows_in es)
rows_after name es now key again node new change counted p same made is =
    ap rows_in (entries_after name es now key again node new counted p same is)
    ∙ ap (λ (r : ReplayRow). rows_in (p.entry.front ++ (node.number, r) ∷ p.entry.back)) made
    ∙ sym (changed_rows name change es node p.entry)

pub sound_after : (name : List ℕ) (es now : List (ℕ × ReplayRow)) (numbers left : List ℕ) (names : List NumberedName) (key again : ℕ) (node new : ReplayRow)
    → AreSound es numbers names → Picked name es key node → again ≡ key → now ≡ placed (again, new) (without key es)
    → left ≡ numbers_after (is_running new) key numbers → new.number ≡ node.number → name_of new ≡ name_of node
    → AreSound now left names
sound_after name es now numbers left names key again node new sound p same is kept number named_so =
    let after = entries_after name es now key again node new sound.counted p same is in
    let numbers_so : left ≡ numbers_after (is_running new) node.number numbers = kept ∙ ap (λ k. numbers_after (is_running new) k numbers) (sym p.number) in
    subst (λ xs. AreSound xs left names) (sym after)
    (subst (λ ks. AreSound (p.entry.front ++ (node.number, new) ∷ p.entry.back) ks names) (sym numbers_so)
    (sound_changed name es numbers names node new sound p.entry p.runs number named_so))

pub length_after : (name : List ℕ) (es now : List (ℕ × ReplayRow)) (key again : ℕ) (node new : ReplayRow) → AreCounted 1 es → Picked name es key node → again ≡ key
    → now ≡ placed (again, new) (without key es) → length now ≡ length es
length_after name es now key again node new counted p same is =
    ap (length {A = ℕ × ReplayRow}) (entries_after name es now key again node new counted p same is) ∙ changed_length name es node new p.entry

pub gone_key : (key again : ℕ) (es left : List (ℕ × ReplayRow)) → again ≡ key → left ≡ without key es → value_at again left ≡ None
gone_key key again es left same is = ap (λ k. value_at k left) same ∙ ap (value_at key) is ∙ value_at-without_same key es

-- ---- what the private calls need

pub none_sound : (es : List (ℕ × ReplayRow)) (numbers : List ℕ) (names : List NumberedName) → es ≡ [] → numbers ≡ [] → names ≡ [] → AreSound es numbers names
none_sound es numbers names none no_numbers no_names =
    let empty : AreSound [] [] [] = record { counted = tt; apart = tt; runs = refl; named = refl } in
    subst (λ xs. AreSound xs numbers names) (sym none)
    (subst (λ ks. AreSound [] ks names) (sym no_numbers) (subst (λ ns. AreSound [] [] ns) (sym no_names) empty))

-- the length of a view is that of its entries
pub same_length : (es : List (ℕ × ReplayRow)) (all : List ReplayRow) → rows_in es ≡ all → length es ≡ length all
same_length es all is = sym (length-map es row_of) ∙ ap (length {A = ReplayRow}) is

pub next_is : (es : List (ℕ × ReplayRow)) (all : List ReplayRow) → rows_in es ≡ all → next_number all ≡ length es + 1
next_is es all is = ap (λ (n : ℕ). n + 1) (sym (same_length es all is))

pub running_length : (es : List (ℕ × ReplayRow)) (numbers : List ℕ) (all : List ReplayRow) → numbers ≡ running_numbers (rows_in es) → rows_in es ≡ all
    → length numbers ≡ length (running all)
running_length es numbers all runs is =
    ap (length {A = ℕ}) runs ∙ length-map (running (rows_in es)) number_of ∙ ap (λ (rows : List ReplayRow). length (running rows)) is

pub pushed_length : (es : List (ℕ × ReplayRow)) (e : ℕ × ReplayRow) → length (es ++ e ∷ []) ≡ length es + 1
pushed_length es e = length-append es (e ∷ [])

-- the name and the number of a replay that is to be started
numbered_is : (row : ReplayRow) (settings : ReplaySettings) (name : List ℕ) (n : ℕ) → row.number ≡ n → row.settings ≡ settings → name ≡ settings.name
    → (let one : NumberedName = record { name = name; number = n } in one) ≡ numbered row
numbered_is row settings name n number settings_so text =
    let made : List ℕ → ℕ → NumberedName = λ t k. record { name = t; number = k } in
    ap (made name) (sym number) ∙ ap (λ (t : List ℕ). made t row.number) (text ∙ ap (λ (s : ReplaySettings). s.name) (sym settings_so))

pub names_prepared : (all : List ReplayRow) (names now : List NumberedName) (row : ReplayRow) (name : List ℕ) (n : ℕ) (settings : ReplaySettings)
    → names ≡ names_of all → now ≡ rows.placed number_name replacing (record { name = name; number = n }) names
    → row.number ≡ n → row.settings ≡ settings → name ≡ settings.name → now ≡ names_of (all ++ row ∷ [])
names_prepared all names now row name n settings named_so put number settings_so text =
    let one : NumberedName = record { name = name; number = n } in
    put ∙ ap (rows.placed number_name replacing one) named_so
    ∙ ap (λ (o : NumberedName). rows.placed number_name replacing o (names_of all)) (numbered_is row settings name n number settings_so text)
    ∙ sym (names_pushed [] all row)
