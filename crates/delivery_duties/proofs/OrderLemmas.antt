-- The pending rows in two lists: what the first entry of the line says (`earliest`, `none_free`), what is known of a row (`waiting_at`, `free_at`,
-- `out_at`), and that each step keeps the lists as they have to be (`inserted`, `claimed_from`, `taken`).
use Rattle.std.proofs.Common.{◌≡◌, ℕ, ◌+◌, ◌^◌, ◌<◌, ◌≤◌, ◌⊎◌, inl, inr, true, false, List, [], ◌∷◌, Option, Some, None, MatchOption, IfSome, refl, sym, ap, ◌∙◌, subst, arith}
use Rattle.std.proofs.lemmas.Bool.{cases_lt}
use Rattle.key_tree.specs.Entries.{placed, value_at, without, AreSorted}
use Rattle.key_tree.proofs.EntryLemmas.{others, sorted_placed, sorted_without, value_at-without_same}
use Rattle.delivery_duties.specs.declared.duty.DutyRow.{DutyRow}
use Rattle.delivery_duties.specs.Duties.{replaced}
use Rattle.delivery_duties.specs.Order.{by_number, due_key, AllEntries, AreInReach, ClaimsIn, IsEarliest, IsFreeAt, IsHeld, IsOutIn, IsSchedule, IsWaiting, NoneFree, NoneFreeIn}
use Rattle.delivery_duties.proofs.EntryLemmas.{found_here, least_key}
use Rattle.delivery_duties.proofs.RowsLemmas.{all_placed, all_without, entry_has, rows_named, kept_line, kept_out, found_in, out_none, line_more, line_less, out_more, out_less, apart_more, apart_less, apart_out, apart_taken}

no_later : (a b c d : ℕ) → due_key a b ≤ due_key c d → b < 2 ^ 64 → d < 2 ^ 64 → (a < c) ⊎ ((a ≡ c) × (b ≤ d))
no_later a b c d h p q =
    elim (cases_lt a c) [ inl l ↦ inl l | inr g ↦ let same : a ≡ c = omega (arith, h, p, q, g) in inr (same, omega (arith, h, p, q, same)) ]

same_number : (a b c d : ℕ) → due_key a b ≡ due_key c d → b < 2 ^ 64 → d < 2 ^ 64 → b ≡ d
same_number a b c d e p q =
    elim (no_later a b c d (omega (arith, e)) p q) [
      | inl l ↦ elim (no_later c d a b (omega (arith, e)) q p) [ inl g ↦ absurd (omega (arith, l, g)) | inr (same, g) ↦ absurd (omega (arith, l, same)) ]
      | inr (same, l) ↦ omega (arith, e, same)
    ]

-- a row of the line
pub waiting_at : {line out : List (ℕ × DutyRow)} (key : ℕ) (row : DutyRow) → IsSchedule line out → value_at key line ≡ Some row → IsWaiting key row
waiting_at {line} key row h e = entry_has IsWaiting key row line h.waiting e

pub held_at : {line out : List (ℕ × DutyRow)} (key : ℕ) (row : DutyRow) → IsSchedule line out → value_at key out ≡ Some row → IsHeld key row
held_at {line} {out} key row h e = entry_has IsHeld key row out h.held e

-- an unclaimed row is in the line
pub free_at : {line out : List (ℕ × DutyRow)} (n : ℕ) (row : DutyRow) → IsSchedule line out → value_at n (by_number line out) ≡ Some row
    → row.claimed ≡ false → value_at (due_key row.due n) line ≡ Some row
free_at {line} {out} n row h e free =
    elim (found_in n row line out h.line_sorted h.apart e) [
      | inl (key, l) ↦
          let w = waiting_at key row h l in
          let named : row.number ≡ n = rows_named n row line out h.held h.apart e in
          subst (λ k. value_at k line ≡ Some row) (w.key_is ∙ ap (due_key row.due) named) l
      | inr o ↦ let held = held_at n row h o in let claimed : row.claimed ≡ true = held.claimed in absurd (cc)
    ]

-- a claimed row is out
pub out_at : {line out : List (ℕ × DutyRow)} (n : ℕ) (row : DutyRow) → IsSchedule line out → value_at n (by_number line out) ≡ Some row
    → row.claimed ≡ true → value_at n out ≡ Some row
out_at {line} {out} n row h e claimed =
    elim (found_in n row line out h.line_sorted h.apart e) [
      | inl (key, l) ↦ let w = waiting_at key row h l in let free : row.claimed ≡ false = w.free in absurd (cc)
      | inr o ↦ o
    ]

pub earliest : {line out : List (ℕ × DutyRow)} (key : ℕ) (row : DutyRow) (rest : List (ℕ × DutyRow)) → IsSchedule line out
    → line ≡ (key, row) ∷ rest → (e : IsEarliest (by_number line out) row.number) × (e.row.due ≡ row.due)
earliest {line} {out} key row rest h e =
    let found : value_at key line ≡ Some row = subst (λ l. value_at key l ≡ Some row) (sym e) (found_here key row rest) in
    let w = waiting_at key row h found in
    let sorted : AreSorted ((key, row) ∷ rest) = subst (AreSorted {V = DutyRow}) e h.line_sorted in
    let first : IsEarliest (by_number line out) row.number = record {
      row = row;
      there = kept_line key row line out h.apart found;
      free = w.free;
      first = λ m other there free.
          let named : other.number ≡ m = rows_named m other line out h.held h.apart there in
          let other_key : ℕ = due_key other.due m in
          let in_line = free_at m other h there free in
          let there_too : value_at other_key ((key, row) ∷ rest) ≡ Some other = subst (λ l. value_at other_key l ≡ Some other) e in_line in
          let o = waiting_at other_key other h in_line in
          let least : key ≤ other_key = least_key key row rest other_key other sorted there_too in
          no_later row.due row.number other.due other.number (omega (arith, least, w.key_is, o.key_is))
          (omega (arith, w.number_fits)) (omega (arith, o.number_fits));
    } in
    (first, refl)

pub none_free : {line out : List (ℕ × DutyRow)} → IsSchedule line out → line ≡ [] → NoneFree (by_number line out)
none_free {line} {out} h e = λ n row there.
    elim (found_in n row line out h.line_sorted h.apart there) [
      | inl (key, l) ↦ let some : value_at key [] ≡ Some row = subst (λ es. value_at key es ≡ Some row) e l in absurd (cc)
      | inr o ↦ let held = held_at n row h o in held.claimed
    ]

-- the new key is not in the line
no_entry : {line out : List (ℕ × DutyRow)} (due number : ℕ) → IsSchedule line out → number + 1 < 2 ^ 64 → value_at number (by_number line out) ≡ None
    → value_at (due_key due number) line ≡ None
no_entry {line} {out} due number h fits none =
    (elim (value_at (due_key due number) line) as (λ o. value_at (due_key due number) line ≡ o → value_at (due_key due number) line ≡ None) [
      | None ↦ λ is. is
      | Some r ↦ λ is.
          let w = waiting_at (due_key due number) r h is in
          let same : r.number ≡ number = same_number r.due r.number due number (sym w.key_is) (omega (arith, w.number_fits)) (omega (arith, fits)) in
          let kept = kept_line (due_key due number) r line out h.apart is in
          let there : value_at number (by_number line out) ≡ Some r = subst (λ k. value_at k (by_number line out) ≡ Some r) same kept in
          absurd (cc)
    ]) refl

pub inserted : {line out : List (ℕ × DutyRow)} (row : DutyRow) → IsSchedule line out → row.claimed ≡ false → row.due < 2 ^ 64 → row.number + 1 < 2 ^ 64
    → value_at row.number (by_number line out) ≡ None
    → IsSchedule (placed (due_key row.due row.number, row) line) out
    × (by_number (placed (due_key row.due row.number, row) line) out ≡ placed (row.number, row) (by_number line out))
inserted {line} {out} row h free due fits none =
    let key : ℕ = due_key row.due row.number in
    let waits : IsWaiting key row = record { key_is = refl; free = free; due_fits = due; number_fits = fits } in (
      record {
        line_sorted = sorted_placed (key, row) line h.line_sorted (others key line (no_entry row.due row.number h fits none));
        out_sorted = h.out_sorted;
        waiting = all_placed IsWaiting (key, row) line waits h.waiting;
        held = h.held;
        apart = apart_more (key, row) line out h.apart none;
      },
      line_more (key, row) line out h.apart none,
    )

-- a row of the line is claimed
pub claimed_from : {line out : List (ℕ × DutyRow)} (key : ℕ) (row : DutyRow) → IsSchedule line out → value_at key line ≡ Some row
    → IsSchedule (without key line) (placed (row.number, record row { claimed = true }) out) × (value_at row.number out ≡ None)
    × (by_number (without key line) (placed (row.number, record row { claimed = true }) out) ≡ replaced (record row { claimed = true }) (by_number line out))
claimed_from {line} {out} key row h e =
    let now : DutyRow = record row { claimed = true } in
    let w = waiting_at key row h e in
    let less = line_less key row line out h.line_sorted h.out_sorted h.apart e in
    let apart = apart_less key row line out h.line_sorted h.out_sorted h.apart e in
    let none : value_at row.number (by_number (without key line) out) ≡ None =
    ap (value_at row.number) less ∙ value_at-without_same row.number (by_number line out) in
    let none_out : value_at row.number out ≡ None = out_none row.number (without key line) out apart none in
    let holds : IsHeld row.number now = record { key_is = refl; claimed = refl; number_fits = w.number_fits } in (
      record {
        line_sorted = sorted_without key line h.line_sorted;
        out_sorted = sorted_placed (row.number, now) out h.out_sorted (others row.number out none_out);
        waiting = all_without IsWaiting key line h.waiting;
        held = all_placed IsHeld (row.number, now) out holds h.held;
        apart = apart_out row.number now (without key line) out apart none;
      },
      none_out,
      out_more row.number now (without key line) out apart none ∙ ap (placed (row.number, now)) less,
    )

pub taken : {line out : List (ℕ × DutyRow)} (n : ℕ) (row : DutyRow) → IsSchedule line out → value_at n out ≡ Some row
    → IsSchedule line (without n out) × (by_number line (without n out) ≡ without n (by_number line out))
taken {line} {out} n row h e = (
  record {
    line_sorted = h.line_sorted;
    out_sorted = sorted_without n out h.out_sorted;
    waiting = h.waiting;
    held = all_without IsHeld n out h.held;
    apart = apart_taken n row line out h.out_sorted h.apart e;
  },
  out_less n row line out h.out_sorted h.apart e,
)

-- the same in the terms of the calls
pub inserted_as : {line out new all : List (ℕ × DutyRow)} (node row : DutyRow) (due number key : ℕ) → IsSchedule line out → by_number line out ≡ all
    → row ≡ record node { claimed = false } → due ≡ node.due → due < 2 ^ 64 → number ≡ node.number → node.number + 1 < 2 ^ 64
    → value_at node.number all ≡ None → key ≡ due_key due number → new ≡ placed (key, row) line
    → IsSchedule new out × (by_number new out ≡ placed (node.number, record node { claimed = false }) all)
inserted_as {line} {out} {new} {all} node row due number key h is rows dues fits numbers small none keys e =
    let made : DutyRow = record node { claimed = false } in
    let line_is : new ≡ placed (due_key node.due node.number, made) line = cc in
    let none_too : value_at node.number (by_number line out) ≡ None = subst (λ rs. value_at node.number rs ≡ None) (sym is) none in
    let done = inserted made h refl (subst (λ d. d < 2 ^ 64) dues fits) small none_too in (
      subst (λ l. IsSchedule l out) (sym line_is) done.0,
      ap (λ l. by_number l out) line_is ∙ done.1 ∙ ap (placed (node.number, made)) is,
    )

pub not_there : {line out all : List (ℕ × DutyRow)} (node : DutyRow) (due number key : ℕ) → IsSchedule line out → by_number line out ≡ all
    → number ≡ node.number → node.number + 1 < 2 ^ 64 → value_at node.number all ≡ None → key ≡ due_key due number → value_at key line ≡ None
not_there {line} {out} {all} node due number key h is numbers small none keys =
    let none_too : value_at node.number (by_number line out) ≡ None = subst (λ rs. value_at node.number rs ≡ None) (sym is) none in
    let key_is : key ≡ due_key due node.number = cc in
    subst (λ k. value_at k line ≡ None) (sym key_is) (no_entry due node.number h small none_too)

-- the entry of an unclaimed row
pub free_found : {line out all : List (ℕ × DutyRow)} (due number key : ℕ) → IsSchedule line out → by_number line out ≡ all → IsFreeAt due number all
    → key ≡ due_key due number → (row : DutyRow) × (value_at key line ≡ Some row) × (row.number ≡ number) × (value_at number all ≡ Some row)
    × (row.claimed ≡ false)
free_found {line} {out} {all} due number key h is (row, there, free, due_is) keys =
    let there_too : value_at number (by_number line out) ≡ Some row = subst (λ rs. value_at number rs ≡ Some row) (sym is) there in
    let key_is : due_key row.due number ≡ key = ap (λ d. due_key d number) due_is ∙ sym keys in (
      row,
      subst (λ k. value_at k line ≡ Some row) key_is (free_at number row h there_too free),
      rows_named number row line out h.held h.apart there_too,
      there,
      free,
    )

pub claimed_as : {line out left new all : List (ℕ × DutyRow)} (node now : DutyRow) (due number key held : ℕ) → IsSchedule line out → by_number line out ≡ all
    → IsFreeAt due number all → key ≡ due_key due number → value_at key line ≡ Some node → now ≡ record node { claimed = true } → held ≡ number
    → left ≡ without key line → new ≡ placed (held, now) out → IsSchedule left new × ClaimsIn number all (by_number left new)
claimed_as {line} {out} {left} {new} {all} node now due number key held h is free keys found nows helds lefts news =
    let (row, there, named, in_all, _) = free_found due number key h is free keys in
    let same : row ≡ node = cc in
    let made : DutyRow = record row { claimed = true } in
    let out_is : new ≡ placed (row.number, made) out = cc in
    let done = claimed_from key row h there in (
      subst (λ l. IsSchedule l new) (sym lefts) (subst (IsSchedule (without key line)) (sym out_is) done.0),
      (
        row,
        in_all,
        ap (λ l. by_number l new) lefts ∙ ap (by_number (without key line)) out_is ∙ done.2 ∙ ap (replaced made) is,
      ),
    )

pub out_free : {line out all : List (ℕ × DutyRow)} (due number key held : ℕ) → IsSchedule line out → by_number line out ≡ all
    → IsFreeAt due number all → key ≡ due_key due number → held ≡ number → value_at held out ≡ None
out_free {line} {out} {all} due number key held h is free keys helds =
    let (row, there, named, in_all, _) = free_found due number key h is free keys in
    subst (λ k. value_at k out ≡ None) (named ∙ sym helds) (claimed_from key row h there).1

-- the entry of a claimed row
pub out_found : {line out all : List (ℕ × DutyRow)} (number held : ℕ) → IsSchedule line out → by_number line out ≡ all → IsOutIn number all
    → held ≡ number → (row : DutyRow) × (value_at held out ≡ Some row) × (value_at number all ≡ Some row) × IsHeld number row
out_found {line} {out} {all} number held h is (row, there, claimed) helds =
    let there_too : value_at number (by_number line out) ≡ Some row = subst (λ rs. value_at number rs ≡ Some row) (sym is) there in
    let found = out_at number row h there_too claimed in
    (row, subst (λ k. value_at k out ≡ Some row) (sym helds) found, there, held_at number row h found)

pub taken_as : {line out left all : List (ℕ × DutyRow)} (number held : ℕ) → IsSchedule line out → by_number line out ≡ all → IsOutIn number all
    → held ≡ number → left ≡ without held out → IsSchedule line left × (by_number line left ≡ without number all)
taken_as {line} {out} {left} {all} number held h is o helds lefts =
    let (row, there, _, _) = out_found number held h is o helds in
    let done = taken held row h there in (
      subst (IsSchedule line) (sym lefts) done.0,
      ap (by_number line) lefts ∙ done.1 ∙ ap (λ k. without k (by_number line out)) helds ∙ ap (without number) is,
    )

-- what is known of the row that is taken
pub out_is : {line out all : List (ℕ × DutyRow)} (node : DutyRow) (number held : ℕ) → IsSchedule line out → by_number line out ≡ all → IsOutIn number all
    → held ≡ number → value_at held out ≡ Some node
    → (value_at number all ≡ Some node) × (node.claimed ≡ true) × (node.number ≡ number) × (node.number + 1 < 2 ^ 64)
out_is {line} {out} {all} node number held h is o helds e =
    let (row, there, in_all, holds) = out_found number held h is o helds in
    let same : row ≡ node = cc in
    subst (λ (x : DutyRow). (value_at number all ≡ Some x) × (x.claimed ≡ true) × (x.number ≡ number) × (x.number + 1 < 2 ^ 64)) same
    (in_all, holds.claimed, sym holds.key_is, holds.number_fits)

pub is_free_at : {line out all : List (ℕ × DutyRow)} (key : ℕ) (row : DutyRow) (due number : ℕ) → IsSchedule line out → by_number line out ≡ all
    → value_at key line ≡ Some row → row.number ≡ number → due ≡ row.due → IsFreeAt due number all
is_free_at {line} {out} {all} key row due number h is there named dues =
    let w = waiting_at key row h there in
    let kept = kept_line key row line out h.apart there in
    let in_all : value_at number (by_number line out) ≡ Some row = subst (λ n. value_at n (by_number line out) ≡ Some row) named kept in
    (row, subst (λ rs. value_at number rs ≡ Some row) is in_all, w.free, sym dues)

pub none_free_in : {line out all : List (ℕ × DutyRow)} (number : ℕ) → IsSchedule line out → by_number line out ≡ all
    → ((key : ℕ) (row : DutyRow) → value_at key line ≡ Some row → row.number ≡ number → ⊥) → NoneFreeIn number all
none_free_in {line} {out} {all} number h is never = λ row there free.
    let there_too : value_at number (by_number line out) ≡ Some row = subst (λ rs. value_at number rs ≡ Some row) (sym is) there in
    never (due_key row.due number) row (free_at number row h there_too free) (rows_named number row line out h.held h.apart there_too)

all_weaker : (P Q : ℕ → DutyRow → Type 0) → ((key : ℕ) (row : DutyRow) → P key row → Q key row) → (es : List (ℕ × DutyRow)) → AllEntries P es → AllEntries Q es
all_weaker P Q f [] a = tt
all_weaker P Q f (x ∷ es) a = (f x.0 x.1 a.0, all_weaker P Q f es a.1)

pub line_in_reach : {line out : List (ℕ × DutyRow)} → IsSchedule line out → AreInReach line
line_in_reach {line} h = (
  h.line_sorted,
  all_weaker IsWaiting (λ key row. key + 1 < 2 ^ 128) (λ key row w. omega (arith, w.key_is, w.due_fits, w.number_fits)) line h.waiting,
)

pub out_in_reach : {line out : List (ℕ × DutyRow)} → IsSchedule line out → AreInReach out
out_in_reach {line} {out} h = (
  h.out_sorted,
  all_weaker IsHeld (λ key row. key + 1 < 2 ^ 128) (λ key row w. omega (arith, w.key_is, w.number_fits)) out h.held,
)

pub out_row : {line out all : List (ℕ × DutyRow)} (row now : DutyRow) (number held : ℕ) → IsSchedule line out → by_number line out ≡ all → held ≡ number
    → value_at held out ≡ Some row → now ≡ row → value_at number all ≡ Some now
out_row {line} {out} {all} row now number held h is helds there same =
    let kept : value_at held all ≡ Some row = subst (λ rs. value_at held rs ≡ Some row) is (kept_out held row line out h.apart there) in
    subst (λ (o : DutyRow). value_at number all ≡ Some o) (sym same) (subst (λ n. value_at n all ≡ Some row) helds kept)

pub named_in : {line out all : List (ℕ × DutyRow)} (row : DutyRow) (number : ℕ) → IsSchedule line out → by_number line out ≡ all
    → value_at number all ≡ Some row → row.number ≡ number
named_in {line} {out} {all} row number h is there =
    rows_named number row line out h.held h.apart (subst (λ rs. value_at number rs ≡ Some row) (sym is) there)

-- a row that is neither out nor unclaimed is none
pub nowhere : {line out all : List (ℕ × DutyRow)} (number held : ℕ) → IsSchedule line out → by_number line out ≡ all → held ≡ number
    → value_at held out ≡ None → NoneFreeIn number all → value_at number all ≡ None
nowhere {line} {out} {all} number held h is helds none never =
    (elim (value_at number all) as (λ o. value_at number all ≡ o → value_at number all ≡ None) [
      | None ↦ λ e. e
      | Some row ↦ λ e.
          let there : value_at number (by_number line out) ≡ Some row = subst (λ rs. value_at number rs ≡ Some row) (sym is) e in
          (elim row.claimed as (λ b. row.claimed ≡ b → value_at number all ≡ None) [
            | true ↦ λ claimed.
                let there_too : value_at held out ≡ Some row = subst (λ k. value_at k out ≡ Some row) (sym helds) (out_at number row h there claimed) in
                absurd (cc)
            | false ↦ λ free. absurd (never row e free)
          ]) refl
    ]) refl

pub got_free : {line out all : List (ℕ × DutyRow)} {X : Type 0} (now : X → DutyRow) (o : Option X) (number held : ℕ) → IsSchedule line out
    → by_number line out ≡ all → held ≡ number → value_at held out ≡ None
    → MatchOption o (NoneFreeIn number all) (λ x. (value_at number all ≡ Some (now x)) × ((now x).claimed ≡ false))
    → MatchOption o (value_at number all ≡ None) (λ x. value_at number all ≡ Some (now x)) × IfSome o (λ x. (now x).number ≡ number)
got_free now None number held h is helds none m = (nowhere number held h is helds none m, tt)
got_free now (Some x) number held h is helds none m = (m.0, named_in (now x) number h is m.0)

-- what is true of some row
abbrev pub HasRow : (DutyRow → Type 0) → List (ℕ × DutyRow) → Type 0
HasRow P rows = (key : ℕ) × (row : DutyRow) × (value_at key rows ≡ Some row) × P row

pub in_line_for : {line out all : List (ℕ × DutyRow)} (P : DutyRow → Type 0) → IsSchedule line out → by_number line out ≡ all → HasRow P line → HasRow P all
in_line_for {line} {out} P h is (key, row, there, p) =
    (row.number, row, subst (λ rs. value_at row.number rs ≡ Some row) is (kept_line key row line out h.apart there), p)

pub in_out_for : {line out all : List (ℕ × DutyRow)} (P : DutyRow → Type 0) → IsSchedule line out → by_number line out ≡ all → HasRow P out → HasRow P all
in_out_for {line} {out} P h is (key, row, there, p) = (key, row, subst (λ rs. value_at key rs ≡ Some row) is (kept_out key row line out h.apart there), p)

pub either_for : {line out all : List (ℕ × DutyRow)} (P : DutyRow → Type 0) → IsSchedule line out → by_number line out ≡ all → HasRow P all
    → HasRow P line ⊎ HasRow P out
either_for {line} {out} P h is (n, row, there, p) =
    elim (found_in n row line out h.line_sorted h.apart (subst (λ rs. value_at n rs ≡ Some row) (sym is) there)) [
      | inl (key, l) ↦ inl (key, row, l, p)
      | inr o ↦ inr (n, row, o, p)
    ]
