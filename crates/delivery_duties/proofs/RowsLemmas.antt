-- Rows by number, out of the line and of those that are out: `kept_line`, `kept_out`, `found_in`, `rows_named`, `rows_sorted`; and what one more or
-- one less of either list makes of them.
use Rattle.std.proofs.Common.{◌≡◌, ◌≢◌, ℕ, ◌<◌, ◌⊎◌, inl, inr, true, false, cond, eqb, ltb, List, [], ◌∷◌, Some, None, refl, sym, ap, ◌∙◌, subst}
use Rattle.std.proofs.lemmas.Bool.{ne_eqb, eqb-true}
use Rattle.key_tree.specs.Entries.{placed, value_at, without, AllKeys, AreSorted}
use Rattle.key_tree.proofs.EntryLemmas.{others, sorted_placed, without_none, AllKeys-weaker}
use Rattle.delivery_duties.specs.declared.duty.DutyRow.{DutyRow}
use Rattle.delivery_duties.specs.Order.{by_number, AllEntries, AreApart, IsHeld}
use Rattle.delivery_duties.proofs.EntryLemmas.{apart, by_placed, found_here, free_of, key_has, larger, placed_here, placed_kept, placed_other, placed_swap, still_none, without_placed, without_placed_other}

pub all_placed : (P : ℕ → DutyRow → Type 0) (e : ℕ × DutyRow) (es : List (ℕ × DutyRow)) → P e.0 e.1 → AllEntries P es → AllEntries P (placed e es)
all_placed P e [] p a = (p, tt)
all_placed P e (x ∷ es) p a =
    elim (ltb e.0 x.0) as (λ b. AllEntries P (cond b (e ∷ x ∷ es) (x ∷ placed e es))) [ true ↦ (p, a) | false ↦ (a.0, all_placed P e es p a.1) ]

pub all_without : (P : ℕ → DutyRow → Type 0) (key : ℕ) (es : List (ℕ × DutyRow)) → AllEntries P es → AllEntries P (without key es)
all_without P key [] a = tt
all_without P key (x ∷ es) a =
    elim (eqb x.0 key) as (λ b. AllEntries P (cond b (without key es) (x ∷ without key es))) [
      | true ↦ all_without P key es a.1
      | false ↦ (a.0, all_without P key es a.1)
    ]

pub entry_has : (P : ℕ → DutyRow → Type 0) (key : ℕ) (row : DutyRow) (es : List (ℕ × DutyRow)) → AllEntries P es → value_at key es ≡ Some row → P key row
entry_has P key row [] a e = absurd (cc)
entry_has P key row (x ∷ es) a e =
    (elim (eqb x.0 key) as (λ b. eqb x.0 key ≡ b → cond b (Some x.1) (value_at key es) ≡ Some row → P key row) [
      | true ↦ λ i h. let same : x.1 ≡ row = cc in subst (P key) same (subst (λ k. P k x.1) (eqb-true x.0 key i) a.0)
      | false ↦ λ i h. entry_has P key row es a.1 h
    ]) refl e

pub rows_sorted : (line out : List (ℕ × DutyRow)) → AreSorted out → AreApart line out → AreSorted (by_number line out)
rows_sorted [] out s a = s
rows_sorted (x ∷ line) out s a =
    sorted_placed (x.1.number, x.1) (by_number line out) (rows_sorted line out s a.1) (others x.1.number (by_number line out) a.0)

pub kept_line : (key : ℕ) (row : DutyRow) (line out : List (ℕ × DutyRow)) → AreApart line out → value_at key line ≡ Some row
    → value_at row.number (by_number line out) ≡ Some row
kept_line key row [] out a e = absurd (cc)
kept_line key row (x ∷ line) out a e =
    let rows : List (ℕ × DutyRow) = by_number line out in
    (elim (eqb x.0 key) as (λ b. cond b (Some x.1) (value_at key line) ≡ Some row → value_at row.number (placed (x.1.number, x.1) rows) ≡ Some row) [
      | true ↦ λ h.
          let same : x.1 ≡ row = cc in
          subst (λ (o : DutyRow). value_at o.number (placed (x.1.number, x.1) rows) ≡ Some o) same (placed_here x.1.number x.1 rows a.0)
      | false ↦ λ h. placed_kept x.1.number row.number x.1 row rows a.0 (kept_line key row line out a.1 h)
    ]) e

pub kept_out : (n : ℕ) (row : DutyRow) (line out : List (ℕ × DutyRow)) → AreApart line out → value_at n out ≡ Some row
    → value_at n (by_number line out) ≡ Some row
kept_out n row [] out a e = e
kept_out n row (x ∷ line) out a e = placed_kept x.1.number n x.1 row (by_number line out) a.0 (kept_out n row line out a.1 e)

pub found_in : (n : ℕ) (row : DutyRow) (line out : List (ℕ × DutyRow)) → AreSorted line → AreApart line out → value_at n (by_number line out) ≡ Some row
    → ((key : ℕ) × (value_at key line ≡ Some row)) ⊎ (value_at n out ≡ Some row)
found_in n row [] out s a e = inr e
found_in n row (x ∷ line) out s a e =
    by_placed x.1.number n x.1 row (by_number line out) a.0 e
    (λ is same. inl (x.0, subst (λ o. value_at x.0 (x ∷ line) ≡ Some o) same (found_here x.0 x.1 line)))
    (λ ne there. elim (found_in n row line out s.1 a.1 there) [
      | inl (key, l) ↦
          let above = key_has (λ j. x.0 < j) key row line s.0 l in
          let other : x.0 ≢ key = λ is. larger x.0 key above (sym is) in
          inl (key, rw (ne_eqb x.0 key other) l)
      | inr o ↦ inr o
    ])

pub rows_named : (n : ℕ) (row : DutyRow) (line out : List (ℕ × DutyRow)) → AllEntries IsHeld out → AreApart line out
    → value_at n (by_number line out) ≡ Some row → row.number ≡ n
rows_named n row [] out h a e = let held = entry_has IsHeld n row out h e in sym held.key_is
rows_named n row (x ∷ line) out h a e =
    by_placed x.1.number n x.1 row (by_number line out) a.0 e
    (λ is same. sym (ap (λ (o : DutyRow). o.number) same) ∙ is)
    (λ ne there. rows_named n row line out h a.1 there)

pub out_none : (n : ℕ) (line out : List (ℕ × DutyRow)) → AreApart line out → value_at n (by_number line out) ≡ None → value_at n out ≡ None
out_none n [] out a none = none
out_none n (x ∷ line) out a none = out_none n line out a.1 (free_of x.1.number n x.1 (by_number line out) a.0 none).1

-- one more in the line
pub line_more : (e : ℕ × DutyRow) (line out : List (ℕ × DutyRow)) → AreApart line out → value_at e.1.number (by_number line out) ≡ None
    → by_number (placed e line) out ≡ placed (e.1.number, e.1) (by_number line out)
line_more e [] out a none = refl
line_more e (x ∷ line) out a none =
    let rows : List (ℕ × DutyRow) = by_number line out in
    let f = free_of x.1.number e.1.number x.1 rows a.0 none in
    elim (ltb e.0 x.0) as (λ b. by_number (cond b (e ∷ x ∷ line) (x ∷ placed e line)) out ≡ placed (e.1.number, e.1) (placed (x.1.number, x.1) rows)) [
      | true ↦ refl
      | false ↦ ap (placed (x.1.number, x.1)) (line_more e line out a.1 f.1) ∙ placed_swap (x.1.number, x.1) (e.1.number, e.1) rows f.0
    ]

pub apart_more : (e : ℕ × DutyRow) (line out : List (ℕ × DutyRow)) → AreApart line out → value_at e.1.number (by_number line out) ≡ None
    → AreApart (placed e line) out
apart_more e [] out a none = (none, tt)
apart_more e (x ∷ line) out a none =
    let rows : List (ℕ × DutyRow) = by_number line out in
    let f = free_of x.1.number e.1.number x.1 rows a.0 none in
    elim (ltb e.0 x.0) as (λ b. AreApart (cond b (e ∷ x ∷ line) (x ∷ placed e line)) out) [
      | true ↦ (none, a)
      | false ↦ (
        ap (value_at x.1.number) (line_more e line out a.1 f.1) ∙ placed_other e.1.number x.1.number e.1 rows f.1 (λ is. f.0 (sym is)) ∙ a.0,
        apart_more e line out a.1 f.1,
      )
    ]

-- one less in the line
gone : (key : ℕ) (x : ℕ × DutyRow) (line : List (ℕ × DutyRow)) → AllKeys (λ k. x.0 < k) line → x.0 ≡ key → without key line ≡ line
gone key x line s is =
    let after : AllKeys (λ k. key < k) line = subst (λ k. AllKeys (λ j. k < j) line) is s in
    without_none key line (AllKeys-weaker (λ k. key < k) (λ k. k ≢ key) (λ k p. larger key k p) line after)

pub line_less : (key : ℕ) (row : DutyRow) (line out : List (ℕ × DutyRow)) → AreSorted line → AreSorted out → AreApart line out
    → value_at key line ≡ Some row → by_number (without key line) out ≡ without row.number (by_number line out)
line_less key row [] out s t a e = absurd (cc)
line_less key row (x ∷ line) out s t a e =
    let rows : List (ℕ × DutyRow) = by_number line out in
    let all : List (ℕ × DutyRow) = placed (x.1.number, x.1) rows in
    (elim (eqb x.0 key) as (λ b. eqb x.0 key ≡ b → cond b (Some x.1) (value_at key line) ≡ Some row
    → by_number (cond b (without key line) (x ∷ without key line)) out ≡ without row.number all) [
      | true ↦ λ i h.
          let same : x.1 ≡ row = cc in
          let own : without x.1.number all ≡ rows = without_placed (x.1.number, x.1) rows (others x.1.number rows a.0) in
          ap (λ l. by_number l out) (gone key x line s.0 (eqb-true x.0 key i)) ∙ sym (subst (λ (o : DutyRow). without o.number all ≡ rows) same own)
      | false ↦ λ i h.
          let ne : x.1.number ≢ row.number = apart x.1.number row.number row rows a.0 (kept_line key row line out a.1 h) in
          ap (placed (x.1.number, x.1)) (line_less key row line out s.1 t a.1 h)
          ∙ sym (without_placed_other (x.1.number, x.1) row.number rows (rows_sorted line out t a.1) ne)
    ]) refl e

pub apart_less : (key : ℕ) (row : DutyRow) (line out : List (ℕ × DutyRow)) → AreSorted line → AreSorted out → AreApart line out
    → value_at key line ≡ Some row → AreApart (without key line) out
apart_less key row [] out s t a e = absurd (cc)
apart_less key row (x ∷ line) out s t a e =
    (elim (eqb x.0 key) as (λ b. eqb x.0 key ≡ b → cond b (Some x.1) (value_at key line) ≡ Some row
    → AreApart (cond b (without key line) (x ∷ without key line)) out) [
      | true ↦ λ i h. subst (λ l. AreApart l out) (sym (gone key x line s.0 (eqb-true x.0 key i))) a.1
      | false ↦ λ i h. (
        ap (value_at x.1.number) (line_less key row line out s.1 t a.1 h) ∙ still_none x.1.number row.number (by_number line out) a.0,
        apart_less key row line out s.1 t a.1 h,
      )
    ]) refl e

-- one more that is out
pub out_more : (n : ℕ) (row : DutyRow) (line out : List (ℕ × DutyRow)) → AreApart line out → value_at n (by_number line out) ≡ None
    → by_number line (placed (n, row) out) ≡ placed (n, row) (by_number line out)
out_more n row [] out a none = refl
out_more n row (x ∷ line) out a none =
    let f = free_of x.1.number n x.1 (by_number line out) a.0 none in
    ap (placed (x.1.number, x.1)) (out_more n row line out a.1 f.1) ∙ placed_swap (x.1.number, x.1) (n, row) (by_number line out) f.0

pub apart_out : (n : ℕ) (row : DutyRow) (line out : List (ℕ × DutyRow)) → AreApart line out → value_at n (by_number line out) ≡ None
    → AreApart line (placed (n, row) out)
apart_out n row [] out a none = tt
apart_out n row (x ∷ line) out a none =
    let f = free_of x.1.number n x.1 (by_number line out) a.0 none in (
      ap (value_at x.1.number) (out_more n row line out a.1 f.1) ∙ placed_other n x.1.number row (by_number line out) f.1 (λ is. f.0 (sym is)) ∙ a.0,
      apart_out n row line out a.1 f.1,
    )

-- one less that is out
pub out_less : (n : ℕ) (row : DutyRow) (line out : List (ℕ × DutyRow)) → AreSorted out → AreApart line out → value_at n out ≡ Some row
    → by_number line (without n out) ≡ without n (by_number line out)
out_less n row [] out s a e = refl
out_less n row (x ∷ line) out s a e =
    let rows : List (ℕ × DutyRow) = by_number line out in
    let ne : x.1.number ≢ n = apart x.1.number n row rows a.0 (kept_out n row line out a.1 e) in
    ap (placed (x.1.number, x.1)) (out_less n row line out s a.1 e) ∙ sym (without_placed_other (x.1.number, x.1) n rows (rows_sorted line out s a.1) ne)

pub apart_taken : (n : ℕ) (row : DutyRow) (line out : List (ℕ × DutyRow)) → AreSorted out → AreApart line out → value_at n out ≡ Some row
    → AreApart line (without n out)
apart_taken n row [] out s a e = tt
apart_taken n row (x ∷ line) out s a e = (
  ap (value_at x.1.number) (out_less n row line out s a.1 e) ∙ still_none x.1.number n (by_number line out) a.0,
  apart_taken n row line out s a.1 e,
)
