-- Rows of which one is put or changed: `changed` and a `placed` that joins are a `placed` that replaces (`changed_placed`,
-- `joined_placed`, `joined_new`); a row put into a `Vec` (`put_here`,
-- `put_before`) and the number of rows then (`length_here`, `length_before`); the place of a name (`here_at`, `before_at`). Rows without a
-- name (`All_without`, `length_without`, `removed_here`), and a row of another name than the one that is put, changed or taken away
-- (`named_put`, `named_changed`, `named_without`), or of any name after a change (`after_changed`). A function over rows that keeps their
-- names (`map_placed`, `map_without`, `length_names`), and the name of the row that is found (`named_name`).
use Rattle.std.proofs.Common.{◌≡◌, ℕ, true, false, List, [], ◌∷◌, ◌++◌, length, map, Option, Some, None, refl, sym, ap, ◌∙◌, subst, take}
use Rattle.std.proofs.Common.{drop, suc, ◌<◌, ◌≤◌, ◌+◌, ◌-◌, arith, get_or, length-append}
use Rattle.std.specs.Prelude.{All}
use Rattle.std.specs.List.{insert, remove}
use Rattle.std.specs.Cmp.Lexicographic.{slice_cmp}
use Rattle.std.specs.Ordering.{nat_cmp}
use Rattle.std.specs.Str.{bytes_eq}
use Rattle.std.specs.declared.cmp.Ordering.TheVariants.{Less, Equal, Greater}
use Rattle.std.proofs.Math.ListN.{set}
use Rattle.std.proofs.Math.Seq.{set-append_seam, drop-cons}
use Rattle.std.proofs.lemmas.Cmp.{nat_list_cmp_total, tied_itself}
use Rattle.std.proofs.lemmas.Bool.{false≢true}
use Rattle.std.proofs.lemmas.List.{take_at, drop_at, take-append-drop, length-take, length-map}
use Rattle.std.proofs.lemmas.List.Elements.{All-head, All-tail, All-cons}
use Rattle.std.proofs.lemmas.List.Edits.{remove-append_right}
use Rattle.std.proofs.lemmas.Slice.Eq.{bytes_eq-Decides}
use Rattle.name_rows.specs.Rows.{named, placed, replacing, without, AreSorted}
use Rattle.name_rows.specs.Place.{IsHere, IsBefore}
use Rattle.name_rows.proofs.NameOrder.{same_name, Greater_from_Less, Less_from_Greater, bytes_eq_itself, bytes_eq_Less}
use Rattle.name_rows.proofs.RowLemmas.{Other, by_cmp, by_test, named_none, none_greater, others_after, placed_here, placed_before, without_here}
use Rattle.rule_table.specs.RuleSet.{changed}

pub changed_none : {A : Type 0} (f : A → List ℕ) (name : List ℕ) (change : A → A) (rows : List A) → All (Other f name) rows → changed f name change rows ≡ rows
changed_none f name change [] all = refl
changed_none f name change (row ∷ rows) all =
    let e = All-head (Other f name) row rows all in
    rw e (ap (λ rs. row ∷ rs) (changed_none f name change rows (All-tail (Other f name) row rows all)))

pub named_same : {A : Type 0} (f : A → List ℕ) (name : List ℕ) (row : A) (rows : List A) → bytes_eq (f row) name ≡ true → named f name (row ∷ rows) ≡ Some row
named_same f name row rows e = rw e refl

pub named_other : {A : Type 0} (f : A → List ℕ) (name : List ℕ) (row : A) (rows : List A) → bytes_eq (f row) name ≡ false
    → named f name (row ∷ rows) ≡ named f name rows
named_other f name row rows e = rw e refl

pub All_named : {A : Type 0} (P : A → Type 0) (f : A → List ℕ) (name : List ℕ) (rows : List A) (row : A) → named f name rows ≡ Some row → All P rows → P row
All_named P f name [] row is all = cc
All_named P f name (first ∷ rows) row is all =
    by_test (bytes_eq (f first) name)
    (λ e. let both : Some first ≡ Some row = sym (named_same f name first rows e)
    ∙ is in let same : first ≡ row = cc in subst P same (All-head P first rows all))
    (λ e. All_named P f name rows row (sym (named_other f name first rows e) ∙ is) (All-tail P first rows all))

equal_itself : (x : List ℕ) → slice_cmp nat_cmp x x ≡ Equal
equal_itself x = tied_itself nat_list_cmp_total x

-- a row that is changed under its name is put in place of itself
pub changed_placed : {A : Type 0} (f : A → List ℕ) (name : List ℕ) (change : A → A) (rows : List A) (old : A) → ((row : A) → f (change row) ≡ f row)
    → AreSorted f rows → named f name rows ≡ Some old → changed f name change rows ≡ placed f replacing (change old) rows
changed_placed f name change [] old c o is = cc
changed_placed f name change (row ∷ rows) old c o is =
    by_test (bytes_eq (f row) name)
    (λ e. let both : Some row ≡ Some old = sym (named_same f name row rows e) ∙ is in
    let same : row ≡ old = cc in
    let rest = changed_none f name change rows (others_after f name row rows ((bytes_eq-Decides (f row) name).0 e) o.0) in
    let tied : slice_cmp nat_cmp (f (change old)) (f row) ≡ Equal =
    ap (λ n. slice_cmp nat_cmp n (f row)) (c old ∙ ap f (sym same)) ∙ equal_itself (f row) in
    rw (e, tied, rest) (ap (λ r. change r ∷ rows) same))
    (λ e. let later = sym (named_other f name row rows e) ∙ is in
    let less = All_named (λ other. slice_cmp nat_cmp (f row) (f other) ≡ Less) f name rows old later o.0 in
    let after : slice_cmp nat_cmp (f (change old)) (f row) ≡ Greater =
    ap (λ n. slice_cmp nat_cmp n (f row)) (c old) ∙ Greater_from_Less (f row) (f old) less in
    rw (e, after) (ap (λ rs. row ∷ rs) (changed_placed f name change rows old c o.1 later)))

-- a row that joins the old one is put in its place
pub joined_placed : {A : Type 0} (f : A → List ℕ) (joined : A → A → A) (new : A) (rows : List A) (old : A) → f (joined old new) ≡ f new
    → AreSorted f rows → named f (f new) rows ≡ Some old → placed f joined new rows ≡ placed f replacing (joined old new) rows
joined_placed f joined new [] old j o is = cc
joined_placed f joined new (row ∷ rows) old j o is =
    by_cmp (slice_cmp nat_cmp (f new) (f row))
    (λ e. let none = named_none f (f new) (row ∷ rows) (none_greater f (f new) (row ∷ rows) o e) in
    let never : None ≡ Some old = sym none ∙ is in cc)
    (λ e. let test : bytes_eq (f row) (f new) ≡ true = rw (← same_name (f new) (f row) e) (bytes_eq_itself (f new)) in
    let both : Some row ≡ Some old = sym (named_same f (f new) row rows test) ∙ is in
    let same : row ≡ old = cc in
    let tied : slice_cmp nat_cmp (f (joined old new)) (f row) ≡ Equal = ap (λ n. slice_cmp nat_cmp n (f row)) j ∙ e in
    rw (e, tied) (ap (λ r. joined r new ∷ rows) same))
    (λ e. let other = bytes_eq_Less (f row) (f new) (Less_from_Greater (f new) (f row) e) in
    let after : slice_cmp nat_cmp (f (joined old new)) (f row) ≡ Greater = ap (λ n. slice_cmp nat_cmp n (f row)) j ∙ e in
    rw (e, after) (ap (λ rs. row ∷ rs) (joined_placed f joined new rows old j o.1 (sym (named_other f (f new) row rows other) ∙ is))))

-- without an old row nothing is joined
pub joined_new : {A : Type 0} (f : A → List ℕ) (joined : A → A → A) (new : A) (rows : List A) → named f (f new) rows ≡ None
    → placed f joined new rows ≡ placed f replacing new rows
joined_new f joined new [] is = refl
joined_new f joined new (row ∷ rows) is =
    by_cmp (slice_cmp nat_cmp (f new) (f row))
    (λ e. rw e refl)
    (λ e. let test : bytes_eq (f row) (f new) ≡ true = rw (← same_name (f new) (f row) e) (bytes_eq_itself (f new)) in
    let never : Some row ≡ None = sym (named_same f (f new) row rows test) ∙ is in cc)
    (λ e. let other = bytes_eq_Less (f row) (f new) (Less_from_Greater (f new) (f row) e) in
    rw e (ap (λ rs. row ∷ rs) (joined_new f joined new rows (sym (named_other f (f new) row rows other) ∙ is))))

set_here : {A : Type 0} (f : A → List ℕ) (name : List ℕ) (rows : List A) (at : ℕ) (new : A) → (h : IsHere f name rows at)
    → set rows at new ≡ h.front ++ new ∷ h.back
set_here f name rows at new h =
    ap (λ rs. set rs at new) h.parts ∙ ap (λ n. set (h.front ++ h.old ∷ h.back) n new) (sym h.at) ∙ set-append_seam h.front h.old h.back new

pub put_here : {A : Type 0} (f : A → List ℕ) (new : A) (rows : List A) (at : ℕ) → IsHere f (f new) rows at → placed f replacing new rows ≡ set rows at new
put_here f new rows at h = placed_here f replacing new rows at h ∙ sym (set_here f (f new) rows at new h)

pub put_before : {A : Type 0} (f : A → List ℕ) (new : A) (rows : List A) (at : ℕ) → IsBefore f (f new) rows at
    → placed f replacing new rows ≡ insert rows at new
put_before f new rows at h =
    placed_before f replacing new rows at h
    ∙ sym (ap (λ rs. insert rs at new) h.parts ∙ rw (take_at h.front h.back at h.at, drop_at h.front h.back at h.at) refl)

-- a row that replaces another leaves the number of rows, and a new row adds one
pub length_here : {A : Type 0} (f : A → List ℕ) (new : A) (rows : List A) (at : ℕ) → IsHere f (f new) rows at
    → length (placed f replacing new rows) ≡ length rows
length_here f new rows at h =
    ap length (placed_here f replacing new rows at h) ∙ length-append h.front (new ∷ h.back)
    ∙ sym (ap length h.parts ∙ length-append h.front (h.old ∷ h.back))

pub length_before : {A : Type 0} (f : A → List ℕ) (new : A) (rows : List A) (at : ℕ) → IsBefore f (f new) rows at
    → length (placed f replacing new rows) ≡ length rows + 1
length_before f new rows at h =
    let after = ap length (placed_before f replacing new rows at h) ∙ length-append h.front (new ∷ h.back) in
    let before = ap length h.parts ∙ length-append h.front h.back in
    omega (arith, after, before)

length-take_within : {A : Type 0} (at : ℕ) (rows : List A) → at < length rows → length (take at rows) ≡ at
length-take_within at rows within = omega (arith, length-take at rows)

pub before_at : {A : Type 0} (f : A → List ℕ) (name : List ℕ) (rows : List A) (at : ℕ) (row : A) → at < length rows → row ≡ get_or rows at row
    → All (λ other. slice_cmp nat_cmp name (f other) ≡ Greater) (take at rows) → slice_cmp nat_cmp name (f row) ≡ Less → IsBefore f name rows at
before_at f name rows at row within is smaller less = record {
  front = take at rows;
  back = row ∷ drop (suc at) rows;
  parts = sym (take-append-drop at rows) ∙ ap (λ back. take at rows ++ back) (drop-cons rows at row within ∙ ap (λ first. first ∷ drop (suc at) rows) (sym is));
  at = length-take_within at rows within;
  smaller = smaller;
  greater = less;
}

pub here_at : {A : Type 0} (f : A → List ℕ) (name : List ℕ) (rows : List A) (at : ℕ) (row : A) → at < length rows → row ≡ get_or rows at row
    → All (λ other. slice_cmp nat_cmp name (f other) ≡ Greater) (take at rows) → slice_cmp nat_cmp name (f row) ≡ Equal → IsHere f name rows at
here_at f name rows at row within is smaller equal = record {
  front = take at rows;
  old = row;
  back = drop (suc at) rows;
  parts = sym (take-append-drop at rows) ∙ ap (λ back. take at rows ++ back) (drop-cons rows at row within ∙ ap (λ first. first ∷ drop (suc at) rows) (sym is));
  at = length-take_within at rows within;
  smaller = smaller;
  same = equal;
}

pub bytes_same : (a b : List ℕ) → bytes_eq a b ≡ true → a ≡ b
bytes_same a b = (bytes_eq-Decides a b).0

pub bytes_differ : (a b : List ℕ) → bytes_eq a b ≡ false → ¬ (a ≡ b)
bytes_differ a b e same = false≢true (sym e ∙ (bytes_eq-Decides a b).1 same)

pub bytes_apart : (a b : List ℕ) → ¬ (a ≡ b) → bytes_eq a b ≡ false
bytes_apart a b apart = by_test (bytes_eq a b) (λ e. absurd (apart (bytes_same a b e))) (λ e. e)

pub named_name : {A : Type 0} (f : A → List ℕ) (name : List ℕ) (rows : List A) (row : A) → named f name rows ≡ Some row → f row ≡ name
named_name f name [] row is = cc
named_name f name (first ∷ rows) row is =
    by_test (bytes_eq (f first) name)
    (λ e. let both : Some first ≡ Some row = sym (named_same f name first rows e) ∙ is in
    let same : first ≡ row = cc in ap f (sym same) ∙ bytes_same (f first) name e)
    (λ e. named_name f name rows row (sym (named_other f name first rows e) ∙ is))

-- ---- a function over rows that keeps their names

pub map_placed : {A B : Type 0} (g : A → B) (f : B → List ℕ) (new : A) (rows : List A)
    → map g (placed (λ row. f (g row)) replacing new rows) ≡ placed f replacing (g new) (map g rows)
map_placed g f new [] = refl
map_placed g f new (old ∷ rest) =
    by_cmp (slice_cmp nat_cmp (f (g new)) (f (g old)))
    (λ e. rw e refl)
    (λ e. rw e refl)
    (λ e. rw e (ap (λ rs. g old ∷ rs) (map_placed g f new rest)))

pub map_without : {A B : Type 0} (g : A → B) (f : B → List ℕ) (name : List ℕ) (rows : List A)
    → map g (without (λ row. f (g row)) name rows) ≡ without f name (map g rows)
map_without g f name [] = refl
map_without g f name (row ∷ rows) =
    let rest = map_without g f name rows in
    by_test (bytes_eq (f (g row)) name)
    (λ e. rw e rest)
    (λ e. rw e (ap (λ rs. g row ∷ rs) rest))

-- as many rows as names
pub length_names : {A : Type 0} (f : A → List ℕ) (new : A) (rows : List A)
    → length (placed (λ n. n) replacing (f new) (map f rows)) ≡ length (placed f replacing new rows)
length_names f new rows = ap length (sym (map_placed f (λ n. n) new rows)) ∙ length-map (placed f replacing new rows) f

-- ---- rows without a name

pub All_without : {A : Type 0} (P : A → Type 0) (f : A → List ℕ) (name : List ℕ) (rows : List A) → All P rows → All P (without f name rows)
All_without P f name [] all = all
All_without P f name (row ∷ rows) all =
    let rest = All_without P f name rows (All-tail P row rows all) in
    by_test (bytes_eq (f row) name)
    (λ e. rw e rest)
    (λ e. rw e (All-cons P row (without f name rows) (All-head P row rows all) rest))

pub length_without : {A : Type 0} (f : A → List ℕ) (name : List ℕ) (rows : List A) → length (without f name rows) ≤ length rows
length_without f name [] = omega arith
length_without f name (row ∷ rows) =
    let rest = length_without f name rows in
    by_test (bytes_eq (f row) name)
    (λ e. rw e (omega (arith, rest)))
    (λ e. rw e (omega (arith, rest)))

-- ---- a row of another name

pub named_without : {A : Type 0} (f : A → List ℕ) (name other : List ℕ) (rows : List A) → ¬ (name ≡ other)
    → named f other (without f name rows) ≡ named f other rows
named_without f name other [] apart = refl
named_without f name other (row ∷ rows) apart =
    let rest = named_without f name other rows apart in
    by_test (bytes_eq (f row) name)
    (λ e. by_test (bytes_eq (f row) other)
    (λ o. absurd (apart (sym (bytes_same (f row) name e) ∙ bytes_same (f row) other o)))
    (λ o. rw (e, o) rest))
    (λ e. by_test (bytes_eq (f row) other) (λ o. rw (e, o) refl) (λ o. rw (e, o) rest))

pub named_changed : {A : Type 0} (f : A → List ℕ) (name other : List ℕ) (change : A → A) (rows : List A) → ((row : A) → f (change row) ≡ f row)
    → ¬ (name ≡ other) → named f other (changed f name change rows) ≡ named f other rows
named_changed f name other change [] c apart = refl
named_changed f name other change (row ∷ rows) c apart =
    let rest = named_changed f name other change rows c apart in
    by_test (bytes_eq (f row) name)
    (λ e. by_test (bytes_eq (f row) other)
    (λ o. absurd (apart (sym (bytes_same (f row) name e) ∙ bytes_same (f row) other o)))
    (λ o. rw (e, c row, o) rest))
    (λ e. by_test (bytes_eq (f row) other) (λ o. rw (e, o) refl) (λ o. rw (e, o) rest))

pub named_put : {A : Type 0} (f : A → List ℕ) (joined : A → A → A) (new : A) (other : List ℕ) (rows : List A)
    → ((old : A) → f (joined old new) ≡ f new) → ¬ (f new ≡ other) → named f other (placed f joined new rows) ≡ named f other rows
named_put f joined new other [] j apart = named_other f other new [] (bytes_apart (f new) other apart)
named_put f joined new other (old ∷ rest) j apart =
    let is_other = bytes_apart (f new) other apart in
    by_cmp (slice_cmp nat_cmp (f new) (f old))
    (λ e. rw e (named_other f other new (old ∷ rest) is_other))
    (λ e. let alike : bytes_eq (f old) other ≡ false = ap (λ n. bytes_eq n other) (sym (same_name (f new) (f old) e)) ∙ is_other in
    let joins : bytes_eq (f (joined old new)) other ≡ false = ap (λ n. bytes_eq n other) (j old) ∙ is_other in
    rw e (named_other f other (joined old new) rest joins ∙ sym (named_other f other old rest alike)))
    (λ e. rw e (by_test (bytes_eq (f old) other)
    (λ o. named_same f other old (placed f joined new rest) o ∙ sym (named_same f other old rest o))
    (λ o. named_other f other old (placed f joined new rest) o ∙ named_put f joined new other rest j apart ∙ sym (named_other f other old rest o))))

-- ---- the row of the name

pub named_put_same : {A : Type 0} (f : A → List ℕ) (new : A) (rows : List A) → named f (f new) (placed f replacing new rows) ≡ Some new
named_put_same f new [] = named_same f (f new) new [] (bytes_eq_itself (f new))
named_put_same f new (old ∷ rest) =
    by_cmp (slice_cmp nat_cmp (f new) (f old))
    (λ e. rw e (named_same f (f new) new (old ∷ rest) (bytes_eq_itself (f new))))
    (λ e. rw e (named_same f (f new) new rest (bytes_eq_itself (f new))))
    (λ e. let other = bytes_eq_Less (f old) (f new) (Less_from_Greater (f new) (f old) e) in
    rw e (named_other f (f new) old (placed f replacing new rest) other ∙ named_put_same f new rest))

-- a fact of the row of a name after a change of the row of a name
pub after_changed : {A : Type 0} (f : A → List ℕ) (name other : List ℕ) (change : A → A) (rows : List A) → ((row : A) → f (change row) ≡ f row)
    → (P : Option A → Type 0) → P (named f other rows) → ((row : A) → name ≡ other → named f other rows ≡ Some row → P (Some (change row)))
    → P (named f other (changed f name change rows))
after_changed f name other change [] c P p t = p
after_changed f name other change (row ∷ rows) c P p t =
    by_test (bytes_eq (f row) name)
    (λ e. by_test (bytes_eq (f row) other)
    (λ o. rw (e, c row, o) (t row (sym (bytes_same (f row) name e) ∙ bytes_same (f row) other o) (named_same f other row rows o)))
    (λ o. rw (e, c row, o) (after_changed f name other change rows c P (subst P (named_other f other row rows o) p)
    (λ r same is. t r same (named_other f other row rows o ∙ is)))))
    (λ e. by_test (bytes_eq (f row) other)
    (λ o. rw (e, o) (subst P (named_same f other row rows o) p))
    (λ o. rw (e, o) (after_changed f name other change rows c P (subst P (named_other f other row rows o) p)
    (λ r same is. t r same (named_other f other row rows o ∙ is)))))

-- ---- a row that is removed at its place

pub here_within : {A : Type 0} (f : A → List ℕ) (name : List ℕ) (rows : List A) (at : ℕ) → IsHere f name rows at → at < length rows
here_within f name rows at h = omega (arith, ap length h.parts ∙ length-append h.front (h.old ∷ h.back), h.at)

pub removed_here : {A : Type 0} (f : A → List ℕ) (name : List ℕ) (rows : List A) (at : ℕ) → AreSorted f rows → IsHere f name rows at
    → remove rows at ≡ without f name rows
removed_here f name rows at o h =
    let none : at - at ≡ 0 = omega arith in
    ap (λ rs. remove rs at) h.parts ∙ remove-append_right h.front (h.old ∷ h.back) at at h.at (omega arith)
    ∙ ap (λ n. h.front ++ remove (h.old ∷ h.back) n) none ∙ sym (without_here f name rows at o h)
