-- Archives in the byte order of their names: one more, one less, and one that changes in its place.
use Rattle.std.proofs.Common.{◌≡◌, ℕ, zero, suc, ◌+◌, ◌<◌, ◌≤◌, true, false, cond, List, [], ◌∷◌, ◌++◌, length, take, drop, map, refl, sym, ap, ◌∙◌, subst, arith, append_assoc, slice_index_or, slice_set, length-append}
use Rattle.std.specs.Prelude.{All}
use Rattle.std.specs.List.{insert}
use Rattle.std.specs.Str.{bytes_eq}
use Rattle.std.specs.Cmp.Lexicographic.{slice_cmp}
use Rattle.std.specs.Ordering.{nat_cmp}
use Rattle.std.specs.declared.cmp.Ordering.TheVariants.{Less}
use Rattle.std.proofs.Math.Seq.{set-append_seam, get_or-append_seam}
use Rattle.std.proofs.lemmas.List.Edits.{insert_end, insert-append_left}
use Rattle.std.proofs.lemmas.List.Elements.{All-cons, All-head, All-tail, All-weaker, All-append}
use Rattle.name_rows.specs.Rows.{AreSorted, placed, without, replacing}
use Rattle.name_rows.specs.Place.{IsHere, IsBefore, IsSmaller}
use Rattle.name_rows.proofs.NameOrder.{same_name, bytes_eq_itself}
use Rattle.name_rows.proofs.RowLemmas.{Other, smaller_other, none_greater, sorted_back, placed_here, placed_before, without_here, sorted_without, sorted_placed}
use Rattle.archive_keep.specs.Archive.{Archive}
use Rattle.archive_keep.specs.Archives.{name_of, keeping, changed_named}

pub others_before : (name : List ℕ) (rows : List Archive) (at : ℕ) (h : IsHere name_of name rows at) → All (Other name_of name) h.front
others_before name rows at h = All-weaker (IsSmaller name_of name) (Other name_of name) (smaller_other name_of name) h.front h.smaller

pub none_named : (name : List ℕ) (rows : List Archive) (at : ℕ) → AreSorted name_of rows → IsBefore name_of name rows at → All (Other name_of name) rows
none_named name rows at o h =
    let others = All-weaker (IsSmaller name_of name) (Other name_of name) (smaller_other name_of name) h.front h.smaller in
    let later = sorted_back name_of h.front h.back (subst (AreSorted name_of) h.parts o) in
    subst (All (Other name_of name)) (sym h.parts)
    (All-append (Other name_of name) h.front h.back others (none_greater name_of name h.back later h.greater))

pub here_is : (name : List ℕ) (rows : List Archive) (at : ℕ) (x : Archive) (h : IsHere name_of name rows at) → x ≡ slice_index_or rows at x → x ≡ h.old
here_is name rows at x h e =
    e ∙ ap (λ rs. slice_index_or rs at x) h.parts ∙ ap (λ n. slice_index_or (h.front ++ h.old ∷ h.back) n x) (sym h.at)
    ∙ get_or-append_seam h.front h.old h.back x

pub place_within : (name : List ℕ) (rows : List Archive) (at : ℕ) → IsHere name_of name rows at → at < length rows
place_within name rows at h = omega (arith, h.at, ap (length {A = Archive}) h.parts, length-append h.front (h.old ∷ h.back))

pub here_named : (name : List ℕ) (rows : List Archive) (at : ℕ) (h : IsHere name_of name rows at) → bytes_eq h.old.name name ≡ true
here_named name rows at h = rw (← same_name name h.old.name h.same) (bytes_eq_itself name)

changed_front : (name : List ℕ) (change : Archive → Archive) (front : List Archive) (here : Archive) (back : List Archive) → All (Other name_of name) front
    → bytes_eq here.name name ≡ true → changed_named name change (front ++ here ∷ back) ≡ front ++ change here ∷ back
changed_front name change [] here back a p = rw p refl
changed_front name change (m ∷ front) here back a p =
    let e = All-head (Other name_of name) m front a in
    rw e (ap (λ ms. m ∷ ms) (changed_front name change front here back (All-tail (Other name_of name) m front a) p))

pub set_changed : (name : List ℕ) (change : Archive → Archive) (rows : List Archive) (at : ℕ) (now new : Archive) → IsHere name_of name rows at
    → now ≡ slice_index_or rows at now → new ≡ change now → slice_set rows at new ≡ changed_named name change rows
set_changed name change rows at now new h is e =
    let made : new ≡ change h.old = e ∙ ap change (here_is name rows at now h is) in
    ap (slice_set rows at) made
    ∙ ap (λ rs. slice_set rs at (change h.old)) h.parts
    ∙ ap (λ n. slice_set (h.front ++ h.old ∷ h.back) n (change h.old)) (sym h.at)
    ∙ set-append_seam h.front h.old h.back (change h.old)
    ∙ sym (ap (changed_named name change) h.parts ∙ changed_front name change h.front h.old h.back (others_before name rows at h) (here_named name rows at h))

pub changed_none : (name : List ℕ) (change : Archive → Archive) (rows : List Archive) → All (Other name_of name) rows → changed_named name change rows ≡ rows
changed_none name change [] a = refl
changed_none name change (m ∷ ms) a =
    let e = All-head (Other name_of name) m ms a in
    rw e (ap (λ rs. m ∷ rs) (changed_none name change ms (All-tail (Other name_of name) m ms a)))

abbrev names : List Archive → List (List ℕ)
names rows = map (λ (m : Archive). m.name) rows

All_names : (P : List ℕ → Type 0) (rows new : List Archive) → names rows ≡ names new → All (λ m. P m.name) rows → All (λ m. P m.name) new
All_names P [] [] e a = a
All_names P [] (n ∷ ns) e a = absurd (cc)
All_names P (m ∷ ms) [] e a = absurd (cc)
All_names P (m ∷ ms) (n ∷ ns) e a =
    let same : m.name ≡ n.name = cc in
    let rest : names ms ≡ names ns = cc in
    All-cons (λ (m : Archive). P m.name) n ns (subst P same (All-head (λ (m : Archive). P m.name) m ms a))
    (All_names P ms ns rest (All-tail (λ (m : Archive). P m.name) m ms a))

pub sorted_names : (rows new : List Archive) → names rows ≡ names new → AreSorted name_of rows → AreSorted name_of new
sorted_names [] [] e o = tt
sorted_names [] (n ∷ ns) e o = absurd (cc)
sorted_names (m ∷ ms) [] e o = absurd (cc)
sorted_names (m ∷ ms) (n ∷ ns) e o =
    let same : m.name ≡ n.name = cc in
    let rest : names ms ≡ names ns = cc in
    let P : List ℕ → List ℕ → Type 0 = λ a b. slice_cmp nat_cmp a b ≡ Less in
    (All_names (P n.name) ms ns rest (subst (λ a. All (λ (other : Archive). P a other.name) ms) same o.0), sorted_names ms ns rest o.1)

names_set : (rows : List Archive) (at : ℕ) (now new : Archive) → at < length rows → now ≡ slice_index_or rows at now → new.name ≡ now.name
    → names (slice_set rows at new) ≡ names rows
names_set [] at now new l e n = absurd (omega (arith, l))
names_set (m ∷ ms) zero now new l e n = ap (λ a. a ∷ names ms) (n ∙ ap (λ (m : Archive). m.name) e)
names_set (m ∷ ms) (suc at) now new l e n = ap (λ ns. m.name ∷ ns) (names_set ms at now new (omega (arith, l)) e n)

pub sorted_set : (rows : List Archive) (at : ℕ) (now new : Archive) → AreSorted name_of rows → at < length rows → now ≡ slice_index_or rows at now
    → new.name ≡ now.name → AreSorted name_of (slice_set rows at new)
sorted_set rows at now new o l e n = sorted_names rows (slice_set rows at new) (sym (names_set rows at now new l e n)) o

pub names_mapped : (change : Archive → Archive) → ((a : Archive) → (change a).name ≡ a.name) → (rows : List Archive) → names rows ≡ names (map change rows)
names_mapped change same [] = refl
names_mapped change same (a ∷ others) = ap (λ n. n ∷ names others) (sym (same a)) ∙ ap (λ ns. (change a).name ∷ ns) (names_mapped change same others)

insert_between : {X : Type 0} (front back : List X) (at : ℕ) (x : X) → length front ≡ at → insert (front ++ back) at x ≡ front ++ x ∷ back
insert_between {X} front back at x e =
    subst (λ n. insert (front ++ back) n x ≡ front ++ x ∷ back) e
    (insert-append_left front back (length front) x (omega arith) ∙ ap (λ xs. xs ++ back) (insert_end front x) ∙ append_assoc front (x ∷ []) back)

pub created_before : (new_row : Archive) (name : List ℕ) (rows new : List Archive) (at : ℕ) → name ≡ new_row.name → IsBefore name_of name rows at
    → new ≡ insert rows at new_row → new ≡ placed name_of keeping new_row rows
created_before new_row name rows new at same before e =
    let h : IsBefore name_of new_row.name rows at = subst (λ n. IsBefore name_of n rows at) same before in
    e ∙ ap (λ rs. insert rs at new_row) h.parts ∙ insert_between h.front h.back at new_row h.at ∙ sym (placed_before name_of keeping new_row rows at h)

pub sorted_created : (new_row : Archive) (name : List ℕ) (rows : List Archive) (at : ℕ) → name ≡ new_row.name → IsBefore name_of name rows at
    → AreSorted name_of rows → AreSorted name_of (placed name_of keeping new_row rows)
sorted_created new_row name rows at same before o =
    let h : IsBefore name_of new_row.name rows at = subst (λ n. IsBefore name_of n rows at) same before in
    subst (AreSorted name_of) (placed_before name_of replacing new_row rows at h ∙ sym (placed_before name_of keeping new_row rows at h))
    (sorted_placed name_of replacing new_row rows (λ old. refl) o)

pub created_here : (new_row : Archive) (name : List ℕ) (rows : List Archive) (at : ℕ) → name ≡ new_row.name → IsHere name_of name rows at
    → rows ≡ placed name_of keeping new_row rows
created_here new_row name rows at same here =
    let h : IsHere name_of new_row.name rows at = subst (λ n. IsHere name_of n rows at) same here in
    h.parts ∙ sym (placed_here name_of keeping new_row rows at h)

cut_take : {X : Type 0} (front back : List X) (x : X) → take (length front) (front ++ x ∷ back) ≡ front
cut_take [] back x = refl
cut_take (y ∷ front) back x = ap (λ xs. y ∷ xs) (cut_take front back x)

cut_drop : {X : Type 0} (front back : List X) (x : X) → drop (suc (length front)) (front ++ x ∷ back) ≡ back
cut_drop [] back x = refl
cut_drop (y ∷ front) back x = cut_drop front back x

without_between : {X : Type 0} (front back : List X) (x : X) (at : ℕ) → length front ≡ at
    → take at (front ++ x ∷ back) ++ drop (at + 1) (front ++ x ∷ back) ≡ front ++ back
without_between {X} front back x at e =
    let next : suc (length front) ≡ at + 1 = omega (arith, e) in
    let first : take at (front ++ x ∷ back) ≡ front = subst (λ n. take n (front ++ x ∷ back) ≡ front) e (cut_take front back x) in
    let last : drop (at + 1) (front ++ x ∷ back) ≡ back = subst (λ n. drop n (front ++ x ∷ back) ≡ back) next (cut_drop front back x) in
    ap (λ xs. xs ++ drop (at + 1) (front ++ x ∷ back)) first ∙ ap (λ xs. front ++ xs) last

pub removed_here : (name : List ℕ) (rows new : List Archive) (at : ℕ) → AreSorted name_of rows → IsHere name_of name rows at
    → new ≡ take at rows ++ drop (at + 1) rows → new ≡ without name_of name rows
removed_here name rows new at o h e =
    e ∙ ap (λ rs. take at rs ++ drop (at + 1) rs) h.parts ∙ without_between h.front h.back h.old at h.at ∙ sym (without_here name_of name rows at o h)

pub sorted_removed : (name : List ℕ) (rows new : List Archive) → AreSorted name_of rows → new ≡ without name_of name rows → AreSorted name_of new
sorted_removed name rows new o e = subst (AreSorted name_of) (sym e) (sorted_without name_of name rows o)

pub All_without : (P : Archive → Type 0) (name : List ℕ) (rows : List Archive) → All P rows → All P (without name_of name rows)
All_without P name [] a = a
All_without P name (m ∷ ms) a =
    let rest = All_without P name ms (All-tail P m ms a) in
    elim (bytes_eq m.name name) as (λ b. All P (cond b (without name_of name ms) (m ∷ without name_of name ms))) [
      | true ↦ rest
      | false ↦ All-cons P m (without name_of name ms) (All-head P m ms a) rest
    ]

pub All_set : (P : Archive → Type 0) (rows : List Archive) (at : ℕ) (new : Archive) → All P rows → P new → All P (slice_set rows at new)
All_set P [] at new a p = a
All_set P (m ∷ ms) zero new a p = All-cons P new ms p (All-tail P m ms a)
All_set P (m ∷ ms) (suc at) new a p = All-cons P m (slice_set ms at new) (All-head P m ms a) (All_set P ms at new (All-tail P m ms a) p)

-- the row at a place that was set
pub at_set : {X : Type 0} (rows : List X) (at : ℕ) (new d : X) → at < length rows → slice_index_or (slice_set rows at new) at d ≡ new
at_set [] at new d l = absurd (omega (arith, l))
at_set (m ∷ ms) zero new d l = refl
at_set (m ∷ ms) (suc at) new d l = at_set ms at new d (omega (arith, l))

-- one row more of a front
pub take_more : {X : Type 0} (rows : List X) (i : ℕ) (x : X) → i < length rows → x ≡ slice_index_or rows i x → take (i + 1) rows ≡ take i rows ++ x ∷ []
take_more [] i x l e = absurd (omega (arith, l))
take_more (m ∷ ms) zero x l e = ap (λ z. z ∷ []) (sym e)
take_more (m ∷ ms) (suc i) x l e =
    let next : suc i + 1 ≡ suc (i + 1) = omega arith in
    subst (λ n. take n (m ∷ ms) ≡ m ∷ (take i ms ++ x ∷ [])) (sym next) (ap (λ zs. m ∷ zs) (take_more ms i x (omega (arith, l)) e))

pub take_all : {X : Type 0} (rows : List X) (n : ℕ) → length rows ≤ n → take n rows ≡ rows
take_all [] zero l = refl
take_all [] (suc n) l = refl
take_all (m ∷ ms) zero l = absurd (omega (arith, l))
take_all (m ∷ ms) (suc n) l = ap (λ zs. m ∷ zs) (take_all ms n (omega (arith, l)))

-- a row that has not changed yet is the old one
pub unchanged_at : {X : Type 0} (f : X → X) (rows : List X) (i : ℕ) (d : X) → i < length rows
    → slice_index_or (map f (take i rows) ++ drop i rows) i d ≡ slice_index_or rows i d
unchanged_at f [] i d l = absurd (omega (arith, l))
unchanged_at f (m ∷ ms) zero d l = refl
unchanged_at f (m ∷ ms) (suc i) d l = unchanged_at f ms i d (omega (arith, l))
