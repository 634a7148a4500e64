-- Rows by their names: the values of `named`, `placed` and `without` when the place of the name is known.
use Rattle.std.proofs.Common.{◌≡◌, ℕ, true, false, Bool, List, [], ◌∷◌, ◌++◌, map, Some, None, refl, sym, ap, ◌∙◌, subst}
use Rattle.std.specs.Prelude.{All}
use Rattle.std.specs.Cmp.Lexicographic.{slice_cmp}
use Rattle.std.specs.Ordering.{nat_cmp}
use Rattle.std.specs.Str.{bytes_eq}
use Rattle.std.specs.declared.cmp.Ordering.{Ordering}
use Rattle.std.specs.declared.cmp.Ordering.TheVariants.{Less, Equal, Greater}
use Rattle.std.proofs.lemmas.List.{map-append, length-map}
use Rattle.std.proofs.lemmas.List.Elements.{All-head, All-tail, All-cons, All-nil, All-map, All-weaker, All-append}
use Rattle.name_rows.specs.Rows.{named, placed, without, AreSorted}
use Rattle.name_rows.specs.Place.{IsHere, IsBefore, IsSmaller, StartsGreater}
use Rattle.name_rows.proofs.NameOrder.{Less_trans, Less_from_Greater, same_name, Greater_from_Less, bytes_eq_itself, bytes_eq_Less, bytes_eq_Greater}

-- cases of a comparison
pub by_cmp : {G : Type 0} (o : Ordering) → (o ≡ Less → G) → (o ≡ Equal → G) → (o ≡ Greater → G) → G
by_cmp Less l e g = l refl
by_cmp Equal l e g = e refl
by_cmp Greater l e g = g refl

pub All_front : {A : Type 0} (P : A → Type 0) (xs ys : List A) → All P (xs ++ ys) → All P xs
All_front P [] ys all = All-nil P
All_front P (x ∷ xs) ys all = All-cons P x xs (All-head P x (xs ++ ys) all) (All_front P xs ys (All-tail P x (xs ++ ys) all))

pub All_back : {A : Type 0} (P : A → Type 0) (xs ys : List A) → All P (xs ++ ys) → All P ys
All_back P [] ys all = all
All_back P (x ∷ xs) ys all = All_back P xs ys (All-tail P x (xs ++ ys) all)

All_unmap : {A B : Type 0} (P : B → Type 0) (g : A → B) (xs : List A) → All P (map g xs) → All (λ x. P (g x)) xs
All_unmap P g [] all = All-nil (λ x. P (g x))
All_unmap P g (x ∷ xs) all = All-cons (λ y. P (g y)) x xs (All-head P (g x) (map g xs) all) (All_unmap P g xs (All-tail P (g x) (map g xs) all))

pub sorted_unmap : {A B : Type 0} (f : B → List ℕ) (g : A → B) (rows : List A) → AreSorted f (map g rows) → AreSorted (λ row. f (g row)) rows
sorted_unmap f g [] o = tt
sorted_unmap f g (row ∷ rows) o = (All_unmap (λ other. slice_cmp nat_cmp (f (g row)) (f other) ≡ Less) g rows o.0, sorted_unmap f g rows o.1)

pub sorted_front : {A : Type 0} (f : A → List ℕ) (front back : List A) → AreSorted f (front ++ back) → AreSorted f front
sorted_front f [] back o = tt
sorted_front f (row ∷ front) back o = (All_front (λ other. slice_cmp nat_cmp (f row) (f other) ≡ Less) front back o.0, sorted_front f front back o.1)

pub by_test : {G : Type 0} (b : Bool) → (b ≡ true → G) → (b ≡ false → G) → G
by_test true t f = t refl
by_test false t f = f refl

abbrev pub Other : {A : Type 0} → (A → List ℕ) → List ℕ → A → Type 0
Other f name row = bytes_eq (f row) name ≡ false

pub smaller_other : {A : Type 0} (f : A → List ℕ) (name : List ℕ) (row : A) → IsSmaller f name row → Other f name row
smaller_other f name row e = bytes_eq_Less (f row) name (Less_from_Greater name (f row) e)

pub named_after : {A : Type 0} (f : A → List ℕ) (name : List ℕ) (front back : List A)
    → All (Other f name) front → named f name (front ++ back) ≡ named f name back
named_after f name [] back all = refl
named_after f name (row ∷ front) back all =
    let e = All-head (Other f name) row front all in
    rw e (named_after f name front back (All-tail (Other f name) row front all))

pub named_none : {A : Type 0} (f : A → List ℕ) (name : List ℕ) (rows : List A) → All (Other f name) rows → named f name rows ≡ None
named_none f name [] all = refl
named_none f name (row ∷ rows) all =
    let e = All-head (Other f name) row rows all in
    rw e (named_none f name rows (All-tail (Other f name) row rows all))

pub placed_after : {A : Type 0} (f : A → List ℕ) (joined : A → A → A) (new : A) (front back : List A) → All (IsSmaller f (f new)) front
    → placed f joined new (front ++ back) ≡ front ++ placed f joined new back
placed_after f joined new [] back all = refl
placed_after f joined new (row ∷ front) back all =
    let e = All-head (IsSmaller f (f new)) row front all in
    rw e (ap (λ rs. row ∷ rs) (placed_after f joined new front back (All-tail (IsSmaller f (f new)) row front all)))

pub sorted_back : {A : Type 0} (f : A → List ℕ) (front back : List A) → AreSorted f (front ++ back) → AreSorted f back
sorted_back f [] back o = o
sorted_back f (row ∷ front) back o = sorted_back f front back o.1

-- no row after one with the name has the name
pub others_after : {A : Type 0} (f : A → List ℕ) (name : List ℕ) (old : A) (back : List A) → f old ≡ name
    → All (λ other. slice_cmp nat_cmp (f old) (f other) ≡ Less) back → All (Other f name) back
others_after f name old back e all =
    All-weaker (λ other. slice_cmp nat_cmp (f old) (f other) ≡ Less) (Other f name)
    (λ other less. rw (← e) (bytes_eq_Greater (f other) (f old) (Greater_from_Less (f old) (f other) less))) back all

pub named_here : {A : Type 0} (f : A → List ℕ) (name : List ℕ) (rows : List A) (at : ℕ)
    → (h : IsHere f name rows at) → named f name rows ≡ Some h.old
named_here f name rows at h =
    let others = All-weaker (IsSmaller f name) (Other f name) (smaller_other f name) h.front h.smaller in
    let is_it : bytes_eq (f h.old) name ≡ true = rw (← same_name name (f h.old) h.same) (bytes_eq_itself name) in
    ap (named f name) h.parts ∙ named_after f name h.front (h.old ∷ h.back) others ∙ rw is_it refl

pub none_greater : {A : Type 0} (f : A → List ℕ) (name : List ℕ) (back : List A)
    → AreSorted f back → StartsGreater f name back → All (Other f name) back
none_greater f name [] o greater = All-nil (Other f name)
none_greater f name (row ∷ rows) o greater =
    All-cons (Other f name) row rows (bytes_eq_Greater (f row) name (Greater_from_Less name (f row) greater))
    (All-weaker (λ other. slice_cmp nat_cmp (f row) (f other) ≡ Less) (Other f name)
    (λ other less. bytes_eq_Greater (f other) name (Greater_from_Less name (f other) (Less_trans name (f row) (f other) greater less))) rows o.0)

pub named_before : {A : Type 0} (f : A → List ℕ) (name : List ℕ) (rows : List A) (at : ℕ) → AreSorted f rows → IsBefore f name rows at
    → named f name rows ≡ None
named_before f name rows at o h =
    let others = All-weaker (IsSmaller f name) (Other f name) (smaller_other f name) h.front h.smaller in
    let later = sorted_back f h.front h.back (subst (AreSorted f) h.parts o) in
    ap (named f name) h.parts ∙ named_after f name h.front h.back others ∙ named_none f name h.back (none_greater f name h.back later h.greater)

pub here_map : {A B : Type 0} (g : A → B) (f : B → List ℕ) (name : List ℕ) (rows : List A) (at : ℕ) → IsHere (λ row. f (g row)) name rows at
    → IsHere f name (map g rows) at
here_map g f name rows at h = record {
  front = map g h.front;
  old = g h.old;
  back = map g h.back;
  parts = ap (map g) h.parts ∙ map-append g h.front (h.old ∷ h.back);
  at = length-map h.front g ∙ h.at;
  smaller = All-map (IsSmaller f name) g h.front h.smaller;
  same = h.same;
}

starts_map : {A B : Type 0} (g : A → B) (f : B → List ℕ) (name : List ℕ) (rows : List A) → StartsGreater (λ row. f (g row)) name rows
    → StartsGreater f name (map g rows)
starts_map g f name [] h = tt
starts_map g f name (row ∷ rows) h = h

pub before_map : {A B : Type 0} (g : A → B) (f : B → List ℕ) (name : List ℕ) (rows : List A) (at : ℕ)
    → IsBefore (λ row. f (g row)) name rows at → IsBefore f name (map g rows) at
before_map g f name rows at h = record {
  front = map g h.front;
  back = map g h.back;
  parts = ap (map g) h.parts ∙ map-append g h.front h.back;
  at = length-map h.front g ∙ h.at;
  smaller = All-map (IsSmaller f name) g h.front h.smaller;
  greater = starts_map g f name h.back h.greater;
}

-- a row with a greater name comes first
placed_first : {A : Type 0} (f : A → List ℕ) (joined : A → A → A) (new : A) (back : List A) → StartsGreater f (f new) back
    → placed f joined new back ≡ new ∷ back
placed_first f joined new [] greater = refl
placed_first f joined new (row ∷ rows) greater = rw greater refl

-- what is in place among the rows at hand
placed_before_back : {A : Type 0} (f : A → List ℕ) (joined : A → A → A) (new : A) (rows back : List A) → StartsGreater f (f new) back
    → placed f joined new (rows ++ back) ≡ placed f joined new rows ++ back
placed_before_back f joined new [] back greater = placed_first f joined new back greater
placed_before_back f joined new (row ∷ rows) back greater =
    by_cmp (slice_cmp nat_cmp (f new) (f row))
    (λ e. rw e refl)
    (λ e. rw e refl)
    (λ e. rw e (ap (λ rs. row ∷ rs) (placed_before_back f joined new rows back greater)))

-- `placed` changes only the rows of the block that has the place
pub placed_within : {A : Type 0} (f : A → List ℕ) (joined : A → A → A) (new : A) (front rows back : List A) → All (IsSmaller f (f new)) front
    → StartsGreater f (f new) back → placed f joined new (front ++ (rows ++ back)) ≡ front ++ (placed f joined new rows ++ back)
placed_within f joined new front rows back smaller greater =
    placed_after f joined new front (rows ++ back) smaller ∙ ap (λ rs. front ++ rs) (placed_before_back f joined new rows back greater)

pub placed_here : {A : Type 0} (f : A → List ℕ) (joined : A → A → A) (new : A) (rows : List A) (at : ℕ)
    → (h : IsHere f (f new) rows at) → placed f joined new rows ≡ h.front ++ joined h.old new ∷ h.back
placed_here f joined new rows at h =
    let e = h.same in
    ap (placed f joined new) h.parts ∙ placed_after f joined new h.front (h.old ∷ h.back) h.smaller ∙ rw e refl

pub placed_before : {A : Type 0} (f : A → List ℕ) (joined : A → A → A) (new : A) (rows : List A) (at : ℕ)
    → (h : IsBefore f (f new) rows at) → placed f joined new rows ≡ h.front ++ new ∷ h.back
placed_before f joined new rows at h =
    ap (placed f joined new) h.parts ∙ placed_after f joined new h.front h.back h.smaller
    ∙ ap (λ rs. h.front ++ rs) (placed_first f joined new h.back h.greater)

named_before_back : {A : Type 0} (f : A → List ℕ) (name : List ℕ) (rows back : List A) → All (Other f name) back
    → named f name (rows ++ back) ≡ named f name rows
named_before_back f name [] back all = named_none f name back all
named_before_back f name (row ∷ rows) back all =
    by_test (bytes_eq (f row) name)
    (λ e. rw e refl)
    (λ e. rw e (named_before_back f name rows back all))

-- a name is only in the block that has its place
pub named_within : {A : Type 0} (f : A → List ℕ) (name : List ℕ) (front rows back : List A) → AreSorted f (front ++ (rows ++ back))
    → All (IsSmaller f name) front → StartsGreater f name back → named f name (front ++ (rows ++ back)) ≡ named f name rows
named_within f name front rows back o smaller greater =
    let others = All-weaker (IsSmaller f name) (Other f name) (smaller_other f name) front smaller in
    let later = sorted_back f rows back (sorted_back f front (rows ++ back) o) in
    named_after f name front (rows ++ back) others ∙ named_before_back f name rows back (none_greater f name back later greater)

without_append : {A : Type 0} (f : A → List ℕ) (name : List ℕ) (front back : List A)
    → without f name (front ++ back) ≡ without f name front ++ without f name back
without_append f name [] back = refl
without_append f name (row ∷ front) back =
    by_test (bytes_eq (f row) name)
    (λ e. rw e (without_append f name front back))
    (λ e. rw e (ap (λ rs. row ∷ rs) (without_append f name front back)))

without_others : {A : Type 0} (f : A → List ℕ) (name : List ℕ) (rows : List A) → All (Other f name) rows → without f name rows ≡ rows
without_others f name [] all = refl
without_others f name (row ∷ rows) all =
    let e = All-head (Other f name) row rows all in
    rw e (ap (λ rs. row ∷ rs) (without_others f name rows (All-tail (Other f name) row rows all)))

-- only the block that has the place of a name loses a row
pub without_within : {A : Type 0} (f : A → List ℕ) (name : List ℕ) (front rows back : List A) → AreSorted f (front ++ (rows ++ back))
    → All (IsSmaller f name) front → StartsGreater f name back → without f name (front ++ (rows ++ back)) ≡ front ++ (without f name rows ++ back)
without_within f name front rows back o smaller greater =
    let others = All-weaker (IsSmaller f name) (Other f name) (smaller_other f name) front smaller in
    let later = sorted_back f rows back (sorted_back f front (rows ++ back) o) in
    without_append f name front (rows ++ back)
    ∙ ap (λ rs. rs ++ without f name (rows ++ back)) (without_others f name front others)
    ∙ ap (λ rs. front ++ rs) (without_append f name rows back
    ∙ ap (λ rs. without f name rows ++ rs) (without_others f name back (none_greater f name back later greater)))

pub without_here : {A : Type 0} (f : A → List ℕ) (name : List ℕ) (rows : List A) (at : ℕ) → AreSorted f rows → (h : IsHere f name rows at)
    → without f name rows ≡ h.front ++ h.back
without_here f name rows at o h =
    let others = All-weaker (IsSmaller f name) (Other f name) (smaller_other f name) h.front h.smaller in
    let is_it : bytes_eq (f h.old) name ≡ true = rw (← same_name name (f h.old) h.same) (bytes_eq_itself name) in
    let later = sorted_back f h.front (h.old ∷ h.back) (subst (AreSorted f) h.parts o) in
    let after = others_after f name h.old h.back (sym (same_name name (f h.old) h.same)) later.0 in
    ap (without f name) h.parts ∙ without_append f name h.front (h.old ∷ h.back)
    ∙ ap (λ rs. rs ++ without f name (h.old ∷ h.back)) (without_others f name h.front others)
    ∙ ap (λ rs. h.front ++ rs) (rw is_it (without_others f name h.back after))

pub without_before : {A : Type 0} (f : A → List ℕ) (name : List ℕ) (rows : List A) (at : ℕ) → AreSorted f rows → IsBefore f name rows at
    → without f name rows ≡ rows
without_before f name rows at o h =
    let others = All-weaker (IsSmaller f name) (Other f name) (smaller_other f name) h.front h.smaller in
    let later = sorted_back f h.front h.back (subst (AreSorted f) h.parts o) in
    without_others f name rows (subst (All (Other f name)) (sym h.parts)
    (All-append (Other f name) h.front h.back others (none_greater f name h.back later h.greater)))

All_without : {A : Type 0} (P : A → Type 0) (f : A → List ℕ) (name : List ℕ) (rows : List A) → All P rows → All P (without f name rows)
All_without P f name [] all = all
All_without P f name (row ∷ rows) all =
    let rest = All_without P f name rows (All-tail P row rows all) in
    by_test (bytes_eq (f row) name)
    (λ e. rw e rest)
    (λ e. rw e (All-cons P row (without f name rows) (All-head P row rows all) rest))

pub sorted_without : {A : Type 0} (f : A → List ℕ) (name : List ℕ) (rows : List A) → AreSorted f rows → AreSorted f (without f name rows)
sorted_without f name [] o = tt
sorted_without f name (row ∷ rows) o =
    by_test (bytes_eq (f row) name)
    (λ e. rw e (sorted_without f name rows o.1))
    (λ e. rw e (All_without (λ other. slice_cmp nat_cmp (f row) (f other) ≡ Less) f name rows o.0, sorted_without f name rows o.1))

-- a fact that holds of each row and of the new one holds of each row of `placed`
pub All_placed : {A : Type 0} (P : A → Type 0) (f : A → List ℕ) (joined : A → A → A) (new : A) (rows : List A)
    → P new → ((old : A) → P old → P (joined old new)) → All P rows → All P (placed f joined new rows)
All_placed P f joined new [] p j all = All-cons P new [] p all
All_placed P f joined new (old ∷ rest) p j all =
    let first = All-head P old rest all in
    let others = All-tail P old rest all in
    by_cmp (slice_cmp nat_cmp (f new) (f old))
    (λ e. rw e (All-cons P new (old ∷ rest) p all))
    (λ e. rw e (All-cons P (joined old new) rest (j old first) others))
    (λ e. rw e (All-cons P old (placed f joined new rest) first (All_placed P f joined new rest p j others)))

pub sorted_placed : {A : Type 0} (f : A → List ℕ) (joined : A → A → A) (new : A) (rows : List A)
    → ((old : A) → f (joined old new) ≡ f new) → AreSorted f rows → AreSorted f (placed f joined new rows)
sorted_placed f joined new [] j o = (All-nil (λ other. slice_cmp nat_cmp (f new) (f other) ≡ Less), tt)
sorted_placed {A} f joined new (old ∷ rest) j o =
    let above : List ℕ → A → Type 0 = λ name other. slice_cmp nat_cmp name (f other) ≡ Less in
    by_cmp (slice_cmp nat_cmp (f new) (f old))
    (λ e. rw e (
      All-cons (above (f new)) old rest e
          (All-weaker (above (f old)) (above (f new)) (λ other less. Less_trans (f new) (f old) (f other) e less) rest o.0),
      o,
    ))
    (λ e. rw e (All-weaker (above (f old)) (above (f (joined old new))) (λ other less. rw (j old, same_name (f new) (f old) e) less) rest o.0, o.1))
    (λ e. rw e (
      All_placed (above (f old)) f joined new rest (Less_from_Greater (f new) (f old) e)
          (λ other less. rw (j other) (Less_from_Greater (f new) (f old) e)) o.0,
      sorted_placed f joined new rest j o.1,
    ))
