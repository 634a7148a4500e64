-- Places of queues: where a name is (`first_at`, `none_named`, `arn_first`, `none_with_arn`, `no_arn`), and a queue that changes in its place
-- (`here_is`, `set_changed`, `changed_none`, `sorted_set`, `names_changed`, `messages_at`, `messages_none`, `has_none`).
use Rattle.std.proofs.Common.{◌≡◌, ℕ, zero, suc, ◌<◌, Bool, true, false, cond, List, [], ◌∷◌, ◌++◌, length, map, refl, sym, ap, ◌∙◌, subst, arith, codes, slice_index_or, slice_set, length-append}
use Rattle.std.specs.Prelude.{All}
use Rattle.std.specs.Str.{bytes_eq}
use Rattle.std.specs.Cmp.Lexicographic.{slice_cmp}
use Rattle.std.specs.Ordering.{nat_cmp}
use Rattle.std.specs.declared.cmp.Ordering.TheVariants.{Less}
use Rattle.std.proofs.Math.Seq.{set-append_seam, get_or-append_seam}
use Rattle.std.proofs.lemmas.List.{append_cancel_left}
use Rattle.std.proofs.lemmas.List.Elements.{All-nil, All-cons, All-head, All-tail, All-weaker, All-append}
use Rattle.std.proofs.lemmas.Slice.Eq.{bytes_eq-Decides}
use Rattle.event_shape.specs.Names.{queue_arn}
use Rattle.name_rows.specs.Rows.{AreSorted}
use Rattle.name_rows.specs.Place.{IsHere, IsBefore, IsSmaller}
use Rattle.name_rows.proofs.NameOrder.{same_name, bytes_eq_itself}
use Rattle.name_rows.proofs.RowLemmas.{Other, smaller_other, none_greater, sorted_back}
use Rattle.delivery_queues.specs.Queues.{Queue, name_of, is_named, has_arn, changed_first, has_queue, messages_of}
use Rattle.delivery_queues.specs.Places.{IsFirstAt}

pub first_at : (name : List ℕ) (rows : List Queue) (at : ℕ) → IsHere name_of name rows at → IsFirstAt (is_named name) rows at
first_at name rows at h = record {
  front = h.front;
  here = h.old;
  back = h.back;
  parts = h.parts;
  at = h.at;
  others = All-weaker (IsSmaller name_of name) (λ m. is_named name m ≡ false) (smaller_other name_of name) h.front h.smaller;
  passes = rw (← same_name name h.old.name h.same) (bytes_eq_itself name);
}

pub none_named : (name : List ℕ) (rows : List Queue) (at : ℕ) → AreSorted name_of rows → IsBefore name_of name rows at → All (λ m. is_named name m ≡ false) rows
none_named name rows at o h =
    let others = All-weaker (IsSmaller name_of name) (Other name_of name) (smaller_other name_of name) h.front h.smaller in
    let later = sorted_back name_of h.front h.back (subst (AreSorted name_of) h.parts o) in
    subst (All (Other name_of name)) (sym h.parts)
    (All-append (Other name_of name) h.front h.back others (none_greater name_of name h.back later h.greater))

arn_test : (arn name other : List ℕ) → arn ≡ queue_arn name → bytes_eq arn (queue_arn other) ≡ bytes_eq other name
arn_test arn name other is =
    let d = bytes_eq-Decides arn (queue_arn other) in
    let e = bytes_eq-Decides other name in
    (elim (bytes_eq other name) as (λ b. bytes_eq other name ≡ b → bytes_eq arn (queue_arn other) ≡ b) [
      | true ↦ λ t. d.1 (is ∙ ap queue_arn (sym (e.0 t)))
      | false ↦ λ f.
          (elim (bytes_eq arn (queue_arn other)) as (λ b. bytes_eq arn (queue_arn other) ≡ b → b ≡ false) [
            | true ↦ λ t.
                let same : name ≡ other = append_cancel_left (codes "arn:aws:sqs:us-east-1:111122223333:") name other (sym is ∙ d.0 t) in
                let test : bytes_eq other name ≡ true = e.1 (sym same) in
                absurd (cc)
            | false ↦ λ t. refl
          ]) refl
    ]) refl

pub arn_first : (arn name : List ℕ) (rows : List Queue) (at : ℕ) → arn ≡ queue_arn name → IsFirstAt (is_named name) rows at → IsFirstAt (has_arn arn) rows at
arn_first arn name rows at is h = record {
  front = h.front;
  here = h.here;
  back = h.back;
  parts = h.parts;
  at = h.at;
  others = All-weaker (λ m. is_named name m ≡ false) (λ m. has_arn arn m ≡ false) (λ m f. arn_test arn name m.name is ∙ f) h.front h.others;
  passes = arn_test arn name h.here.name is ∙ h.passes;
}

pub none_with_arn : (arn name : List ℕ) (rows : List Queue) → arn ≡ queue_arn name → All (λ m. is_named name m ≡ false) rows
    → All (λ m. has_arn arn m ≡ false) rows
none_with_arn arn name rows is none =
    All-weaker (λ m. is_named name m ≡ false) (λ m. has_arn arn m ≡ false) (λ m f. arn_test arn name m.name is ∙ f) rows none

no_test : (arn other : List ℕ) → ((queue : List ℕ) → arn ≡ queue_arn queue → ⊥) → bytes_eq arn (queue_arn other) ≡ false
no_test arn other never =
    (elim (bytes_eq arn (queue_arn other)) as (λ b. bytes_eq arn (queue_arn other) ≡ b → b ≡ false) [
      | true ↦ λ t. absurd (never other ((bytes_eq-Decides arn (queue_arn other)).0 t))
      | false ↦ λ t. refl
    ]) refl

pub no_arn : (arn : List ℕ) (rows : List Queue) → ((queue : List ℕ) → arn ≡ queue_arn queue → ⊥) → All (λ m. has_arn arn m ≡ false) rows
no_arn arn [] never = All-nil (λ m. has_arn arn m ≡ false)
no_arn arn (m ∷ ms) never = All-cons (λ m. has_arn arn m ≡ false) m ms (no_test arn m.name never) (no_arn arn ms never)

pub here_is : {test : Queue → Bool} {rows : List Queue} {at : ℕ} (x : Queue) (h : IsFirstAt test rows at) → x ≡ slice_index_or rows at x → x ≡ h.here
here_is {test} {rows} {at} x h e =
    e ∙ ap (λ rs. slice_index_or rs at x) h.parts ∙ ap (λ n. slice_index_or (h.front ++ h.here ∷ h.back) n x) (sym h.at)
    ∙ get_or-append_seam h.front h.here h.back x

pub old_is : (name : List ℕ) (rows : List Queue) (at : ℕ) (x : Queue) (h : IsHere name_of name rows at) → x ≡ slice_index_or rows at x → x ≡ h.old
old_is name rows at x h e =
    e ∙ ap (λ rs. slice_index_or rs at x) h.parts ∙ ap (λ n. slice_index_or (h.front ++ h.old ∷ h.back) n x) (sym h.at)
    ∙ get_or-append_seam h.front h.old h.back x

changed_front : (test : Queue → Bool) (change : Queue → Queue) (front : List Queue) (here : Queue) (back : List Queue) → All (λ m. test m ≡ false) front
    → test here ≡ true → changed_first test change (front ++ here ∷ back) ≡ front ++ change here ∷ back
changed_front test change [] here back a p = rw p refl
changed_front test change (m ∷ front) here back a p =
    let P : Queue → Type 0 = λ m. test m ≡ false in
    let e = All-head P m front a in
    rw e (ap (λ ms. m ∷ ms) (changed_front test change front here back (All-tail P m front a) p))

pub set_changed : (test : Queue → Bool) (change : Queue → Queue) (rows : List Queue) (at : ℕ) (now new : Queue) → IsFirstAt test rows at
    → now ≡ slice_index_or rows at now → new ≡ change now → slice_set rows at new ≡ changed_first test change rows
set_changed test change rows at now new h is e =
    let made : new ≡ change h.here = e ∙ ap change (here_is now h is) in
    ap (slice_set rows at) made
    ∙ ap (λ rs. slice_set rs at (change h.here)) h.parts
    ∙ ap (λ n. slice_set (h.front ++ h.here ∷ h.back) n (change h.here)) (sym h.at)
    ∙ set-append_seam h.front h.here h.back (change h.here)
    ∙ sym (ap (changed_first test change) h.parts ∙ changed_front test change h.front h.here h.back h.others h.passes)

pub changed_none : (test : Queue → Bool) (change : Queue → Queue) (rows : List Queue) → All (λ m. test m ≡ false) rows → changed_first test change rows ≡ rows
changed_none test change [] a = refl
changed_none test change (m ∷ ms) a =
    let P : Queue → Type 0 = λ m. test m ≡ false in
    let e = All-head P m ms a in
    rw e (ap (λ rs. m ∷ rs) (changed_none test change ms (All-tail P m ms a)))

abbrev names : List Queue → List (List ℕ)
names rows = map (λ (m : Queue). m.name) rows

All_names : (P : List ℕ → Type 0) (rows new : List Queue) → names rows ≡ names new → All (λ m. P m.name) rows → All (λ m. P m.name) new
All_names P [] [] e a = a
All_names P [] (n ∷ ns) e a = absurd (cc)
All_names P (m ∷ ms) [] e a = absurd (cc)
All_names P (m ∷ ms) (n ∷ ns) e a =
    let same : m.name ≡ n.name = cc in
    let rest : names ms ≡ names ns = cc in
    All-cons (λ (m : Queue). P m.name) n ns (subst P same (All-head (λ (m : Queue). P m.name) m ms a))
    (All_names P ms ns rest (All-tail (λ (m : Queue). P m.name) m ms a))

pub sorted_names : (rows new : List Queue) → names rows ≡ names new → AreSorted name_of rows → AreSorted name_of new
sorted_names [] [] e o = tt
sorted_names [] (n ∷ ns) e o = absurd (cc)
sorted_names (m ∷ ms) [] e o = absurd (cc)
sorted_names (m ∷ ms) (n ∷ ns) e o =
    let same : m.name ≡ n.name = cc in
    let rest : names ms ≡ names ns = cc in
    let P : List ℕ → List ℕ → Type 0 = λ a b. slice_cmp nat_cmp a b ≡ Less in
    (All_names (P n.name) ms ns rest (subst (λ a. All (λ (other : Queue). P a other.name) ms) same o.0), sorted_names ms ns rest o.1)

names_set : (rows : List Queue) (at : ℕ) (now new : Queue) → at < length rows → now ≡ slice_index_or rows at now → new.name ≡ now.name
    → names (slice_set rows at new) ≡ names rows
names_set [] at now new l e n = absurd (omega (arith, l))
names_set (m ∷ ms) zero now new l e n = ap (λ a. a ∷ names ms) (n ∙ ap (λ (m : Queue). m.name) e)
names_set (m ∷ ms) (suc at) now new l e n = ap (λ ns. m.name ∷ ns) (names_set ms at now new (omega (arith, l)) e n)

pub sorted_set : (rows : List Queue) (at : ℕ) (now new : Queue) → AreSorted name_of rows → at < length rows → now ≡ slice_index_or rows at now
    → new.name ≡ now.name → AreSorted name_of (slice_set rows at new)
sorted_set rows at now new o l e n = sorted_names rows (slice_set rows at new) (sym (names_set rows at now new l e n)) o

pub names_changed : (test : Queue → Bool) (change : Queue → Queue) (rows : List Queue) → ((m : Queue) → (change m).name ≡ m.name)
    → names (changed_first test change rows) ≡ names rows
names_changed test change [] k = refl
names_changed test change (m ∷ ms) k =
    elim (test m) as (λ b. names (cond b (change m ∷ ms) (m ∷ changed_first test change ms)) ≡ names (m ∷ ms)) [
      | true ↦ ap (λ a. a ∷ names ms) (k m)
      | false ↦ ap (λ ns. m.name ∷ ns) (names_changed test change ms k)
    ]

messages_front : (name : List ℕ) (front : List Queue) (here : Queue) (back : List Queue) → All (λ m. is_named name m ≡ false) front
    → is_named name here ≡ true → messages_of name (front ++ here ∷ back) ≡ here.messages
messages_front name [] here back a p = rw p refl
messages_front name (m ∷ front) here back a p =
    let P : Queue → Type 0 = λ m. is_named name m ≡ false in
    let e = All-head P m front a in
    rw e (messages_front name front here back (All-tail P m front a) p)

pub messages_at : (name : List ℕ) (rows : List Queue) (at : ℕ) (h : IsFirstAt (is_named name) rows at) → messages_of name rows ≡ h.here.messages
messages_at name rows at h = ap (messages_of name) h.parts ∙ messages_front name h.front h.here h.back h.others h.passes

pub messages_none : (name : List ℕ) (rows : List Queue) → All (λ m. is_named name m ≡ false) rows → messages_of name rows ≡ []
messages_none name [] a = refl
messages_none name (m ∷ ms) a =
    let P : Queue → Type 0 = λ m. is_named name m ≡ false in
    let e = All-head P m ms a in
    rw e (messages_none name ms (All-tail P m ms a))

pub has_none : (name : List ℕ) (rows : List Queue) → All (λ m. is_named name m ≡ false) rows → has_queue name rows ≡ false
has_none name [] a = refl
has_none name (m ∷ ms) a =
    let P : Queue → Type 0 = λ m. is_named name m ≡ false in
    let e = All-head P m ms a in
    rw e (has_none name ms (All-tail P m ms a))

pub place_within : {test : Queue → Bool} {rows : List Queue} {at : ℕ} → IsFirstAt test rows at → at < length rows
place_within {test} {rows} {at} h = omega (arith, h.at, ap (length {A = Queue}) h.parts, length-append h.front (h.here ∷ h.back))
