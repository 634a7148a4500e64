-- Queues in the byte order of their names: one more (`created_before`, `created_here`, `sorted_created`) one less
-- (`removed_here`, `sorted_removed`), and the messages of one (`messages_named`,
-- `some_left`).
use Rattle.std.proofs.lemmas.Bool.Decides.{nat_tests}
use Rattle.std.proofs.Common.{◌==◌, Bool, cond, true, false, not, Option, Some, None, ◌≡◌, ℕ, suc, ◌+◌, List, [], ◌∷◌, ◌++◌, length, take, drop, refl, sym, ap, ◌∙◌, subst, arith, append_assoc}
use Rattle.std.specs.Prelude.{IsTrue, ◌↔◌}
use Rattle.std.specs.List.{insert}
use Rattle.std.proofs.lemmas.List.Edits.{insert_end, insert-append_left}
use Rattle.name_rows.specs.Rows.{AreSorted, named, placed, without, replacing}
use Rattle.name_rows.specs.Place.{IsHere, IsBefore}
use Rattle.name_rows.proofs.RowLemmas.{placed_here, placed_before, without_here, sorted_without, sorted_placed}
use Rattle.delivery_queues.specs.Queues.{Queue, name_of, keeping, messages_of}
use Rattle.delivery_queues.specs.declared.stored.StoredMessage.{StoredMessage}
use Rattle.std.specs.Str.{bytes_eq}

insert_between : {X : Type 0} (front back : List X) (at : ℕ) (x : X) → length front ≡ at → insert (front ++ back) at x ≡ front ++ x ∷ back
insert_between {X} front back at x e =
    subst (λ n. insert (front ++ back) n x ≡ front ++ x ∷ back) e
    (insert-append_left front back (length front) x (omega arith) ∙ ap (λ xs. xs ++ back) (insert_end front x) ∙ append_assoc front (x ∷ []) back)

pub created_before : (queue : Queue) (name : List ℕ) (rows new : List Queue) (at : ℕ) → name ≡ queue.name → IsBefore name_of name rows at
    → new ≡ insert rows at queue → new ≡ placed name_of keeping queue rows
created_before queue name rows new at same before e =
    let h : IsBefore name_of queue.name rows at = subst (λ n. IsBefore name_of n rows at) same before in
    e ∙ ap (λ rs. insert rs at queue) h.parts ∙ insert_between h.front h.back at queue h.at ∙ sym (placed_before name_of keeping queue rows at h)

pub sorted_created : (queue : Queue) (name : List ℕ) (rows : List Queue) (at : ℕ) → name ≡ queue.name → IsBefore name_of name rows at
    → AreSorted name_of rows → AreSorted name_of (placed name_of keeping queue rows)
sorted_created queue name rows at same before o =
    let h : IsBefore name_of queue.name rows at = subst (λ n. IsBefore name_of n rows at) same before in
    subst (AreSorted name_of) (placed_before name_of replacing queue rows at h ∙ sym (placed_before name_of keeping queue rows at h))
    (sorted_placed name_of replacing queue rows (λ old. refl) o)

pub created_here : (queue : Queue) (name : List ℕ) (rows : List Queue) (at : ℕ) → name ≡ queue.name → IsHere name_of name rows at
    → rows ≡ placed name_of keeping queue rows
created_here queue name rows at same here =
    let h : IsHere name_of queue.name rows at = subst (λ n. IsHere name_of n rows at) same here in
    h.parts ∙ sym (placed_here name_of keeping queue rows at h)

cut_take : {X : Type 0} (front back : List X) (x : X) → take (length front) (front ++ x ∷ back) ≡ front
cut_take [] back x = refl
cut_take (y ∷ front) back x = ap (λ xs. y ∷ xs) (cut_take front back x)

cut_drop : {X : Type 0} (front back : List X) (x : X) → drop (suc (length front)) (front ++ x ∷ back) ≡ back
cut_drop [] back x = refl
cut_drop (y ∷ front) back x = cut_drop front back x

without_between : {X : Type 0} (front back : List X) (x : X) (at : ℕ) → length front ≡ at
    → take at (front ++ x ∷ back) ++ drop (at + 1) (front ++ x ∷ back) ≡ front ++ back
without_between {X} front back x at e =
    let next : suc (length front) ≡ at + 1 = omega (arith, e) in
    let first : take at (front ++ x ∷ back) ≡ front = subst (λ n. take n (front ++ x ∷ back) ≡ front) e (cut_take front back x) in
    let last : drop (at + 1) (front ++ x ∷ back) ≡ back = subst (λ n. drop n (front ++ x ∷ back) ≡ back) next (cut_drop front back x) in
    ap (λ xs. xs ++ drop (at + 1) (front ++ x ∷ back)) first ∙ ap (λ xs. front ++ xs) last

pub removed_here : (name : List ℕ) (rows new : List Queue) (at : ℕ) → AreSorted name_of rows → IsHere name_of name rows at
    → new ≡ take at rows ++ drop (at + 1) rows → new ≡ without name_of name rows
removed_here name rows new at o h e =
    e ∙ ap (λ rs. take at rs ++ drop (at + 1) rs) h.parts ∙ without_between h.front h.back h.old at h.at ∙ sym (without_here name_of name rows at o h)

pub sorted_removed : (name : List ℕ) (rows new : List Queue) → AreSorted name_of rows → new ≡ without name_of name rows → AreSorted name_of new
sorted_removed name rows new o e = subst (AreSorted name_of) (sym e) (sorted_without name_of name rows o)

abbrev within : Option Queue → List StoredMessage
within None = []
within (Some m) = m.messages

-- the messages of the queue that was found
pub messages_named : (name : List ℕ) (rows : List Queue) (found : Option Queue) → named name_of name rows ≡ found → messages_of name rows ≡ within found
messages_named name [] found e = ap within e
messages_named name (m ∷ ms) found e =
    (elim (bytes_eq m.name name) as (λ b. cond b (Some m) (named name_of name ms) ≡ found → cond b m.messages (messages_of name ms) ≡ within found) [
      | true ↦ λ h. ap within h
      | false ↦ λ h. messages_named name ms found h
    ]) e

pub some_left : (b : Bool) (ms all : List StoredMessage) → all ≡ ms → IsTrue b ↔ (ms ≡ []) → not b ≡ not (length all == 0)
some_left true ms all e h = ap (λ (l : List StoredMessage). not (length l == 0)) (sym (e ∙ h.0 refl))
some_left false [] all e h = absurd (let b = h.1 refl in cc)
some_left false (m ∷ ms) all e h =
    let some : not (length (m ∷ ms) == 0) ≡ true = grind (arith, nat_tests) in
    sym (ap (λ (l : List StoredMessage). not (length l == 0)) e ∙ some)
