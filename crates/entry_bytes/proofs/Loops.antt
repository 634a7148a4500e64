-- Reading the items of a list one after the other. `goes_on`, `is_over` and `is_done` are about what is read, `is_refused` about
-- items that have to be good.
use Rattle.std.proofs.Common.{◌≡◌, ℕ, suc, ◌-◌, ◌+◌, ◌≤◌, ◌<◌, List, [], ◌∷◌, ◌++◌, Option, Some, None, refl, sym, ap, subst, ◌∙◌, append_assoc, arith}
use Rattle.std.specs.List.{AllByRecursion}
use Rattle.std.proofs.lemmas.List.{append-nil}
use Rattle.entry_bytes.specs.declared.fault.ReadFault.{ReadFault}
use Rattle.entry_bytes.specs.declared.fault.ReadFault.TheVariants as fault
use Rattle.entry_bytes.specs.Reading.{◌>>=◌, Blames, HasNone, items_at}
use Rattle.entry_bytes.proofs.Formats.{bind_some, some_is}

-- what was read before, and what is still read
abbrev pub with_front : {A : Type 0} → List A → Option (List A × List ℕ) → Option (List A × List ℕ)
with_front front read = read >>= λ x. Some (front ++ x.0, x.1)

regroup : {A : Type 0} (front : List A) (n : A) (read : Option (List A × List ℕ)) → with_front front (read >>= λ x. Some (n ∷ x.0, x.1)) ≡ with_front (front ++ n ∷ []) read
regroup {A} front n (Some x) = ap (λ (ns : List A). Some (ns, x.1)) (simp append_assoc)
regroup front n None = refl

pub goes_on : {A : Type 0} (at : List ℕ → Option (A × List ℕ)) (front : List A) (count i : ℕ) (bytes : List ℕ) (n : A) (after : List ℕ) (total : Option (List A × List ℕ))
    → i < count → at bytes ≡ Some (n, after) → with_front front (items_at at (count - i) bytes) ≡ total
    → with_front (front ++ n ∷ []) (items_at at (count - (i + 1)) after) ≡ total
unfolding items_at
goes_on at front count i bytes n after total lt h so_far =
    let k : count - i ≡ suc (count - (i + 1)) = omega arith in
    let one : with_front front (items_at at (count - i) bytes) ≡ with_front (front ++ n ∷ []) (items_at at (count - (i + 1)) after)
    = rw (k, h) (regroup front n (items_at at (count - (i + 1)) after)) in
    sym one ∙ so_far

none_more : {A : Type 0} (at : List ℕ → Option (A × List ℕ)) (front : List A) (count i : ℕ) (bytes : List ℕ) (total : Option (List A × List ℕ))
    → i < count → at bytes ≡ None → with_front front (items_at at (count - i) bytes) ≡ total → total ≡ None
unfolding items_at
none_more at front count i bytes total lt h so_far =
    let k : count - i ≡ suc (count - (i + 1)) = omega arith in
    let one : with_front front (items_at at (count - i) bytes) ≡ None = rw (k, h) refl in
    sym so_far ∙ one

pub is_over : {A : Type 0} (at : List ℕ → Option (A × List ℕ)) (front : List A) (count i : ℕ) (bytes : List ℕ) (total : Option (List A × List ℕ)) (why : ReadFault)
    → i < count → Blames (at bytes ≡ None) why → with_front front (items_at at (count - i) bytes) ≡ total → Blames (total ≡ None) why
is_over at front count i bytes total fault.NoMemory lt h so_far = tt
is_over at front count i bytes total fault.NotSpelled lt h so_far = none_more at front count i bytes total lt h so_far

pub is_done : {A : Type 0} (at : List ℕ → Option (A × List ℕ)) (front : List A) (count i : ℕ) (bytes : List ℕ) (total : Option (List A × List ℕ))
    → count ≤ i → with_front front (items_at at (count - i) bytes) ≡ total → total ≡ Some (front, bytes)
unfolding items_at
is_done {A} at front count i bytes total le so_far =
    let k : count - i ≡ 0 = omega arith in
    let one : with_front front (items_at at (count - i) bytes) ≡ Some (front, bytes) = rw k (ap (λ (ns : List A). Some (ns, bytes)) (append-nil front)) in
    sym so_far ∙ one

pub all_more : {A : Type 0} (good : A → Type 0) (xs : List A) (y : A) → AllByRecursion good xs → good y → AllByRecursion good (xs ++ y ∷ [])
all_more good [] y all holds = (holds, tt)
all_more good (x ∷ xs) y all holds = (all.0, all_more good xs y all.1 holds)

all_has : {A : Type 0} (good : A → Type 0) (xs : List A) (y : A) (ys : List A) → AllByRecursion good (xs ++ y ∷ ys) → good y
all_has good [] y ys all = all.0
all_has good (x ∷ xs) y ys all = all_has good xs y ys all.1

no_more : {A : Type 0} (at : List ℕ → Option (A × List ℕ)) (good : A → Type 0) (front : List A) (n : ℕ) (bytes : List ℕ) (xs : List A) (rest : List ℕ)
    → HasNone good (at bytes) → with_front front (items_at at (suc n) bytes) ≡ Some (xs, rest) → AllByRecursion good xs → ⊥
unfolding items_at
no_more {A} at good front n bytes xs rest none e all =
    let z = bind_some (at bytes >>= λ (first : A × List ℕ). items_at at n first.1 >>= λ (others : List A × List ℕ). Some (first.0 ∷ others.0, others.1))
    (λ (x : List A × List ℕ). Some (front ++ x.0, x.1)) (xs, rest) e in
    let x = bind_some (at bytes) (λ (first : A × List ℕ). items_at at n first.1 >>= λ (others : List A × List ℕ). Some (first.0 ∷ others.0, others.1)) z.0 z.1 in
    let y = bind_some (items_at at n x.0.1) (λ (others : List A × List ℕ). Some (x.0.0 ∷ others.0, others.1)) z.0 x.2 in
    let items : x.0.0 ∷ y.0.0 ≡ z.0.0 = ap (λ (p : List A × List ℕ). p.0) (some_is (x.0.0 ∷ y.0.0, y.0.1) z.0 y.2) in
    let whole : front ++ z.0.0 ≡ xs = ap (λ (p : List A × List ℕ). p.0) (some_is (front ++ z.0.0, z.0.1) (xs, rest) z.2) in
    let is : front ++ x.0.0 ∷ y.0.0 ≡ xs = ap (λ (ys : List A). front ++ ys) items ∙ whole in
    none x.0.0 x.0.1 x.1 (all_has good front x.0.0 y.0.0 (subst (AllByRecursion good) (sym is) all))

none_refused : {A : Type 0} (at : List ℕ → Option (A × List ℕ)) (good : A → Type 0) (front : List A) (count i : ℕ) (bytes : List ℕ)
    (total : Option (List A × List ℕ)) → i < count → HasNone good (at bytes) → with_front front (items_at at (count - i) bytes) ≡ total
    → HasNone (AllByRecursion good) total
none_refused at good front count i bytes total lt h so_far xs rest e all =
    let k : count - i ≡ suc (count - (i + 1)) = omega arith in
    let one : with_front front (items_at at (suc (count - (i + 1))) bytes) ≡ Some (xs, rest)
    = ap (λ (m : ℕ). with_front front (items_at at m bytes)) (sym k) ∙ so_far ∙ e in
    no_more at good front (count - (i + 1)) bytes xs rest h one all

pub is_refused : {A : Type 0} (at : List ℕ → Option (A × List ℕ)) (good : A → Type 0) (front : List A) (count i : ℕ) (bytes : List ℕ)
    (total : Option (List A × List ℕ)) (why : ReadFault) → i < count → Blames (HasNone good (at bytes)) why
    → with_front front (items_at at (count - i) bytes) ≡ total → Blames (HasNone (AllByRecursion good) total) why
is_refused at good front count i bytes total fault.NoMemory lt h so_far = tt
is_refused at good front count i bytes total fault.NotSpelled lt h so_far = none_refused at good front count i bytes total lt h so_far
