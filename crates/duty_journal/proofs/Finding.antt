-- What is read of a part is read of the whole, or refused there: `made_none`, `front_none`, `counted_none`.
use Rattle.std.proofs.Common.{◌≡◌, ℕ, ◌≤◌, ◌<◌, List, Option, Some, None, true, false, eqb, leb, refl, sym, ap, subst, ◌∙◌, arith}
use Rattle.std.specs.List.{AllByRecursion}
use Rattle.std.proofs.lemmas.Bool.Decides.{nat_tests}
use Rattle.router_requests.specs.Batch.{Entry, control, Batch}
use Rattle.entry_bytes.specs.declared.fault.ReadFault.{ReadFault}
use Rattle.entry_bytes.specs.declared.fault.ReadFault.TheVariants as fault
use Rattle.entry_bytes.specs.Reading.{◌>>=◌, Blames, HasNone, made_at, byte_at, two_at, eight_at, items_at}
use Rattle.entry_bytes.specs.ChangeReading.{change_at}
use Rattle.entry_bytes.proofs.Finding.{blames_so}
use Rattle.entry_bytes.proofs.Formats.{bind_some, some_is}
use Rattle.duty_journal.specs.Batch.{HasValidTexts}
use Rattle.duty_journal.specs.Reading.{other_at, operation_at, operations_at, made_batch, batch_at}

none_made : {A B : Type 0} (make : A → B) (good : A → Type 0) (other : B → Type 0) → ((x : A) → other (make x) → good x) → (read : Option (A × List ℕ))
    → HasNone good read → HasNone other (read >>= λ x. Some (make x.0, x.1))
none_made {A = A} {B = B} make good other back read none y rest e holds =
    let x = bind_some read (λ (x : A × List ℕ). Some (make x.0, x.1)) (y, rest) e in
    let is : make x.0.0 ≡ y = ap (λ (p : B × List ℕ). p.0) (some_is (make x.0.0, x.0.1) (y, rest) x.2) in
    none x.0.0 x.0.1 x.1 (back x.0.0 (subst other (sym is) holds))

pub made_none : {A B : Type 0} (make : A → B) (good : A → Type 0) (other : B → Type 0) → ((x : A) → other (make x) → good x) → (read : Option (A × List ℕ)) (why : ReadFault)
    → Blames (HasNone good read) why → Blames (HasNone other (read >>= λ x. Some (make x.0, x.1))) why
made_none make good other back read fault.NoMemory none = tt
made_none make good other back read fault.NotSpelled none = none_made make good other back read none

abbrev pub HasValid : Batch → Type 0
HasValid b = AllByRecursion HasValidTexts b.entries

none_after : (bytes : List ℕ) (moment : ℕ) (rest : List ℕ) → eight_at bytes ≡ Some (moment, rest) → HasNone (AllByRecursion HasValidTexts) (operations_at rest)
    → HasNone HasValid (batch_at bytes)
unfolding batch_at
none_after bytes moment rest e none b after whole valid =
    let p = bind_some (eight_at bytes >>= λ (m : ℕ × List ℕ). operations_at m.1 >>= λ (es : List Entry × List ℕ). Some ((m.0, es.0), es.1))
    (λ (p : (ℕ × List Entry) × List ℕ). Some (made_batch p.0, p.1)) (b, after) whole in
    let m = bind_some (eight_at bytes) (λ (m : ℕ × List ℕ). operations_at m.1 >>= λ (es : List Entry × List ℕ). Some ((m.0, es.0), es.1)) p.0 p.1 in
    let es = bind_some (operations_at m.0.1) (λ (es : List Entry × List ℕ). Some ((m.0.0, es.0), es.1)) p.0 m.2 in
    let same : m.0.1 ≡ rest = ap (λ (q : ℕ × List ℕ). q.1) (some_is m.0 (moment, rest) (sym m.1 ∙ e)) in
    let read : operations_at rest ≡ Some es.0 = ap operations_at (sym same) ∙ es.1 in
    let entries : es.0.0 ≡ b.entries = ap (λ (q : (ℕ × List Entry) × List ℕ). q.0.1) (some_is ((m.0.0, es.0.0), es.0.1) p.0 es.2)
    ∙ ap (λ (q : Batch × List ℕ). q.0.entries) (some_is (made_batch p.0.0, p.0.1) (b, after) p.2) in
    none es.0.0 es.0.1 read (subst (AllByRecursion HasValidTexts) (sym entries) valid)

pub front_none : (bytes : List ℕ) (moment : ℕ) (rest : List ℕ) (why : ReadFault) → eight_at bytes ≡ Some (moment, rest)
    → Blames (HasNone (AllByRecursion HasValidTexts) (operations_at rest)) why → Blames (HasNone HasValid (batch_at bytes)) why
front_none bytes moment rest fault.NoMemory e none = tt
front_none bytes moment rest fault.NotSpelled e none = none_after bytes moment rest e none

-- ---- from the first bytes to the whole

pub operation_change : (bytes : List ℕ) (kind : ℕ) (rest : List ℕ) → byte_at bytes ≡ Some (kind, rest) → kind ≤ 13 → operation_at bytes ≡ made_at control change_at bytes
unfolding operation_at
operation_change bytes kind rest e le =
    let t : leb kind 13 ≡ true = grind (arith, nat_tests) in
    rw (e, t) refl

pub operation_other : (bytes : List ℕ) (kind : ℕ) (rest : List ℕ) → byte_at bytes ≡ Some (kind, rest) → 13 < kind → operation_at bytes ≡ other_at kind rest
unfolding operation_at
operation_other bytes kind rest e lt =
    let t : leb kind 13 ≡ false = grind (arith, nat_tests) in
    rw (e, t) refl

no_operation : (bytes : List ℕ) → byte_at bytes ≡ None → operation_at bytes ≡ None
unfolding operation_at
no_operation bytes e = rw e refl

pub operation_missing : (bytes : List ℕ) (why : ReadFault) → Blames (byte_at bytes ≡ None) why → Blames (operation_at bytes ≡ None) why
operation_missing bytes why h = blames_so (byte_at bytes ≡ None) (operation_at bytes ≡ None) why (no_operation bytes) h

pub operations_counted : (bytes : List ℕ) (n : ℕ) (rest : List ℕ) → two_at bytes ≡ Some (n, rest) → eqb n 0 ≡ false → operations_at bytes ≡ items_at operation_at n rest
unfolding operations_at
operations_counted bytes n rest e t = rw (e, t) refl

pub no_operations : (bytes : List ℕ) (n : ℕ) (rest : List ℕ) → two_at bytes ≡ Some (n, rest) → eqb n 0 ≡ true → operations_at bytes ≡ None
unfolding operations_at
no_operations bytes n rest e t = rw (e, t) refl

no_count : (bytes : List ℕ) → two_at bytes ≡ None → operations_at bytes ≡ None
unfolding operations_at
no_count bytes e = rw e refl

pub count_missing : (bytes : List ℕ) (why : ReadFault) → Blames (two_at bytes ≡ None) why → Blames (operations_at bytes ≡ None) why
count_missing bytes why h = blames_so (two_at bytes ≡ None) (operations_at bytes ≡ None) why (no_count bytes) h

pub front_found : (bytes : List ℕ) (moment : ℕ) (rest : List ℕ) (entries : List Entry) (after : List ℕ) → eight_at bytes ≡ Some (moment, rest)
    → operations_at rest ≡ Some (entries, after) → batch_at bytes ≡ Some (made_batch (moment, entries), after)
unfolding batch_at
front_found bytes moment rest entries after e f = rw (e, f) refl

no_moment : (bytes : List ℕ) → eight_at bytes ≡ None → batch_at bytes ≡ None
unfolding batch_at
no_moment bytes e = rw e refl

pub moment_missing : (bytes : List ℕ) (why : ReadFault) → Blames (eight_at bytes ≡ None) why → Blames (batch_at bytes ≡ None) why
moment_missing bytes why h = blames_so (eight_at bytes ≡ None) (batch_at bytes ≡ None) why (no_moment bytes) h

pub blamed : (reason : Type 0) (why : ReadFault) → why ≡ fault.NotSpelled → Blames reason why → reason
blamed reason why e h = subst (Blames reason) e h
