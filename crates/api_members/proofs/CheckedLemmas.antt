-- Entries are checked in one way: `one_checking`, each once: `checked_len`. `check_entries` also cites `checked_more`.
use Rattle.std.proofs.Common.{◌≡◌, ◌⊎◌, inl, inr, ℕ, List, [], ◌∷◌, ◌++◌, length, Ok, Err, sym, refl, ap, ◌∙◌, subst, append_assoc, arith}
use Rattle.std.specs.Prelude.{Result, unwrap_or}
use Rattle.event_shape.specs.Entry.{Entry}
use Rattle.event_shape.specs.Event.{Checked, IsMade}
use Rattle.event_shape.specs.Unnumbered.{Unnumbered}
use Rattle.event_shape.specs.declared.entry.EntryFault.{EntryFault}
use Rattle.event_shape.proofs.CheckedOnce.{checked_once, made_once}
use Rattle.json_text.specs.Checks.{AllHold, IsFirst}
use Rattle.event_shape.specs.Fault.{entry_checks}
use Rattle.api_members.specs.CheckedEntry.{IsChecked, AreChecked}

-- one condition of two lists of conditions that agree
once_more : {F : Type 0} {A R S : Type 0} {x f g : F} → (R → S → f ≡ g) → ((f ≡ x) × (¬ A)) ⊎ (A × R) → ((g ≡ x) × (¬ A)) ⊎ (A × S) → f ≡ g
once_more rest (inl p) (inl q) = p.0 ∙ sym q.0
once_more rest (inl p) (inr q) = absurd (p.1 q.0)
once_more rest (inr p) (inl q) = absurd (q.1 p.0)
once_more rest (inr p) (inr q) = rest p.1 q.1

first_once : (e : Entry) (f g : EntryFault) → IsFirst (entry_checks e) f → IsFirst (entry_checks e) g → f ≡ g
first_once e f g = once_more (once_more (once_more (once_more (once_more (once_more (once_more (λ p q. absurd p)))))))

never_more : {A X H R : Type 0} → (H → R → ⊥) → A × H → (X × (¬ A)) ⊎ (A × R) → ⊥
never_more rest h (inl p) = p.1 h.0
never_more rest h (inr p) = rest h.1 p.1

no_fault : (e : Entry) (f : EntryFault) → AllHold (entry_checks e) → IsFirst (entry_checks e) f → ⊥
no_fault e f = never_more (never_more (never_more (never_more (never_more (never_more (never_more (λ h p. p)))))))

one_entry : (reading : ℕ) (caller : List ℕ) (e : Entry) (a b : Result Unnumbered EntryFault)
    → IsChecked reading caller e a → IsChecked reading caller e b → a ≡ b
one_entry reading caller e (Ok u) (Ok v) p q =
    let same = checked_once e p.0 q.0 p.1 q.1 in
    let made : IsMade p.0 0 reading caller v.event = rw same q.2 in
    let event = made_once p.0 0 reading caller u.event v.event p.2 made in
    let bus : u.bus ≡ v.bus = p.3 ∙ ap (λ (c : Checked). c.bus) same ∙ sym q.3 in
    let moment : u.moment ≡ v.moment = p.4 ∙ ap (λ (c : Checked). unwrap_or c.time reading) same ∙ sym q.4 in
    λ i. Ok (record { bus = bus i; moment = moment i; event = event i })
one_entry reading caller e (Ok u) (Err fault) p q = absurd (no_fault e fault p.1.faultless q)
one_entry reading caller e (Err fault) (Ok v) p q = absurd (no_fault e fault q.1.faultless p)
one_entry reading caller e (Err f) (Err g) p q = ap Err (first_once e f g p q)

pub one_checking : (reading : ℕ) (caller : List ℕ) (es : List Entry) (xs ys : List (Result Unnumbered EntryFault))
    → AreChecked reading caller es xs → AreChecked reading caller es ys → xs ≡ ys
one_checking reading caller [] xs ys p q = p ∙ sym q
one_checking reading caller (e ∷ es) xs ys p q =
    let first = one_entry reading caller e p.0 q.0 p.3 q.3 in
    let others = one_checking reading caller es p.1 q.1 p.4 q.4 in
    p.2 ∙ (λ i. first i ∷ others i) ∙ sym q.2

pub checked_len : (reading : ℕ) (caller : List ℕ) (es : List Entry) (xs : List (Result Unnumbered EntryFault))
    → AreChecked reading caller es xs → length xs ≡ length es
checked_len reading caller [] xs p = ap length p
checked_len reading caller (e ∷ es) xs p = omega (arith, ap length p.2, checked_len reading caller es p.1 p.4)

-- what is read of the entries that are left completes what was read
abbrev pub Completes : ℕ → List ℕ → List Entry → List Entry → List (Result Unnumbered EntryFault) → Type 0
Completes reading caller all left done = (rest : List (Result Unnumbered EntryFault))
    → AreChecked reading caller left rest → AreChecked reading caller all (done ++ rest)

pub checked_more : (reading : ℕ) (caller : List ℕ) (all left : List Entry) (e : Entry) (done : List (Result Unnumbered EntryFault))
    (one : Result Unnumbered EntryFault) → Completes reading caller all (e ∷ left) done → IsChecked reading caller e one
    → Completes reading caller all left (done ++ one ∷ [])
checked_more reading caller all left e done one old is = λ rest p.
    subst (AreChecked reading caller all) (sym (append_assoc done (one ∷ []) rest)) (old (one ∷ rest) (one, rest, refl, is, p))
