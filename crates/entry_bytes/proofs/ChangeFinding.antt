-- Targets that are put are read after two names: `targets_found`, `targets_refused`, `names_missing`. Other changes are of any text: `kind_else`.
use Rattle.std.proofs.Common.{◌≡◌, ℕ, List, Option, Some, None, false, eqb, refl, sym, ap, subst, ◌∙◌}
use Rattle.std.specs.List.{AllByRecursion}
use Rattle.std.proofs.lemmas.List.Elements.{recursion_from_All}
use Rattle.rule_targets.specs.declared.target.Target.{Target}
use Rattle.rule_table.specs.Control.{Control, targets_put}
use Rattle.rule_table.specs.WellFormed.{HasValidInput, IsSpelled}
use Rattle.entry_bytes.specs.declared.fault.ReadFault.{ReadFault}
use Rattle.entry_bytes.specs.declared.fault.ReadFault.TheVariants as fault
use Rattle.entry_bytes.specs.Reading.{◌>>=◌, Blames, HasNone, pair_at, text_at, list_at}
use Rattle.entry_bytes.specs.ChangeReading.{target_at, targets_put_of, targets_put_at, plain_at, kind_at}
use Rattle.entry_bytes.proofs.Formats.{bind_some, some_is}

abbrev Front : Type 0 → Type 0
Front A = Option (A × List ℕ)

abbrev with_first : {A B : Type 0} → A → B × List ℕ → Front (A × B)
with_first x y = Some ((x, y.0), y.1)

abbrev finished : (List ℕ × (List ℕ × List Target)) × List ℕ → Front Control
finished v = Some (targets_put_of v.0, v.1)

abbrev putting : List ℕ → List ℕ → List Target × List ℕ → Front Control
putting bus rule z = Some (targets_put bus rule z.0, z.1)

abbrev after_both : (List ℕ × List ℕ) × List ℕ → Front Control
after_both p = list_at target_at p.1 >>= putting p.0.0 p.0.1

last_part : (bus rule : List ℕ) (z : Front (List Target)) → (((z >>= with_first rule) >>= with_first bus) >>= finished) ≡ (z >>= putting bus rule)
last_part bus rule (Some z) = refl
last_part bus rule None = refl

abbrev rule_first : List ℕ × List ℕ → Front (List ℕ × List Target)
rule_first y = list_at target_at y.1 >>= with_first y.0

rule_part : (bus : List ℕ) (y : Front (List ℕ)) → (((y >>= rule_first) >>= with_first bus) >>= finished) ≡ ((y >>= with_first bus) >>= after_both)
rule_part bus (Some y) = last_part bus y.0 (list_at target_at y.1)
rule_part bus None = refl

abbrev bus_first : List ℕ × List ℕ → Front (List ℕ × (List ℕ × List Target))
bus_first x = (text_at x.1 >>= rule_first) >>= with_first x.0

abbrev both_names : List ℕ × List ℕ → Front (List ℕ × List ℕ)
both_names x = text_at x.1 >>= with_first x.0

bus_part : (x : Front (List ℕ)) → ((x >>= bus_first) >>= finished) ≡ ((x >>= both_names) >>= after_both)
bus_part (Some x) = rule_part x.0 (text_at x.1)
bus_part None = refl

by_names : (bytes : List ℕ) → targets_put_at bytes ≡ (pair_at text_at text_at bytes >>= after_both)
unfolding targets_put_at
by_names bytes = bus_part (text_at bytes)

pub targets_found : (bytes bus rule rest : List ℕ) (targets : List Target) (after : List ℕ) → pair_at text_at text_at bytes ≡ Some ((bus, rule), rest)
    → list_at target_at rest ≡ Some (targets, after) → targets_put_at bytes ≡ Some (targets_put bus rule targets, after)
targets_found bytes bus rule rest targets after e f = by_names bytes ∙ rw (e, f) refl

after_names : (bytes bus rule rest : List ℕ) → pair_at text_at text_at bytes ≡ Some ((bus, rule), rest)
    → targets_put_at bytes ≡ (list_at target_at rest >>= putting bus rule)
after_names bytes bus rule rest e = by_names bytes ∙ rw e refl

none_after : (bytes bus rule rest : List ℕ) → pair_at text_at text_at bytes ≡ Some ((bus, rule), rest)
    → HasNone (AllByRecursion HasValidInput) (list_at target_at rest) → HasNone IsSpelled (targets_put_at bytes)
none_after bytes bus rule rest e none control after h holds =
    let z = bind_some (list_at target_at rest) (putting bus rule) (control, after) (sym (after_names bytes bus rule rest e) ∙ h) in
    let is : targets_put bus rule z.0.0 ≡ control = ap (λ (p : Control × List ℕ). p.0) (some_is (targets_put bus rule z.0.0, z.0.1) (control, after) z.2) in
    none z.0.0 z.0.1 z.1 (recursion_from_All HasValidInput z.0.0 (subst IsSpelled (sym is) holds))

pub targets_refused : (bytes bus rule rest : List ℕ) (why : ReadFault) → pair_at text_at text_at bytes ≡ Some ((bus, rule), rest)
    → Blames (HasNone (AllByRecursion HasValidInput) (list_at target_at rest)) why → Blames (HasNone IsSpelled (targets_put_at bytes)) why
targets_refused bytes bus rule rest fault.NoMemory e none = tt
targets_refused bytes bus rule rest fault.NotSpelled e none = none_after bytes bus rule rest e none

pub names_missing : (bytes : List ℕ) (why : ReadFault) → Blames (pair_at text_at text_at bytes ≡ None) why → Blames (targets_put_at bytes ≡ None) why
names_missing bytes fault.NoMemory e = tt
names_missing bytes fault.NotSpelled e = by_names bytes ∙ rw e refl

pub kind_else : (k : ℕ) (bytes : List ℕ) → eqb k 3 ≡ false → eqb k 6 ≡ false → eqb k 8 ≡ false → eqb k 11 ≡ false → eqb k 12 ≡ false
    → kind_at k bytes ≡ plain_at k bytes
unfolding kind_at plain_at
kind_else k bytes three six eight eleven twelve = rw (three, six, eight, eleven, twelve) refl
