-- From what a text spells to what it is: `reported_fault`, `read_stored`, `read_policy`, `one_policy`.
use Rattle.std.proofs.Common.{◌≡◌, ◌≤◌, ℕ, List, length, Some, None, Result, Ok, Err, refl, sym, ap, ◌∙◌, subst, inl}
use Rattle.std.specs.Prelude.{IfOk, IfErr, MatchResult}
use Rattle.json_text.specs.Tree.{Tree}
use Rattle.json_text.specs.Node.{Node, first_repeat, value_of}
use Rattle.json_text.specs.Grammar.{IsText}
use Rattle.json_text.specs.Faults.{FailsAt, OpensTooMany}
use Rattle.json_text.specs.Compact.{IsValue}
use Rattle.json_text.proofs.OneValue.{one_value}
use Rattle.json_text.specs.declared.fault.JsonFault.{JsonFault}
use Rattle.json_text.specs.declared.fault.JsonFault.TheVariants as json
use Rattle.bus_policy.specs.declared.fault.PolicyFault.TheVariants.{Bad, NoMemory}
use Rattle.bus_policy.specs.declared.fault.PolicyFault.{PolicyFault}
use Rattle.bus_policy.specs.Grammar.{IsPolicy, fault_of}
use Rattle.bus_policy.specs.Stored.{stored_of, IsStored}
use Rattle.bus_policy.specs.Text.{Spells, IsPolicyText}
use Rattle.bus_policy.specs.Fault.{IsPolicyFaultOf, IsFirstFaultOrMemory, IsValueFault}
use Rattle.bus_policy.proofs.StoredLemmas.{stored_is_stored}

pub reported_fault : (bytes : List ℕ) (f : JsonFault) (e : PolicyFault) → length bytes ≤ 10240
    → ((at : ℕ) → f ≡ json.NotJson at → FailsAt 100 bytes at × ¬ (OpensTooMany 100 bytes at))
    → ((at : ℕ) → f ≡ json.TooDeep at → FailsAt 100 bytes at × OpensTooMany 100 bytes at)
    → ((at : ℕ) → f ≡ json.KeyTwice at → (n : Node) × IsText 100 bytes n × (first_repeat n ≡ Some at))
    → IsPolicyFaultOf f e → IsFirstFaultOrMemory bytes e
reported_fault bytes (json.NotJson at) e short none deep twice h =
    subst (IsFirstFaultOrMemory bytes) (sym h) (inl ((short, (at, (none at refl).0, (none at refl).1)), refl))
reported_fault bytes (json.TooDeep at) e short none deep twice h =
    subst (IsFirstFaultOrMemory bytes) (sym h) (inl ((short, (at, (deep at refl).0, (deep at refl).1)), refl))
reported_fault bytes (json.KeyTwice at) e short none deep twice h =
    let t = twice at refl in
    subst (IsFirstFaultOrMemory bytes) (sym h) (inl ((short, (t.0, at, t.1, t.2)), refl))
reported_fault bytes json.NoMemory e short none deep twice h = subst (IsFirstFaultOrMemory bytes) (sym h) tt

pub read_stored : (value stored : Tree) → IsValue value → fault_of value ≡ None → stored ≡ stored_of value → IsStored stored
read_stored value stored v f k = subst IsStored (sym k) (stored_is_stored value f v)

only_memory : (value : Tree) (e : PolicyFault) → fault_of value ≡ None → IsValueFault value e → e ≡ NoMemory
only_memory value (Bad cause place) none h = absurd (cc (none, h))
only_memory value NoMemory none h = refl

-- what is made of the one value that the text spells
pub read_policy : (bytes : List ℕ) (value policy : Tree) (r : Result Tree PolicyFault) → ((v : Tree) → length bytes ≤ 10240 → Spells bytes v → value ≡ v)
    → IfOk r (λ p. IsPolicy value × (p ≡ stored_of value)) → IfErr r (IsValueFault value)
    → IsPolicyText bytes policy → MatchResult r (λ p. p ≡ policy) (λ e. e ≡ NoMemory)
read_policy bytes value policy (Ok seen) only ok err p = ok.1 ∙ ap stored_of (only p.value p.spelled.short p.spelled.spelled) ∙ sym p.is_stored
read_policy bytes value policy (Err e) only ok err p =
    only_memory value e (ap fault_of (only p.value p.spelled.short p.spelled.spelled) ∙ p.spelled.is_policy) err

-- a text spells one value, of which one policy is stored
pub one_policy : (t : List ℕ) (a b : Tree) → IsPolicyText t a → IsPolicyText t b → a ≡ b
one_policy t a b p q =
    let same : p.value ≡ q.value =
    sym p.spelled.spelled.stands_for ∙ ap value_of (one_value 100 100 t p.spelled.spelled.node q.spelled.spelled.node
    p.spelled.spelled.spelled q.spelled.spelled.spelled) ∙ q.spelled.spelled.stands_for in
    p.is_stored ∙ ap stored_of same ∙ sym q.is_stored
