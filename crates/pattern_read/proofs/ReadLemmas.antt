-- What the last step of reading gives, as the public clauses say it: `read_only`, `read_refused`, `read_sound`.
use Rattle.std.proofs.Common.{◌≡◌, ℕ, ◌≤◌, true, List, [], length, Ok, Err, Result, None, inl, inr, MatchResult, codes, refl, sym, ap, subst, arith}
use Rattle.std.specs.Prelude.{IfOk, IfErr}
use Rattle.json_text.specs.Tree.{Tree}
use Rattle.json_text.specs.Node.{Node, value_of, first_repeat}
use Rattle.json_text.specs.Grammar.{IsText}
use Rattle.json_text.specs.Compact.{IsValue}
use Rattle.pattern_meaning.specs.Pattern.{Pattern, IsPattern, LacksRoot}
use Rattle.pattern_meaning.specs.PatternView.{pattern_of}
use Rattle.pattern_meaning.specs.Alternatives.{alternative_count}
use Rattle.pattern_meaning.specs.declared.pattern.Pattern.{Pattern as CodePattern}
use Rattle.pattern_read.specs.Value.{IsPatternOf}
use Rattle.pattern_read.specs.Check.{IsFirst, pattern_checks}
use Rattle.pattern_read.specs.Refusal.{IsRefused, at_place, too_many, IsFault}
use Rattle.pattern_read.specs.Reading.{IsRead}
use Rattle.pattern_read.specs.declared.fault.PatternFault.{PatternFault}
use Rattle.pattern_read.specs.declared.fault.PatternFault.TheVariants as pattern_fault
use Rattle.pattern_read.proofs.CheckLemmas.{none_first}
use Rattle.pattern_read.proofs.PassLemmas.{pattern_passes}
use Rattle.pattern_read.proofs.OneLemmas.{one_pattern_of}
use Rattle.pattern_read.proofs.SoundLemmas.{pattern_sound}

pub read_only : (t : Tree) (r : Result CodePattern PatternFault) (p : Pattern) → IsPatternOf true t p → alternative_count p ≤ 1000 → IsRead t r
    → MatchResult r (λ q. pattern_of q ≡ p) (λ e. e ≡ pattern_fault.NoMemory)
read_only t (Ok q) p is few h = one_pattern_of true t (pattern_of q) p h.0 is
read_only t (Err (pattern_fault.Refused why path)) p is few h = elim h [
  | inl first ↦ absurd (none_first (pattern_checks true t) first.0 why (pattern_passes true t p is) first.1)
  | inr many ↦
      let same : p ≡ many.0 = one_pattern_of true t p many.0 is many.1 in
      absurd (omega (arith, few, many.2, ap alternative_count same))
]
read_only t (Err pattern_fault.NoMemory) p is few h = refl

pub read_refused : (bytes : List ℕ) (node : Node) (t : Tree) (r : Result CodePattern PatternFault) → length bytes ≤ 4096 → IsText 100 bytes node
    → first_repeat node ≡ None → t ≡ value_of node → IsRead t r → IfErr r (IsFault bytes)
read_refused bytes node t (Ok q) short spelled once is h = tt
read_refused bytes node t (Err (pattern_fault.Refused why path)) short spelled once is h = elim h [
  | inl first ↦ (
    first.0,
    at_place node why first.0 short spelled once (subst (λ x. IsFirst (pattern_checks true x) first.0 why) is first.1),
    first.2,
  )
  | inr many ↦ (
    [],
    subst (λ w. IsRefused bytes w []) (sym many.3) (too_many node many.0 short spelled once (subst (λ x. IsPatternOf true x many.0) is many.1) many.2),
    many.4,
  )
]
read_refused bytes node t (Err pattern_fault.NoMemory) short spelled once is h = tt

pub read_sound : (t : Tree) (r : Result CodePattern PatternFault) → IsValue t → IsRead t r
    → IfOk r (λ p. IsPattern (pattern_of p)) × IfOk r (λ p. LacksRoot (codes "id") (pattern_of p))
read_sound t (Ok p) value h = let s = pattern_sound true t (pattern_of p) value h.0 in (s.0, s.1 refl)
read_sound t (Err e) value h = (tt, tt)
