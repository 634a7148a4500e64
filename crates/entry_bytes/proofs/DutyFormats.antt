-- Duties and outcomes are read as they are spelled.
use Rattle.std.proofs.Common.{◌≡◌, ℕ, List, [], ◌∷◌, ◌++◌, Some, None, eqb, cond, refl, ap, subst, sym, arith}
use Rattle.std.proofs.lemmas.Bool.{eqb-true}
use Rattle.delivery_duties.specs.declared.duty.NewDuty.{NewDuty}
use Rattle.delivery_duties.specs.declared.outcome.Outcome.{Outcome}
use Rattle.delivery_duties.specs.declared.outcome.Outcome.TheVariants.{Accepted, Code, NoAnswer, NoQueue, TooOld}
use Rattle.entry_bytes.specs.Fields.{two_bytes}
use Rattle.entry_bytes.specs.Duty.{duty_bytes, outcome_bytes, IsDuty, IsNamed, IsOutcome}
use Rattle.entry_bytes.specs.Reading.{IsBytes, Takes, IsReadAs, two_at}
use Rattle.entry_bytes.specs.DutyReading.{duty_of, duty_at, uncoded_at, outcome_rows, outcome_at}
use Rattle.entry_bytes.proofs.Formats.{IsBytes-rest, bind_some, some_is, allowed_some, Takes-after, two_format, four_format, text_format, flag_format, pair_format, made_good_format, optional_format, IsRow, row_of, choice_takes, made_again}

with_name : NewDuty → List ℕ → NewDuty
with_name d name = record d { target = record d.target { rule_name = name } }

pub duty_format : IsReadAs duty_bytes duty_at (λ d. IsDuty d × IsNamed d)
unfolding duty_at with_name
duty_format = made_good_format duty_of
    (λ d. (d.target.rule_arn, (d.target.target_id, (d.target.endpoint, (d.text, (d.target.attempts, (d.target.age, (d.target.dead_letter, d.too_long))))))))
    IsNamed (λ p. refl) (λ p. refl) (λ d named. ap (with_name d) (sym named))
    (pair_format text_format (pair_format text_format (pair_format text_format (pair_format text_format
    (pair_format two_format (pair_format four_format (pair_format (optional_format text_format) flag_format)))))))

uncoded_row : (kind : ℕ) (o : Outcome) → outcome_bytes o ≡ kind ∷ two_bytes 0 → IsOutcome o → IsRow outcome_bytes IsOutcome (kind, uncoded_at o)
uncoded_row kind o is ok bytes x rest fits e =
    let code = bind_some (two_at bytes) (λ (c : ℕ × List ℕ). cond (eqb c.0 0) (Some (o, c.1)) None) (x, rest) e in
    let g = allowed_some (eqb code.0.0 0) (Some (o, code.0.1)) (x, rest) code.2 in
    let zero_code : code.0.0 ≡ 0 = eqb-true code.0.0 0 g.0 in
    let first = two_format.takes bytes code.0.0 code.0.1 fits code.1 in
    let front : Takes bytes (two_bytes 0) code.0.1 = subst (λ (n : ℕ). Takes bytes (two_bytes n) code.0.1) zero_code first.0 in
    let whole : Takes (kind ∷ bytes) (outcome_bytes o) code.0.1 = rw is (Takes-after kind bytes (two_bytes 0) code.0.1 front) in
    subst (λ (q : Outcome × List ℕ). Takes (kind ∷ bytes) (outcome_bytes q.0) q.1 × IsOutcome q.0) (some_is (o, code.0.1) (x, rest) g.1) (whole, ok)

uncoded_again : (o : Outcome) (rest : List ℕ) → uncoded_at o (two_bytes 0 ++ rest) ≡ Some (o, rest)
uncoded_again o rest = rw (two_format.again 0 rest (omega arith)) refl

outcome_takes : (bytes : List ℕ) (x : Outcome) (rest : List ℕ) → IsBytes bytes → outcome_at bytes ≡ Some (x, rest) → Takes bytes (outcome_bytes x) rest × IsOutcome x
unfolding outcome_at
outcome_takes [] x rest fits e = absurd cc
outcome_takes (b ∷ bytes) x rest fits e = choice_takes outcome_bytes IsOutcome outcome_rows b bytes x rest (
  uncoded_row 0 Accepted refl tt,
  (
    row_of two_format outcome_bytes IsOutcome 1 Code (λ c. refl) (λ c f. f),
    (
      uncoded_row 2 NoAnswer refl tt,
      (
        uncoded_row 3 NoQueue refl tt,
        (
          uncoded_row 4 TooOld refl tt,
          tt,
        ),
      ),
    ),
  ),
) (IsBytes-rest b bytes fits) e

outcome_again : (x : Outcome) (rest : List ℕ) → IsOutcome x → outcome_at (outcome_bytes x ++ rest) ≡ Some (x, rest)
unfolding outcome_at
outcome_again Accepted rest fits = uncoded_again Accepted rest
outcome_again (Code code) rest fits = made_again two_format Code code rest fits
outcome_again NoAnswer rest fits = uncoded_again NoAnswer rest
outcome_again NoQueue rest fits = uncoded_again NoQueue rest
outcome_again TooOld rest fits = uncoded_again TooOld rest

pub outcome_format : IsReadAs outcome_bytes outcome_at IsOutcome
outcome_format = record { takes = outcome_takes; again = outcome_again }
