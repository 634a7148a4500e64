-- A target that is asked for as it is put is put as it is: `put_asked`. One without a fault is asked for as it was: `asked_put`. The input
-- of a target is valid if what was read of it is: `put_valid`.
use Rattle.std.proofs.Common.{◌≡◌, ◌&&◌, ◌||◌, ℕ, Bool, true, false, is_some, Option, Some, None, unwrap_or, refl, sym, ap, ◌∙◌}
use Rattle.std.specs.Option.{option_map}
use Rattle.std.proofs.lemmas.Bool.{false≢true}
use Rattle.event_shape.specs.Names.{is_short_name}
use Rattle.rule_targets.specs.declared.given.GivenInput.{GivenInput}
use Rattle.rule_targets.specs.declared.given.GivenInput.TheVariants as given
use Rattle.rule_targets.specs.declared.target.AskedInput.{AskedInput}
use Rattle.rule_targets.specs.declared.target.AskedInput.TheVariants as asked
use Rattle.rule_targets.specs.declared.target.AskedRetry.{AskedRetry}
use Rattle.rule_targets.specs.declared.target.AskedTarget.{AskedTarget}
use Rattle.rule_targets.specs.declared.target.RetryPolicy.{RetryPolicy}
use Rattle.rule_targets.specs.declared.target.Target.{Target}
use Rattle.rule_targets.specs.Input.{IsNoneOrValid}
use Rattle.rule_targets.specs.Retry.{are_attempts_valid, is_age_valid, is_retry_valid}
use Rattle.rule_targets.specs.Target.{asked_retry, put_retry, asked_input, asked_path, asked_transformer, first_read, put_input, asked_of, put_as, IsValidRead, HasValidReads}
use Rattle.rule_targets.specs.Checks.{is_target_arn, may_be_input, may_be_path, may_be_transformer, member_fault, is_given, has_two_inputs}
use Rattle.rule_targets.proofs.CheckLemmas.{kept}

retry_again : (retry : Option RetryPolicy) → option_map put_retry (option_map asked_retry retry) ≡ retry
retry_again None = refl
retry_again (Some policy) = refl

input_again : (input : Option GivenInput)
    → first_read (asked_input input) (first_read (asked_path input) (first_read (asked_transformer input) None)) ≡ input
input_again None = refl
input_again (Some (given.Input t)) = refl
input_again (Some (given.InputPath t)) = refl
input_again (Some (given.InputTransformer t)) = refl

pub put_asked : (target : Target) → put_as (asked_of target) ≡ target
put_asked target =
    ap (λ input. record target { input = input; retry = option_map put_retry (option_map asked_retry target.retry) }) (input_again target.input)
    ∙ ap (λ retry. record target { retry = retry }) (retry_again target.retry)

-- a number that is given
number_given : (n : Option ℕ) (default : ℕ) → is_some n ≡ true → Some (unwrap_or n default) ≡ n
number_given None default never = absurd (false≢true never)
number_given (Some n) default there = refl

attempts_given : (n : Option ℕ) → are_attempts_valid n ≡ true → is_some n ≡ true
attempts_given None never = never
attempts_given (Some n) valid = refl

age_given : (n : Option ℕ) → is_age_valid n ≡ true → is_some n ≡ true
age_given None never = never
age_given (Some n) valid = refl

both_true : (a b : Bool) → (a && b) ≡ true → (a ≡ true) × (b ≡ true)
both_true true b e = (refl, e)
both_true false b e = absurd (false≢true e)

retry_same : (retry : Option AskedRetry) → is_retry_valid retry ≡ true → option_map asked_retry (option_map put_retry retry) ≡ retry
retry_same None valid = refl
retry_same (Some retry) valid =
    let both = both_true (are_attempts_valid retry.attempts) (is_age_valid retry.age) valid in
    let made : Option ℕ → Option ℕ → Option AskedRetry = λ n m. Some (record { attempts = n; age = m }) in
    ap (λ n. made n (Some (unwrap_or retry.age 86400))) (number_given retry.attempts 185 (attempts_given retry.attempts both.0))
    ∙ ap (made retry.attempts) (number_given retry.age 86400 (age_given retry.age both.1))

none_given : (member : AskedInput) → is_given member ≡ false → member ≡ asked.Absent
none_given asked.Absent e = refl
none_given asked.NotValid e = absurd (false≢true (sym e))
none_given (asked.Read g) e = absurd (false≢true (sym e))

neither : (b c : AskedInput) → (is_given b || is_given c) ≡ false → (b ≡ asked.Absent) × (c ≡ asked.Absent)
neither asked.Absent c e = (refl, none_given c e)
neither asked.NotValid c e = absurd (false≢true (sym e))
neither (asked.Read g) c e = absurd (false≢true (sym e))

left_false : (x y : Bool) → (x || y) ≡ false → x ≡ false
left_false true y e = e
left_false false y e = refl

-- the members are those of a request that asks for the input that they give
record AreSame (a b c : AskedInput) : Type 0 where
  input : asked_input (first_read a (first_read b (first_read c None))) ≡ a
  path : asked_path (first_read a (first_read b (first_read c None))) ≡ b
  transformer : asked_transformer (first_read a (first_read b (first_read c None))) ≡ c

same_last : (c : AskedInput) → may_be_transformer c ≡ true → AreSame asked.Absent asked.Absent c
same_last asked.Absent valid = record { input = refl; path = refl; transformer = refl }
same_last asked.NotValid valid = absurd (false≢true valid)
same_last (asked.Read (given.Input t)) valid = absurd (false≢true valid)
same_last (asked.Read (given.InputPath t)) valid = absurd (false≢true valid)
same_last (asked.Read (given.InputTransformer t)) valid = record { input = refl; path = refl; transformer = refl }

same_later : (b c : AskedInput) → may_be_path b ≡ true → may_be_transformer c ≡ true → (is_given b && is_given c) ≡ false → AreSame asked.Absent b c
same_later asked.Absent c valid last e = same_last c last
same_later asked.NotValid c valid last e = absurd (false≢true valid)
same_later (asked.Read (given.Input t)) c valid last e = absurd (false≢true valid)
same_later (asked.Read (given.InputPath t)) c valid last e = record { input = refl; path = refl; transformer = sym (none_given c e) }
same_later (asked.Read (given.InputTransformer t)) c valid last e = absurd (false≢true valid)

same_inputs : (a b c : AskedInput) → may_be_input a ≡ true → may_be_path b ≡ true → may_be_transformer c ≡ true
    → ((is_given a && (is_given b || is_given c)) || (is_given b && is_given c)) ≡ false → AreSame a b c
same_inputs asked.Absent b c valid path last e = same_later b c path last e
same_inputs asked.NotValid b c valid path last e = absurd (false≢true valid)
same_inputs (asked.Read (given.Input t)) b c valid path last e =
    let absent = neither b c (left_false (is_given b || is_given c) (is_given b && is_given c) e) in
    record { input = refl; path = sym absent.0; transformer = sym absent.1 }
same_inputs (asked.Read (given.InputPath t)) b c valid path last e = absurd (false≢true valid)
same_inputs (asked.Read (given.InputTransformer t)) b c valid path last e = absurd (false≢true valid)

pub asked_put : (target : AskedTarget) → member_fault target ≡ None → has_two_inputs target ≡ false → asked_of (put_as target) ≡ target
asked_put target none one =
    let after_id = kept (is_short_name target.id) _ _ none in
    let after_arn = kept (is_target_arn target.arn) _ _ after_id.1 in
    let input = kept (may_be_input target.input) _ _ after_arn.1 in
    let path = kept (may_be_path target.input_path) _ _ input.1 in
    let transformer = kept (may_be_transformer target.transformer) _ _ path.1 in
    let valid = (kept (is_retry_valid target.retry) _ _ transformer.1).0 in
    let same = same_inputs target.input target.input_path target.transformer input.0 path.0 transformer.0 one in
    let made : AskedInput → AskedInput → AskedInput → Option AskedRetry → AskedTarget =
    λ a b c retry. record target { input = a; input_path = b; transformer = c; retry = retry } in
    let put = put_input target in
    let again = option_map asked_retry (option_map put_retry target.retry) in
    ap (λ a. made a (asked_path put) (asked_transformer put) again) same.input
    ∙ ap (λ b. made target.input b (asked_transformer put) again) same.path
    ∙ ap (λ c. made target.input target.input_path c again) same.transformer
    ∙ ap (made target.input target.input_path target.transformer) (retry_same target.retry valid)

first_valid : (member : AskedInput) (other : Option GivenInput) → IsValidRead member → IsNoneOrValid other → IsNoneOrValid (first_read member other)
first_valid asked.Absent other valid also = also
first_valid asked.NotValid other valid also = also
first_valid (asked.Read input) other valid also = valid

pub put_valid : (target : AskedTarget) → HasValidReads target → IsNoneOrValid (put_as target).input
put_valid target valid =
    first_valid target.input _ valid.input
    (first_valid target.input_path _ valid.input_path (first_valid target.transformer None valid.transformer tt))
