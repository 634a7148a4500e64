use Rattle.std.proofs.Common.{◌≡◌, ◌∙◌, Some, List, ℕ, ap, sym, arith, slice_get, map}
use Rattle.std.proofs.lemmas.Result.{IfOk-weaker}
use Rattle.drill_requests.specs.Messages as messages
use Rattle.drill_requests.proofs.PlaceLemmas.{numbered_at}
use Rattle.drill_requests.proofs.operations.put_targets.Goals as goal

pub returns-then-place-lt-NUMBERED : goal.returns-then-place-lt-NUMBERED
returns-then-place-lt-NUMBERED c =
    IfOk-weaker c.put_numbered_targets.result _ _ (λ bytes is. numbered_at messages.put_targets c.args.place c.if-place-lt-NUMBERED.true ∙ ap Some (sym is))
    c.put_numbered_targets.ensures

low_at : (place : ℕ) (bytes : List ℕ) → place ≡ 10 → bytes ≡ messages.put_targets messages.low_rule → slice_get (map messages.put_targets messages.rules) place ≡ Some bytes
unfolding messages.rules
low_at place bytes at is = ap (slice_get (map messages.put_targets messages.rules)) at ∙ ap Some (sym is)

pub returns-else-place-lt-NUMBERED : goal.returns-else-place-lt-NUMBERED
unfolding messages.put_targets
returns-else-place-lt-NUMBERED c =
    let last : c.args.place ≡ 10 = omega arith in
    IfOk-weaker c.message.result _ _ (λ bytes is. low_at c.args.place bytes.items last is) c.message.ensures
