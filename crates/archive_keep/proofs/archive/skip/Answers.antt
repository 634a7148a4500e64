use Rattle.std.proofs.Common.{◌≡◌, ℕ, ◌+◌, ◌<◌, List, [], ◌∷◌, length, drop, Option, Some, None, sym, ap, ◌∙◌, arith, length-drop}
use Rattle.std.specs.Option.{MatchOption}
use Rattle.archive_keep.proofs.KeptLemmas.{left_more}
use Rattle.archive_keep.proofs.archive.skip.Goals as goal

skipped : {B X : Type 0} (v : B → X) (r : Option B) (events left new : List X) (i : ℕ) → left ≡ drop i events → i < length events
    → MatchOption r ((left ≡ []) × (new ≡ [])) (λ x. left ≡ v x ∷ new) → new ≡ drop (i + 1) events
skipped {B} {X} v None events left new i is within step =
    absurd (omega (arith, within, length-drop i events, ap (length {A = X}) (sym is ∙ step.0)))
skipped v (Some x) events left new i is within step = sym (left_more events new i (v x) (sym is ∙ step)).0

pub loop-preserved : goal.loop-preserved
loop-preserved c =
    let within : c.loop.counter < length c.args.events.now = omega (arith, c.loop-test.true, c.requires) in
    skipped (λ b. b.now) c.next.result c.args.events.now c.loop.left c.next.new.self c.loop.counter c.loop.invariant within c.next.ensures.steps
