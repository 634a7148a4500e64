use Rattle.std.specs.Prelude.{string_bytes}
use Rattle.std.proofs.Common.{◌≡◌, ◌↔◌, ℕ}
use Rattle.std.proofs.lemmas.Result.{IfOk-weaker}
use Rattle.event_time.specs.Time.{IsIso, IsTimeText}
use Rattle.event_time.proofs.ClockLemmas.{iso_inverse}
use Rattle.event_time.proofs.time.iso.Goals as goal

pub returns-clause-value : goal.returns-clause-value
returns-clause-value c = IfOk-weaker c.format.result _ (λ t. IsIso c.args.moment (string_bytes t))
    (λ t is. (c.civil_of-civil.result, c.civil_of-civil.ensures, is)) c.format.ensures.ok

pub returns-clause-inverse : goal.returns-clause-inverse
returns-clause-inverse c = IfOk-weaker c.format.result _ (λ t. (n : ℕ) → IsTimeText (string_bytes t) n ↔ (n ≡ c.args.moment))
    (λ t is. iso_inverse (string_bytes t) c.args.moment (c.civil_of-civil.result, c.civil_of-civil.ensures, is)) c.format.ensures.ok
