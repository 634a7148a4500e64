-- What attempts do to the link, and what acts do to clock and link.
use Rattle.std.specs.Prelude.{◌≡◌, ◌≤◌, ℕ, List, [], ◌∷◌, ◌++◌}
use Rattle.router_disk.specs.Faults.{Rose}
use Rattle.router_disk.specs.Link.{Exchange}
use Rattle.delivery_duties.specs.declared.outcome.Outcome.{Outcome}
use Rattle.delivery_duties.specs.declared.outcome.Outcome.TheVariants.{Accepted, Code, NoAnswer, TooOld}
use Rattle.courier_run.specs.Claim.{Claim, IsTooOld, IsForQueue, NeedsSend, IsSuccess}
use Rattle.courier_run.specs.Act.{Act, Try, readings_in, tries_in}

-- the duty's endpoint answered its text with this code
abbrev pub exchange_with : Claim → ℕ → Exchange
exchange_with c code = record { endpoint = c.endpoint; text = c.text; code = code }

-- What an attempt did to the link, by its outcome. Too old, or an endpoint that is a queue: nothing. `Accepted`: one exchange of the
-- claim's endpoint and text with a code from 200 to 299. `Code(c)`: one exchange with another code. `NoAnswer`: no exchange, and the count
-- of faults rose. In all other cases the count is as before.
-- Shown by: outside_tests test_courier_run.rt: an_outcome_is_what_the_link_answered.
pub data IsTried (c : Claim) (before : ℕ) : Outcome → List Exchange → ℕ → Type 0 where
  too_old : IsTooOld c → IsTried c before TooOld [] before
  queued : ¬ IsTooOld c → IsForQueue c → IsTried c before Accepted [] before
  success : NeedsSend c → (code : ℕ) → IsSuccess code → IsTried c before Accepted (exchange_with c code ∷ []) before
  refusal : NeedsSend c → (code : ℕ) → ¬ IsSuccess code → IsTried c before (Code code) (exchange_with c code ∷ []) before
  silence : NeedsSend c → (now : ℕ) → before ≤ now → Rose before now → IsTried c before NoAnswer [] now

-- What several attempts did to the link (`IsTried` of each), in order.
-- Shown by: sent_again_after_a_failure.edit.
abbrev pub AreTried : ℕ → List Try → List Exchange → ℕ → Type 0
AreTried before [] answers now = (answers ≡ []) × (now ≡ before)
AreTried before (t ∷ more) answers now = (between : ℕ) × (first rest : List Exchange)
    × IsTried t.claim before t.outcome first between × AreTried between more rest now × (answers ≡ first ++ rest)

-- What is known of a clock and a link: the readings, the exchanges that had an answer, and the link's count of faults.
-- Shown by: as Goes.
pub record Outside : Type 0 where
  pub readings : List ℕ
  pub answered : List Exchange
  pub faults : ℕ

-- The `Outside` with these parts.
-- Shown by: as Goes.
abbrev pub outside : List ℕ → List Exchange → ℕ → Outside
outside readings answered faults = record { readings = readings; answered = answered; faults = faults }

-- These acts are all that the clock and the link did: the clock gave their readings, and the link answered their attempts.
-- Shown by: sent_again_after_a_failure.edit.
pub record Goes {Placed State : Type 0} (acts : List (Act Placed State)) (old new : Outside) : Type 0 where
  pub readings : new.readings ≡ old.readings ++ readings_in acts
  pub answers : List Exchange
  pub answered : new.answered ≡ old.answered ++ answers
  pub tried : AreTried old.faults (tries_in acts) answers new.faults
