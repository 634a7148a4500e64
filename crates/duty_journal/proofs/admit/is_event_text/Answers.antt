use Rattle.std.proofs.Common.{◌↔◌, ℕ, Bool, List, subst}
use Rattle.std.specs.Prelude.{IsTrue}
use Rattle.std.proofs.lemmas.Result.{IfOk-weaker}
use Rattle.event_text.specs.Numbered.{IsNumberedText}
use Rattle.router_core.specs.Admitted.{IsTextAdmitted}
use Rattle.duty_journal.proofs.admit.is_event_text.Goals as goal

admitted : (bytes : List ℕ) → IsNumberedText bytes → IsTextAdmitted bytes
admitted bytes n = record { event = n.0; text = n.1; number = n.2; account = n.3 }

numbered : (bytes : List ℕ) → IsTextAdmitted bytes → IsNumberedText bytes
numbered bytes a = (a.event, a.text, a.number, a.account)

pub returns : goal.returns
returns c =
    let text = c.as_bytes.result.now in
    let same = λ (yes : Bool) (both : IsTrue yes ↔ IsNumberedText text). subst (λ t. IsTrue yes ↔ IsTextAdmitted t) c.as_bytes.ensures.value
    (λ holds. admitted text (both.0 holds), λ a. both.1 (numbered text a)) in
    IfOk-weaker c.is_numbered_text.result (λ yes. IsTrue yes ↔ IsNumberedText text) (λ yes. IsTrue yes ↔ IsTextAdmitted c.args.text.now) same
    c.is_numbered_text.ensures
