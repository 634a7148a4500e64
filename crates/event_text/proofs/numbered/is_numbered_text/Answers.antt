use Rattle.std.proofs.Common.{refl}
use Rattle.event_text.proofs.numbered.is_numbered_text.Goals as goal

pub returns-then-is_numbered_in_one_pass : goal.returns-then-is_numbered_in_one_pass
returns-then-is_numbered_in_one_pass c = (λ _. c.is_numbered_in_one_pass.ensures c.if-is_numbered_in_one_pass.true, λ _. refl)
