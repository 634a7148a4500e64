use Rattle.std.proofs.Common.{refl}
use Rattle.api_members.proofs.check.check_event_text.Goals as goal

pub returns-in-Ok-None : goal.returns-in-Ok-None
returns-in-Ok-None c =
    let none = rw c.in-Ok-None.field-0-is at c.in-Ok-None.ensures.event in
    (refl, λ given. none given.0 given.1)
