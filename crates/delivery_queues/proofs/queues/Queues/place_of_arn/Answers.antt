use Rattle.std.proofs.Common.{subst, ◌∙◌}
use Rattle.name_rows.specs.Rows.{AreSorted}
use Rattle.name_rows.specs.Place.{IsHere, IsBefore}
use Rattle.delivery_queues.specs.Queues.{name_of}
use Rattle.delivery_queues.proofs.PlaceLemmas.{first_at, none_named, arn_first, none_with_arn, no_arn}
use Rattle.delivery_queues.proofs.queues.Queues.place_of_arn.Goals as goal

pub returns-in-Ok : goal.returns-in-Ok
returns-in-Ok c =
    let rows = c.args.self.now in
    let name = c.in-Some.name.now in
    let here = subst (λ rs. IsHere name_of name rs c.in-Ok.at) (c.deref.ensures.value ∙ c.self.view_is) c.in-Ok.ensures in
    arn_first c.args.arn.now name rows c.in-Ok.at c.in-Some.ensures (first_at name rows c.in-Ok.at here)

pub returns-in-Err : goal.returns-in-Err
returns-in-Err c =
    let rows = c.args.self.now in
    let name = c.in-Some.name.now in
    let before = subst (λ rs. IsBefore name_of name rs c.in-Err.field-0) (c.deref.ensures.value ∙ c.self.view_is) c.in-Err.ensures in
    none_with_arn c.args.arn.now name rows c.in-Some.ensures
    (none_named name rows c.in-Err.field-0 (subst (AreSorted name_of) c.self.view_is c.self.invariant.0) before)

pub returns-in-None : goal.returns-in-None
returns-in-None c = no_arn c.args.arn.now c.args.self.now c.in-None.ensures
