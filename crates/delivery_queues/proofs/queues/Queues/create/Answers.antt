use Rattle.std.proofs.Common.{sym, subst, ap, ◌∙◌, arith}
use Rattle.std.specs.List.{insert}
use Rattle.name_rows.specs.Rows.{AreSorted}
use Rattle.name_rows.specs.Place.{IsHere, IsBefore}
use Rattle.delivery_queues.specs.Queues.{name_of}
use Rattle.delivery_queues.proofs.QueueLemmas.{created_before, created_here, sorted_created}
use Rattle.delivery_queues.proofs.queues.Queues.create.Goals as goal

pub invariant_of-self : goal.invariant_of-self
invariant_of-self c =
    let rows = c.self.inside.rows.items in
    let before = subst (λ rs. IsBefore name_of c.name.result.now rs c.in-Err.at) c.deref.ensures.value c.in-Err.ensures in
    let made = created_before c.args.queue c.name.result.now rows c.insert.new.self.items c.in-Err.at c.name.ensures before c.in-Ok-insert.ensures.items in (
      subst (AreSorted name_of) (sym made) (sorted_created c.args.queue c.name.result.now rows c.in-Err.at c.name.ensures before c.self.invariant.0),
      omega (arith, c.insert.ensures.capacity, c.self.invariant.1),
    )

pub returns-in-Ok : goal.returns-in-Ok
returns-in-Ok c =
    created_here c.args.queue c.name.result.now c.args.self.now c.in-Ok.field-0 c.name.ensures
    (subst (λ rs. IsHere name_of c.name.result.now rs c.in-Ok.field-0) (c.deref.ensures.value ∙ c.self.view_is) c.in-Ok.ensures)

pub returns-in-Ok-insert : goal.returns-in-Ok-insert
returns-in-Ok-insert c =
    let before = subst (λ rs. IsBefore name_of c.name.result.now rs c.in-Err.at) (c.deref.ensures.value ∙ c.self.view_is) c.in-Err.ensures in
    created_before c.args.queue c.name.result.now c.args.self.now c.insert.new.self.items c.in-Err.at c.name.ensures before
    (c.in-Ok-insert.ensures.items ∙ ap (λ rs. insert rs c.in-Err.at c.args.queue) c.self.view_is)
