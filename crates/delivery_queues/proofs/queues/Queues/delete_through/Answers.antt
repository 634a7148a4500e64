use Rattle.std.proofs.Common.{List, sym, subst, ap, ◌∙◌}
use Rattle.name_rows.specs.Rows.{AreSorted}
use Rattle.name_rows.specs.Place.{IsHere, IsBefore}
use Rattle.delivery_queues.specs.declared.stored.StoredMessage.{StoredMessage}
use Rattle.delivery_queues.specs.Queues.{Queue, name_of, is_named, without_through, changed_first, messages_through, messages_of}
use Rattle.delivery_queues.proofs.PlaceLemmas.{first_at, none_named, here_is, set_changed, changed_none, sorted_set, messages_at, has_none, place_within}
use Rattle.delivery_queues.proofs.queues.Queues.delete_through.Goals as goal

pub invariant_of-self : goal.invariant_of-self
invariant_of-self c =
    let rows = c.self.inside.rows.items in
    let here = subst (λ rs. IsHere name_of c.args.name.now rs c.in-Ok.at) c.deref.ensures.value c.in-Ok.ensures in
    let first = first_at c.args.name.now rows c.in-Ok.at here in (
      sorted_set rows c.in-Ok.at c.index_mut.result.now c.delete_through.new.self c.self.invariant.0 (place_within first) c.index_mut.ensures.value
          (ap (λ (m : Queue). m.name) c.delete_through.ensures.left),
      c.self.invariant.1,
    )

pub returns-in-Ok-clause-left : goal.returns-in-Ok-clause-left
returns-in-Ok-clause-left c =
    let rows = c.self.inside.rows.items in
    let here = subst (λ rs. IsHere name_of c.args.name.now rs c.in-Ok.at) c.deref.ensures.value c.in-Ok.ensures in
    let first = first_at c.args.name.now rows c.in-Ok.at here in
    set_changed (is_named c.args.name.now) (without_through c.args.through) rows c.in-Ok.at c.index_mut.result.now c.delete_through.new.self first
    c.index_mut.ensures.value c.delete_through.ensures.left
    ∙ ap (changed_first (is_named c.args.name.now) (without_through c.args.through)) c.self.view_is

pub returns-in-Ok-clause-deleted : goal.returns-in-Ok-clause-deleted
returns-in-Ok-clause-deleted c =
    let rows = c.self.inside.rows.items in
    let here = subst (λ rs. IsHere name_of c.args.name.now rs c.in-Ok.at) c.deref.ensures.value c.in-Ok.ensures in
    let first = first_at c.args.name.now rows c.in-Ok.at here in
    let through : List StoredMessage → List StoredMessage = messages_through c.args.through in
    c.delete_through.ensures.deleted ∙ ap (λ (m : Queue). through m.messages) (here_is c.index_mut.result.now first c.index_mut.ensures.value)
    ∙ ap through (sym (messages_at c.args.name.now rows c.in-Ok.at first)) ∙ ap (λ rs. through (messages_of c.args.name.now rs)) c.self.view_is

pub returns-in-Err-clause-left : goal.returns-in-Err-clause-left
returns-in-Err-clause-left c =
    let before = subst (λ rs. IsBefore name_of c.args.name.now rs c.in-Err.field-0) (c.deref.ensures.value ∙ c.self.view_is) c.in-Err.ensures in
    let none = none_named c.args.name.now c.args.self.now c.in-Err.field-0 (subst (AreSorted name_of) c.self.view_is c.self.invariant.0) before in
    sym (changed_none (is_named c.args.name.now) (without_through c.args.through) c.args.self.now none)

pub returns-in-Err-clause-deleted : goal.returns-in-Err-clause-deleted
returns-in-Err-clause-deleted c =
    let before = subst (λ rs. IsBefore name_of c.args.name.now rs c.in-Err.field-0) (c.deref.ensures.value ∙ c.self.view_is) c.in-Err.ensures in
    has_none c.args.name.now c.args.self.now
    (none_named c.args.name.now c.args.self.now c.in-Err.field-0 (subst (AreSorted name_of) c.self.view_is c.self.invariant.0) before)
