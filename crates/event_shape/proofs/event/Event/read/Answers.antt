use Rattle.std.proofs.Common.{◌≡◌, ◌∙◌, Some, None, sym}
use Rattle.json_text.specs.View.{tree_of}
use Rattle.event_shape.proofs.PartLemmas.{read_as, found_as, only_as, none_as}
use Rattle.event_shape.proofs.event.Event.read.Goals as goal

pub returns-in-Some-clause-found : goal.returns-in-Some-clause-found
returns-in-Some-clause-found c =
    found_as c.args.text.now c.in-Some.event c.if_written_as.result c.if_written_as.ensures
    (λ e p. sym c.in-Some.is ∙ read_as c.args.text.now (tree_of c.in-Ok.json) c.in_ok-event-in-Ok.field-0 c.in-Ok.ensures.only c.in_ok-event-in-Ok.ensures e p)

pub returns-in-Some-clause-only : goal.returns-in-Some-clause-only
returns-in-Some-clause-only c =
    only_as c.args.text.now c.if_written_as.result (found_as c.args.text.now c.in-Some.event c.if_written_as.result c.if_written_as.ensures
    (λ e p. sym c.in-Some.is ∙ read_as c.args.text.now (tree_of c.in-Ok.json) c.in_ok-event-in-Ok.field-0 c.in-Ok.ensures.only c.in_ok-event-in-Ok.ensures e p))

pub returns-in-None-clause-found : goal.returns-in-None-clause-found
returns-in-None-clause-found c = λ e p.
    let read = read_as c.args.text.now (tree_of c.in-Ok.json) c.in_ok-event-in-Ok.field-0 c.in-Ok.ensures.only c.in_ok-event-in-Ok.ensures e p in
    let none : None ≡ Some e = sym c.in-None.is ∙ read in cc

pub returns-in-None-clause-only : goal.returns-in-None-clause-only
returns-in-None-clause-only c = λ e p.
    sym c.in-None.is ∙ read_as c.args.text.now (tree_of c.in-Ok.json) c.in_ok-event-in-Ok.field-0 c.in-Ok.ensures.only c.in_ok-event-in-Ok.ensures e p

pub returns-in-Err-clause-found : goal.returns-in-Err-clause-found
returns-in-Err-clause-found c = none_as c.args.text.now c.in-Err.fault c.none_unless_memory.result c.none_unless_memory.ensures c.in-Err.ensures.only

pub returns-in-Err-clause-only : goal.returns-in-Err-clause-only
returns-in-Err-clause-only c =
    only_as c.args.text.now c.none_unless_memory.result
    (none_as c.args.text.now c.in-Err.fault c.none_unless_memory.result c.none_unless_memory.ensures c.in-Err.ensures.only)
