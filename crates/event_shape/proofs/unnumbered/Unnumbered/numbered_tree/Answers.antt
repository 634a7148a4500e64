use Rattle.std.proofs.Common.{◌∙◌, None, sym, subst}
use Rattle.json_text.specs.Compact.{IsValue}
use Rattle.event_shape.specs.Unnumbered.{with_number}
use Rattle.event_shape.proofs.UnnumberedLemmas.{event_numbered}
use Rattle.event_shape.proofs.ValidLemmas.{event_value}
use Rattle.event_shape.proofs.unnumbered.Unnumbered.numbered_tree.Goals as goal

pub with_id-requires : goal.with_id-requires
with_id-requires c = (c.self.inside.event.value, c.in_ok-tree.ensures ∙ c.self.invariant.tree)

pub returns-clause-tree : goal.returns-clause-tree
returns-clause-tree c =
    let e = c.self.inside.event.value in
    rw (← c.self.view_is) (c.with_id.ensures e c.args.number (c.in_ok-tree.ensures ∙ c.self.invariant.tree) c.in_ok-id.ensures)

pub returns-clause-value : goal.returns-clause-value
returns-clause-value c =
    let e = c.self.inside.event.value in
    let n = c.args.number in
    subst IsValue (sym (c.with_id.ensures e n (c.in_ok-tree.ensures ∙ c.self.invariant.tree) c.in_ok-id.ensures))
    (event_value (with_number n e) None (event_numbered e c.self.inside.moment n c.ranges.number.fits c.self.invariant.event) tt)
