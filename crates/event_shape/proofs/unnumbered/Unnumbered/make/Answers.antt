use Rattle.std.proofs.Common.{◌∙◌, ap, sym, subst}
use Rattle.json_text.specs.View.{tree_of}
use Rattle.json_text.specs.Compact.{compact_text}
use Rattle.event_time.specs.Time.{IsIso}
use Rattle.event_shape.specs.Unnumbered.{IsOpenAt}
use Rattle.event_shape.proofs.UnnumberedLemmas.{event_at_moment}
use Rattle.event_shape.proofs.unnumbered.Unnumbered.make.Goals as goal

pub invariant_of-result : goal.invariant_of-result
invariant_of-result c =
    let e = c.in_ok-event.event in
    let moment = c.moment-moment.result in
    let is : IsOpenAt moment e (tree_of c.in_ok-tree.tree) c.in_ok-text.text = record {
      event = event_at_moment e moment c.in_ok-event.ensures.event c.moment-moment.ensures.moment
          (subst (λ m. IsIso m e.time) (sym c.moment-moment.ensures.value) c.in_ok-event.ensures.made.time);
      number = c.in_ok-event.ensures.made.number;
      tree = c.in_ok-tree.ensures.tree;
      text = c.in_ok-text.ensures ∙ ap compact_text c.in_ok-tree.ensures.tree;
    } in
    subst (λ v. IsOpenAt moment v (tree_of c.in_ok-tree.tree) c.in_ok-text.text) (sym c.of-given.ensures) is
