use Rattle.std.proofs.Common.{None, sym, subst}
use Rattle.json_text.specs.Compact.{IsValue}
use Rattle.event_shape.proofs.ValidLemmas.{event_value}
use Rattle.event_shape.proofs.unnumbered.Unnumbered.tree.Goals as goal

pub returns-clause-value : goal.returns-clause-value
returns-clause-value c =
    subst IsValue (sym c.self.invariant.tree) (event_value c.self.inside.event.value None (c.self.inside.moment, c.self.invariant.event) tt)
