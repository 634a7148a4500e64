use Rattle.event_shape.proofs.unnumbered.after_zero.Goals as goal

pub unreachable-requires : goal.unreachable-requires
unreachable-requires c = c.in-None.ensures c.requires.0 c.requires.1
