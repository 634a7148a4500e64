use Rattle.std.proofs.Common.{Some, ap, sym, arith}
use Rattle.numeric_keys.proofs.PowerLemmas.{no_size_but_zero, none_below, some_moved, every_moved}
use Rattle.numeric_keys.proofs.significand.Significand.moved.Goals as goal

pub returns-then-self-eq0-clause-every : goal.returns-then-self-eq0-clause-every
returns-then-self-eq0-clause-every c size within e =
    ap Some (sym (no_size_but_zero c.args.self.digits c.args.self.zeros c.args.up size c.args.down c.if-self-eq0.true e))

pub returns-then-up-down-clause-every : goal.returns-then-up-down-clause-every
returns-then-up-down-clause-every c size within e =
    none_below c.args.self.digits c.args.self.zeros c.args.up c.args.down size
    (c.requires.trimmed.last (omega arith)) c.if-up-down.true e

pub returns-clause-some : goal.returns-clause-some
returns-clause-some c =
    some_moved c.args.self.digits c.args.self.zeros c.args.up c.args.down c.scaled.result c.if-up-down.false c.scaled.ensures.some

pub returns-clause-every : goal.returns-clause-every
returns-clause-every c size within e =
    every_moved c.args.self.digits c.args.self.zeros c.args.up c.args.down size c.scaled.result c.if-up-down.false
    within c.scaled.ensures.some c.scaled.ensures.none e
