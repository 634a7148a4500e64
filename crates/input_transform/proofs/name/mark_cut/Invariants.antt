use Rattle.std.proofs.Common.{◌≡◌, ◌++◌, take, drop}
use Rattle.std.specs.Option.{option_map}
use Rattle.input_transform.specs.Template.{before_mark}
use Rattle.input_transform.proofs.name.mark_cut.Given as goal

abbrev pub invariant-loop-n : goal.invariant-loop-n
invariant-loop-n l = before_mark l.bytes ≡ option_map (λ more. take l.n l.bytes ++ more) (before_mark (drop l.n l.bytes))
