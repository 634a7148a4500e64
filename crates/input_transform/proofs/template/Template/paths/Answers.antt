use Rattle.std.proofs.Common.{subst}
use Rattle.input_transform.specs.Stored.{FillToValues}
use Rattle.input_transform.proofs.template.Template.paths.Goals as goal

pub returns-clause-fill : goal.returns-clause-fill
returns-clause-fill c = subst FillToValues c.self.view_is c.self.invariant
