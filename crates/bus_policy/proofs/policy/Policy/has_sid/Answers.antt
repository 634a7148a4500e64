use Rattle.std.proofs.Common.{ap, ◌∙◌}
use Rattle.json_text.specs.View.{trees_of}
use Rattle.bus_policy.specs.Change.{some_has_sid}
use Rattle.bus_policy.proofs.ItemLemmas.{some_sid_items}
use Rattle.bus_policy.proofs.policy.Policy.has_sid.Goals as goal

pub returns : goal.returns
returns c = c.some_has_sid.ensures ∙ some_sid_items c.args.sid.now (trees_of c.statements.result.now) ∙ ap (some_has_sid c.args.sid.now) c.statements.ensures
