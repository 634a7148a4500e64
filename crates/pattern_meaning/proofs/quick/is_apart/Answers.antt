use Rattle.std.proofs.Common.{inr, sym, ◌∙◌}
use Rattle.pattern_meaning.proofs.AbsentLemmas.{is_false}
use Rattle.pattern_meaning.proofs.QuickLemmas.{lacks}
use Rattle.pattern_meaning.proofs.quick.is_apart.Goals as goal

pub returns-in-None : goal.returns-in-None
returns-in-None c h = inr (lacks c.args.key.now c.args.rest.now (sym c.has_field.ensures ∙ is_false c.has_field.result h))
