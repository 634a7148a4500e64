use Rattle.resource_calls.proofs.DecidedLemmas.{none_made}
use Rattle.resource_calls.proofs.decided.shown.Goals as goal

pub returns-clause-made : goal.returns-clause-made
returns-clause-made c = λ t moment. none_made t moment (record { entries = c.new.result; parts = c.new-2.result; reply = c.args.reply }) c.new.ensures.items c.new-2.ensures.items
