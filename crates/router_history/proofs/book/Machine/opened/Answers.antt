use Rattle.std.proofs.Common.{refl}
use Rattle.std.specs.Option.{option_map}
use Rattle.duty_journal.specs.Recovery.{batches_found}
use Rattle.router_history.specs.Book.{opened_of}
use Rattle.router_history.proofs.OpenLemmas.{opened_turns, opened_unmade, opened_machine}
use Rattle.router_history.proofs.book.Machine.opened.Goals as goal

pub returns-clause-opened : goal.returns-clause-opened
returns-clause-opened c =
    opened_turns _ _ (batches_found c.args.found) (option_map opened_of c.args.disk) c.new-history.ensures.turns c.push.ensures.turns

pub returns-clause-unmade : goal.returns-clause-unmade
returns-clause-unmade c = λ n. opened_unmade _ _ _ _ _ _ n c.new-history.ensures.recorded c.push.ensures.recorded

pub returns-clause-kept : goal.returns-clause-kept
returns-clause-kept c =
    opened_machine _ c.args.found c.args.disk
    (opened_turns _ _ (batches_found c.args.found) (option_map opened_of c.args.disk) c.new-history.ensures.turns c.push.ensures.turns) refl
    c.requires.found c.requires.none_found
