use Rattle.router_history.proofs.WrittenLemmas.{book_admitted}
use Rattle.router_history.proofs.FoldLemmas.{folds_book}
use Rattle.session_laws.proofs.laws.batches_are_admitted.Goals as goal

pub returns-clause-admitted : goal.returns-clause-admitted
returns-clause-admitted c = book_admitted

pub returns-clause-tables : goal.returns-clause-tables
returns-clause-tables c = folds_book
