use Rattle.std.proofs.Common.{List, None, ◌∷◌, [], ap, ◌∙◌}
use Rattle.std.specs.List.{flat_map}
use Rattle.router_requests.specs.Batch.{Batch}
use Rattle.duty_journal.specs.Journal.{batches_in}
use Rattle.router_history.specs.Book.{opening_on}
use Rattle.router_history.proofs.OpenLemmas.{none_found}
use Rattle.router_history.proofs.ResultLemmas.{map_ok}
use Rattle.router_history.proofs.book.Machine.first.Goals as goal

pub opened-requires-clause-found : goal.opened-requires-clause-found
opened-requires-clause-found c =
    none_found (record { tables = c.in_ok-tables.tables; payloads = c.new.result }) (ap (λ ps. batches_in (flat_map (λ pair. pair.0) ps)) c.new.ensures) c.in_ok-tables.ensures

pub opened-requires-clause-none_found : goal.opened-requires-clause-none_found
opened-requires-clause-none_found c = λ _. ap (λ ps. batches_in (flat_map (λ pair. pair.0) ps)) c.new.ensures

pub returns-clause-first : goal.returns-clause-first
returns-clause-first c = map_ok c.opened.result _ _
    (λ m is. is ∙ ap (λ (bs : List Batch). opening_on bs None ∷ []) (ap (λ ps. batches_in (flat_map (λ pair. pair.0) ps)) c.new.ensures)) c.opened.ensures.opened
