use Rattle.std.proofs.Common.{[], ◌∷◌, Some, ap, ◌∙◌}
use Rattle.duty_journal.specs.Recovery.{batches_found}
use Rattle.router_history.specs.History.{OpenedDisk}
use Rattle.router_history.specs.Book.{turns_of, opening_on}
use Rattle.router_history.proofs.OpenLemmas.{opened_home}
use Rattle.router_history.proofs.book.Book.opened.Goals as goal

pub opened-requires-clause-found : goal.opened-requires-clause-found
opened-requires-clause-found g c = c.requires.found.0

pub opened-requires-clause-none_found : goal.opened-requires-clause-none_found
opened-requires-clause-none_found g c = λ none. absurd (cc)

pub returns-in-Ok-clause-opened : goal.returns-in-Ok-clause-opened
returns-in-Ok-clause-opened g c =
    c.in-Ok.ensures.opened ∙ ap (λ (d : OpenedDisk). opening_on (batches_found c.args.found) (Some d) ∷ []) c.of-disk.ensures

pub returns-in-Ok-clause-book : goal.returns-in-Ok-clause-book
returns-in-Ok-clause-book g c = record {
  kept = c.in-Ok.ensures.kept;
  home = opened_home g.D.Disk.calls g.D.Disk.faults (turns_of c.in-Ok.machine) c.args.journal (batches_found c.args.found)
      (c.in-Ok.ensures.opened ∙ ap (λ (d : OpenedDisk). opening_on (batches_found c.args.found) (Some d) ∷ []) c.of-disk.ensures)
      c.requires.found.0.recordable c.requires.found.1 c.requires.found.2 c.requires.found.3 c.requires.opened;
}
