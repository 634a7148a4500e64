use Rattle.std.proofs.Common.{◌∙◌}
use Rattle.router_history.specs.Book.{turns_of}
use Rattle.router_history.proofs.HomeLemmas.{broken_at}
use Rattle.router_history.proofs.book.Book.is_broken.Goals as goal

pub returns : goal.returns
returns g c =
    c.is_broken.ensures
    ∙ broken_at g.D.Disk.calls g.D.Disk.faults (turns_of c.args.self.now.machine) c.args.self.now.home c.requires.book.kept.book c.requires.book.home
