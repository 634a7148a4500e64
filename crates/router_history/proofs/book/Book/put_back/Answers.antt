use Rattle.router_history.specs.History.{puts_back}
use Rattle.router_history.specs.Held.{held_claim}
use Rattle.router_history.specs.Book.{why_of}
use Rattle.router_history.proofs.SoundLemmas.{sound_same}
use Rattle.router_history.proofs.book.Book.put_back.Goals as goal

pub returns-clause-book : goal.returns-clause-book
returns-clause-book g c =
    sound_same g.D.Disk.calls g.D.Disk.faults c.args.self.now c.put_back.new.self (puts_back (held_claim c.args.held) (why_of c.args.why)) tt c.requires.book
    c.put_back.ensures.kept c.put_back.ensures.added
