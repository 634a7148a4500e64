use Rattle.router_requests.specs.View.{request_of}
use Rattle.router_history.specs.History.{asked}
use Rattle.router_history.proofs.SoundLemmas.{sound_same}
use Rattle.router_history.proofs.book.Book.turn.Goals as goal

pub returns-in-None-clause-book : goal.returns-in-None-clause-book
returns-in-None-clause-book g c =
    sound_same g.D.Disk.calls g.D.Disk.faults c.args.self.now c.show.new.self (asked (request_of c.args.request.now)) tt c.requires.book c.show.ensures.kept
    c.show.ensures.added
