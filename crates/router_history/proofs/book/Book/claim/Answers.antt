use Rattle.std.proofs.Common.{◌∙◌}
use Rattle.router_history.proofs.HomeLemmas.{broken_at}
use Rattle.router_history.proofs.ResultLemmas.{map_some}
use Rattle.router_history.specs.Book.{turns_of}
use Rattle.router_history.proofs.SoundLemmas.{sound_claimed}
use Rattle.router_history.proofs.book.Book.claim.Goals as goal

pub claim-requires-clause-broken : goal.claim-requires-clause-broken
claim-requires-clause-broken g c =
    c.is_broken-broken.ensures
    ∙ broken_at g.D.Disk.calls g.D.Disk.faults (turns_of c.args.self.now.machine) c.args.self.now.home c.requires.book.kept.book c.requires.book.home

pub returns-clause-book : goal.returns-clause-book
returns-clause-book g c =
    sound_claimed g.D.Disk.calls g.D.Disk.faults c.args.self.now c.claim.new.self c.args.seat c.args.reading c.claim.result c.requires.book c.claim.ensures.kept
    c.claim.ensures.held c.claim.ensures.idle c.claim.ensures.refused

pub returns-clause-held : goal.returns-clause-held
returns-clause-held g c = map_some c.claim.result _ _ (λ held is. is.0) c.claim.ensures.held
