use Rattle.shared_door.proofs.Steps.{opens}
use Rattle.shared_door.proofs.tickets.Tickets.make.Goals as goal

pub of_words-requires : goal.of_words-requires
of_words-requires g c = opens
