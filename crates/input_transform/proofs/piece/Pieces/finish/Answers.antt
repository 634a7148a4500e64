use Rattle.input_transform.proofs.NameLemmas.{shown_finished}
use Rattle.input_transform.proofs.piece.Pieces.finish.Goals as goal

pub returns : goal.returns
returns c scene paths = shown_finished scene paths c.args.self.done.items c.push.new.self.items c.args.self.run c.in_ok-push.ensures.items
