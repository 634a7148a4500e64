use Rattle.event_flatten.proofs.FieldLemmas.{numbered_map}
use Rattle.event_flatten.proofs.found.Found.by_path.Goals as goal

pub returns-clause-same : goal.returns-clause-same
returns-clause-same c = λ n. numbered_map n c.sort.new.leaves.items c.self.inside.leaves.items c.args.self c.self.view_is (c.sort.ensures.same n)
