use Rattle.json_text.proofs.TokenRuns.{after_space}
use Rattle.json_text.proofs.state.Place.without_space.Goals as goal

pub returns-clause-same : goal.returns-clause-same
returns-clause-same c L s skips = after_space L s skips c.args.self.at c.space_len.result c.args.self.rest.now c.after.result.at c.after.result.rest.now
    c.space_len.ensures.within c.space_len.ensures.space c.after.ensures.rest c.after.ensures.at
