use Rattle.std.proofs.Common.{ap, ◌∙◌}
use Rattle.std.specs.List.{enumerate_from}
use Rattle.event_flatten.proofs.PathLemmas.{rests_whole}
use Rattle.event_flatten.proofs.wanted.Wanted.all.Goals as goal

pub returns : goal.returns
returns c = ap (enumerate_from 0) (rests_whole c.as_slice.result.now ∙ c.as_slice.ensures.paths)
