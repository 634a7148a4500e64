use Rattle.std.proofs.Common.{inl, inr, refl}
use Rattle.bus_server.proofs.RunLemmas.{none_begun}
use Rattle.bus_server.proofs.SeatedLemmas.{sits_whole}
use Rattle.bus_server.proofs.once.in_memory.Goals as goal

pub returns-in-Ok-clause-run : goal.returns-in-Ok-clause-run
returns-in-Ok-clause-run g c =
    (sits_whole _ _ g.H.Link.Link.exchanges g.H.Link.Link.faults _ c.args.now _ _ c.seated-ended.result.disk c.seated-ended.result.status
    (c.seated-ended.ensures.sits _ c.in-Ok.ensures.first)).0

pub returns-in-Ok-clause-counts : goal.returns-in-Ok-clause-counts
returns-in-Ok-clause-counts g c =
    (sits_whole _ _ g.H.Link.Link.exchanges g.H.Link.Link.faults _ c.args.now _ _ c.seated-ended.result.disk c.seated-ended.result.status
    (c.seated-ended.ensures.sits _ c.in-Ok.ensures.first)).1

pub returns-in-Err-clause-run : goal.returns-in-Err-clause-run
returns-in-Err-clause-run g c = inr (inl refl, none_begun _ _ _ _ _ _ _ refl refl)
