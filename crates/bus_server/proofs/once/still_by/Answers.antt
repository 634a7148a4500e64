use Rattle.std.proofs.Common.{ℕ, List, [], ◌∷◌, subst}
use Rattle.router_history.specs.Acts.{World, world}
use Rattle.bus_server.specs.Run.{FaultsMatch, RunsOnce}
use Rattle.bus_server.specs.Journal.{EndsJournaled}
use Rattle.bus_server.proofs.once.still_by.Goals as goal

pub returns-clause-runs : goal.returns-clause-runs
returns-clause-runs g c = λ start opened.
    let (turns, runs, left) = c.over-ended.ensures.runs start opened in
    let after = c.over-ended.new in
    let begin : List ℕ → World = λ readings. world (start ∷ []) (g.S.Source.gave c.args.input.now) (g.K.Sink.wrote c.args.output.now) readings
    (g.L.Link.exchanges c.args.link.now) (g.L.Link.faults c.args.link.now) in
    let ended : World = world turns (g.S.Source.gave after.input) (g.K.Sink.wrote after.output) after.clock (g.L.Link.exchanges after.link) (g.L.Link.faults after.link) in (
      turns,
      after.clock,
      c.always.ensures,
      subst (λ (readings : List ℕ). RunsOnce start (EndsJournaled (λ s. FaultsMatch s (g.S.Source.faults c.args.input.now) (g.S.Source.faults after.input)
          (g.K.Sink.faults c.args.output.now) (g.K.Sink.faults after.output)) c.over-ended.result.status) (begin readings) ended) c.new-still.ensures runs,
      left,
    )
