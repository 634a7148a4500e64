use Rattle.std.proofs.Common.{sym, ◌∙◌}
use Rattle.std.proofs.lemmas.Bool.{false≢true}
use Rattle.event_flatten.proofs.PathLemmas.{ends_first, ends_nothing}
use Rattle.event_flatten.proofs.wanted.Wanted.ended.Goals as goal

pub returns-then-ends_by : goal.returns-then-ends_by
returns-then-ends_by c = λ scalar.
    ends_first scalar c.args.self.depth c.args.self.first c.args.self.paths.now c.in_ok-path.path.now c.args.self.ascending
    c.in_ok-path.ensures.item.3.0 c.in_ok-path.ensures.item.1 (c.ends_by.ensures.0 c.if-ends_by.true)

pub returns-else-ends_by : goal.returns-else-ends_by
returns-else-ends_by c = λ scalar.
    ends_nothing scalar c.args.self.depth c.args.self.first c.args.self.paths.now c.in_ok-path.path.now c.args.self.ascending
    c.in_ok-path.ensures.item.1 (λ done. false≢true (sym c.if-ends_by.false ∙ c.ends_by.ensures.1 done))
