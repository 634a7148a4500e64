use Rattle.std.proofs.Common.{List, map, ap, ◌∙◌}
use Rattle.router_history.specs.declared.history.Turn.{Turn}
use Rattle.router_history.specs.Book.{turn_of}
use Rattle.router_history.specs.Firsts.{firsts}
use Rattle.router_history.proofs.TurnLemmas.{firsts_more, turns_more}
use Rattle.router_history.proofs.history.History.push.Goals as goal

pub returns-clause-turns : goal.returns-clause-turns
returns-clause-turns c = ap (λ (ps : List (Turn × Unit {0})). map turn_of (firsts ps)) c.and-self.ensures ∙ turns_more _ c.args.turn.now

pub returns-clause-recorded : goal.returns-clause-recorded
returns-clause-recorded c = ap (λ (ps : List (Turn × Unit {0})). firsts ps) c.and-self.ensures ∙ firsts_more _ c.args.turn.now
