use Rattle.std.proofs.Common.{List, sym, subst}
use Rattle.json_text.specs.View.{tree_of}
use Rattle.rule_table.specs.RuleSet.{rules_of}
use Rattle.router_requests.specs.Matching.{AreMatched}
use Rattle.router_requests.specs.declared.seen.SeenTarget.{SeenTarget}
use Rattle.board_publish.proofs.FoundLemmas.{nothing_matched}
use Rattle.board_publish.proofs.board.Board.matched.Goals as goal

pub returns-in-None : goal.returns-in-None
returns-in-None c =
    subst (λ (ts : List SeenTarget). AreMatched (rules_of c.args.bus.now c.args.self.now) (tree_of c.args.event.now) ts) (sym c.new.ensures.items)
    (nothing_matched c.args.self.now c.args.bus.now (tree_of c.args.event.now) c.in-None.ensures.sound c.in-None.ensures.known)
