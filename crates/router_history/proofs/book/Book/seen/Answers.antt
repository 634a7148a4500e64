use Rattle.std.proofs.Common.{subst}
use Rattle.std.specs.Prelude.{IfOk}
use Rattle.rule_table.specs.RuleSet.{RuleSet}
use Rattle.router_requests.specs.Matching.{IsSeen}
use Rattle.router_requests.specs.View.{request_of}
use Rattle.router_history.proofs.book.Book.seen.Goals as goal

pub returns : goal.returns
returns g c = subst (λ (set : RuleSet). IfOk c.seen.result (λ seen. IsSeen set (request_of c.args.request.now) seen)) c.args.self.now.machine.same_set c.seen.ensures
