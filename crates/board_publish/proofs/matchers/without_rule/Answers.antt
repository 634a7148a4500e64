use Rattle.std.proofs.Common.{None, subst}
use Rattle.std.proofs.lemmas.Result.{IfOk-weaker}
use Rattle.rule_table.proofs.RowLemmas.{named_name}
use Rattle.board_publish.specs.Matchers.{Changes}
use Rattle.board_publish.proofs.MatcherLemmas.{bus_of, found_itself}
use Rattle.board_publish.proofs.matchers.without_rule.Goals as goal

pub forget-requires : goal.forget-requires
forget-requires c = found_itself bus_of c.args.bus.now c.args.matchers.now c.in-Some.matcher.now c.in-Some.ensures.found

pub returns-in-Some : goal.returns-in-Some
returns-in-Some c =
    let bus = named_name bus_of c.args.bus.now c.args.matchers.now c.in-Some.matcher.now c.in-Some.ensures.found in
    IfOk-weaker c.forget.result _ _ (λ new is. subst (λ b. Changes c.args.matchers.now new b c.args.name.now None) bus is) c.forget.ensures
