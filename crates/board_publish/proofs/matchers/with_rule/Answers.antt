use Rattle.std.proofs.Common.{List, Some, sym, subst}
use Rattle.std.proofs.lemmas.Result.{IfOk-weaker}
use Rattle.rule_table.proofs.RowLemmas.{named_name}
use Rattle.board_publish.specs.MatcherView.{Matcher}
use Rattle.board_publish.specs.Matchers.{Changes}
use Rattle.board_publish.proofs.MatcherLemmas.{bus_of, first_changes, found_itself, placed_changes, placed_known, placed_others, with_matcher}
use Rattle.board_publish.proofs.matchers.with_rule.Goals as goal

pub returns-in_ok-new-in-Some : goal.returns-in_ok-new-in-Some
returns-in_ok-new-in-Some c =
    let old = c.args.matchers.now in
    let matcher = c.in-Some.matcher.now in
    let new = c.in_ok-new-in-Some.new in
    let pattern = Some c.args.pattern.now in
    let bus = named_name bus_of c.args.bus.now old matcher c.in-Some.ensures.found in
    IfOk-weaker c.with-in-Some.result _ _
    (λ rows is. subst (λ (ms : List Matcher). Changes old ms c.args.bus.now c.args.name.now pattern) (sym is)
    (subst (λ b. Changes old (with_matcher new old) b c.args.name.now pattern) bus
    (placed_changes old (with_matcher new old) matcher new c.args.name.now pattern
    (found_itself bus_of c.args.bus.now old matcher c.in-Some.ensures.found) c.in_ok-new-in-Some.ensures
    (λ one wanted h. placed_known old new one wanted h) (λ other apart. placed_others old new other apart))))
    c.with-in-Some.ensures

pub returns-in_ok-new-in-None : goal.returns-in_ok-new-in-None
returns-in_ok-new-in-None c =
    let old = c.args.matchers.now in
    let new = c.in_ok-new-in-None.new in
    let pattern = Some c.args.pattern.now in
    IfOk-weaker c.with-in-None-2.result _ _
    (λ rows is. subst (λ (ms : List Matcher). Changes old ms c.args.bus.now c.args.name.now pattern) (sym is)
    (first_changes old c.args.bus.now c.args.name.now c.in_ok-none-in-None.none new pattern c.in-None.ensures.found c.in_ok-none-in-None.ensures.bus
    c.in_ok-none-in-None.ensures.empty c.in_ok-new-in-None.ensures))
    c.with-in-None-2.ensures
