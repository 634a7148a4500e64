use Rattle.std.proofs.Common.{◌∷◌, [], ◌++◌, sym, ◌∙◌, subst}
use Rattle.std.proofs.lemmas.List.Elements.{All-head, All-same}
use Rattle.name_rows.specs.Rows.{AreSorted}
use Rattle.name_rows.proofs.RowLemmas.{All_back}
use Rattle.rule_table.specs.RuleSet.{Bus, Rule}
use Rattle.board_publish.proofs.BuildLemmas.{bus_name, bus_next, next_unknown}
use Rattle.board_publish.proofs.NumberLemmas.{next_done, next_here}
use Rattle.board_publish.proofs.board.Board.of.Goals as goal

pub with_bus-requires-clause-sorted : goal.with_bus-requires-clause-sorted
with_bus-requires-clause-sorted c =
    let done = c.loop-bus.invariant.0 in
    let bus = c.in-Some.bus.now in
    let here = next_here c.buses-buses.result done c.loop-bus.buses c.next.new.self bus c.loop-bus.invariant.1 c.in-Some.ensures.steps ∙ c.buses-buses.ensures in
    let P : Bus → Type 0 = λ b. AreSorted (λ (rule : Rule). rule.name) b.rules in
    All-head P bus c.next.new.self
    (All_back P done (bus ∷ c.next.new.self) (All-same P (done ++ bus ∷ c.next.new.self) c.args.set.now.buses here c.control_count-version.ensures.sound.rule_order))

pub with_bus-requires-clause-unknown : goal.with_bus-requires-clause-unknown
with_bus-requires-clause-unknown c =
    let done = c.loop-bus.invariant.0 in
    let bus = c.in-Some.bus.now in
    let here = next_here c.buses-buses.result done c.loop-bus.buses c.next.new.self bus c.loop-bus.invariant.1 c.in-Some.ensures.steps ∙ c.buses-buses.ensures in
    next_unknown done bus c.next.new.self c.loop-bus.matchers (subst (AreSorted bus_name) (sym here) c.control_count-version.ensures.sound.bus_order)
    c.loop-bus.invariant.2

pub loop-bus-preserved : goal.loop-bus-preserved
loop-bus-preserved c =
    let done = c.loop-bus.invariant.0 in
    let bus = c.in-Some.bus.now in
    let here = next_here c.buses-buses.result done c.loop-bus.buses c.next.new.self bus c.loop-bus.invariant.1 c.in-Some.ensures.steps ∙ c.buses-buses.ensures in (
      done ++ bus ∷ [],
      next_done c.buses-buses.result done c.loop-bus.buses c.next.new.self bus c.loop-bus.invariant.1 c.in-Some.ensures.steps,
      bus_next done bus c.next.new.self c.loop-bus.matchers c.in_ok-matchers-2.matchers
          (subst (AreSorted bus_name) (sym here) c.control_count-version.ensures.sound.bus_order) c.loop-bus.invariant.2 c.in_ok-matchers-2.ensures.this
          c.in_ok-matchers-2.ensures.others,
    )
