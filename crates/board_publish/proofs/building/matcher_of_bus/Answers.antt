use Rattle.std.proofs.Common.{◌≡◌, List, [], ◌∷◌, ◌++◌, true, false, sym, ap, ◌∙◌, subst, append-nil}
use Rattle.name_rows.specs.Rows.{AreSorted, named}
use Rattle.rule_table.specs.RuleSet.{Rule}
use Rattle.board_publish.specs.Entered.{AreNumbered, Fits, entered_as}
use Rattle.board_publish.specs.Matchers.{enabled_in}
use Rattle.board_publish.proofs.BuildLemmas.{next_rule, none_placed, passed_next, rule_name}
use Rattle.board_publish.proofs.NumberLemmas.{next_done, next_here}
use Rattle.board_publish.proofs.building.matcher_of_bus.Goals as goal

pub loop-rule-preserved-then-is_enabled : goal.loop-rule-preserved-then-is_enabled
loop-rule-preserved-then-is_enabled c =
    let done = c.loop-rule.invariant.1.0 in
    let rule = c.in-Some.rule.now in
    let left = c.next.new.self in
    let here = next_here c.rules-rules.result done c.loop-rule.rules left rule c.loop-rule.invariant.1.1 c.in-Some.ensures.steps in
    let sorted : AreSorted rule_name (done ++ rule ∷ left) = subst (AreSorted rule_name) (sym (here ∙ c.rules-rules.ensures)) c.requires in
    let on : rule.enabled ≡ true = sym c.is_enabled.ensures ∙ c.if-is_enabled.true in
    let both = next_rule c.loop-rule.patterns.items c.enter.new.patterns.items c.loop-rule.entered c.in_ok-entered-2.entered c.loop-rule.places
    c.in_ok-places.places done rule left sorted c.loop-rule.invariant.0 on c.loop-rule.invariant.1.2 c.in_ok-entered-2.ensures.pattern
    c.in_ok-entered-2.ensures.rows c.in_ok-places.ensures.1 in (
      both.0,
      (
        done ++ rule ∷ [],
        next_done c.rules-rules.result done c.loop-rule.rules left rule c.loop-rule.invariant.1.1 c.in-Some.ensures.steps,
        both.1,
      ),
    )

pub loop-rule-preserved : goal.loop-rule-preserved
loop-rule-preserved c =
    let done = c.loop-rule.invariant.1.0 in
    let rule = c.in-Some.rule.now in
    let left = c.next.new.self in
    let here = next_here c.rules-rules.result done c.loop-rule.rules left rule c.loop-rule.invariant.1.1 c.in-Some.ensures.steps in
    let sorted : AreSorted rule_name (done ++ rule ∷ left) = subst (AreSorted rule_name) (sym (here ∙ c.rules-rules.ensures)) c.requires in
    let off : rule.enabled ≡ false = sym c.is_enabled.ensures ∙ c.if-is_enabled.false in (
      c.loop-rule.invariant.0,
      (
        done ++ rule ∷ [],
        next_done c.rules-rules.result done c.loop-rule.rules left rule c.loop-rule.invariant.1.1 c.in-Some.ensures.steps,
        passed_next c.loop-rule.patterns.items c.loop-rule.entered done rule left sorted off c.loop-rule.invariant.1.2,
      ),
    )

pub returns-then-places-eq0-clause-known : goal.returns-then-places-eq0-clause-known
returns-then-places-eq0-clause-known c = λ name.
    let done = c.loop-rule.invariant.1.0 in
    let patterns = c.loop-rule.patterns.items in
    let rows = c.loop-rule.entered in
    let all : done ≡ c.args.bus.now.rules =
    sym (append-nil done) ∙ ap (λ (rs : List Rule). done ++ rs) (sym c.in_default.ensures.steps.0) ∙ c.loop-rule.invariant.1.1 ∙ c.rules-rules.ensures in
    let numbered : AreNumbered patterns rows 0 = subst (AreNumbered patterns rows) c.if-places-eq0.true c.loop-rule.invariant.0 in
    none_placed patterns rows name (enabled_in (named rule_name name c.args.bus.now.rules)) numbered
    (subst (λ (rs : List Rule). Fits patterns (enabled_in (named rule_name name rs)) (entered_as name rows)) all (c.loop-rule.invariant.1.2 name))
