use Rattle.std.proofs.Common.{◌≡◌, ℕ, List, Option, None, sym, ap, ◌∙◌, subst}
use Rattle.std.specs.Prelude.{IfSome}
use Rattle.std.proofs.lemmas.Result.{IfOk-weaker}
use Rattle.name_rows.specs.Rows.{named}
use Rattle.board_publish.specs.MatcherView.{Matcher}
use Rattle.board_publish.specs.Matchers.{HasRule, IsKnown, enabled_in, matcher_of}
use Rattle.board_publish.proofs.BuildLemmas.{rule_name}
use Rattle.board_publish.proofs.MatcherLemmas.{placed_known, placed_others, with_matcher}
use Rattle.board_publish.proofs.building.with_bus.Goals as goal

pub returns-in-Some-clause-this : goal.returns-in-Some-clause-this
returns-in-Some-clause-this c =
    let bus = c.args.bus.now in
    let old = c.args.matchers in
    let matcher = c.in-Some.matcher in
    let at : matcher.bus ≡ bus.name = subst (λ (o : Option Matcher). IfSome o (λ m. m.bus ≡ bus.name)) c.in-Some.is c.in_ok-matcher.ensures.bus in
    let known : (name : List ℕ) → HasRule matcher name (enabled_in (named rule_name name bus.rules)) =
    λ name. subst (λ (o : Option Matcher). IsKnown (enabled_in (named rule_name name bus.rules)) name o) c.in-Some.is (c.in_ok-matcher.ensures.known name) in
    IfOk-weaker c.with.result _ _
    (λ new is name.
    subst (λ (ms : List Matcher). IsKnown (enabled_in (named rule_name name bus.rules)) name (matcher_of bus.name ms)) (sym is)
    (subst (λ b. IsKnown (enabled_in (named rule_name name bus.rules)) name (matcher_of b (with_matcher matcher old))) at
    (placed_known old matcher name (enabled_in (named rule_name name bus.rules)) (known name))))
    c.with.ensures

pub returns-in-Some-clause-others : goal.returns-in-Some-clause-others
returns-in-Some-clause-others c =
    let bus = c.args.bus.now in
    let matcher = c.in-Some.matcher in
    let at : matcher.bus ≡ bus.name = subst (λ (o : Option Matcher). IfSome o (λ m. m.bus ≡ bus.name)) c.in-Some.is c.in_ok-matcher.ensures.bus in
    IfOk-weaker c.with.result _ _
    (λ new is other apart. ap (matcher_of other) is ∙ placed_others c.args.matchers matcher other (λ e. apart (sym at ∙ e)))
    c.with.ensures

pub returns-in-None-clause-this : goal.returns-in-None-clause-this
returns-in-None-clause-this c = λ name.
    let bus = c.args.bus.now in
    let none : enabled_in (named rule_name name bus.rules) ≡ None =
    subst (λ (o : Option Matcher). IsKnown (enabled_in (named rule_name name bus.rules)) name o) c.in-None.is (c.in_ok-matcher.ensures.known name) in
    subst (λ w. IsKnown w name (matcher_of bus.name c.args.matchers)) (sym none) (c.requires.unknown name)
