use Rattle.std.proofs.Common.{◌≡◌, ◌≤◌, List, length, sym, ap, ◌∙◌, subst}
use Rattle.std.proofs.lemmas.Bool.{false≢true}
use Rattle.std.proofs.lemmas.Result.{IfOk-weaker}
use Rattle.name_rows.specs.Rows.{without}
use Rattle.board_publish.specs.MatcherView.{Matcher}
use Rattle.board_publish.specs.Matchers.{IsKnown, matcher_of}
use Rattle.board_publish.proofs.MatcherLemmas.{bus_of, placed_known, placed_others, gone_known, gone_others}
use Rattle.board_publish.proofs.matchers.place.Goals as goal

pub returns-then-reach-clause-this : goal.returns-then-reach-clause-this
returns-then-reach-clause-this c = IfOk-weaker c.with.result _ _
    (λ new is name pattern h. subst (λ (ms : List Matcher). IsKnown pattern name (matcher_of c.args.matcher.bus ms)) (sym is)
    (placed_known c.args.matchers.now c.args.matcher name pattern h))
    c.with.ensures

pub returns-then-reach-clause-others : goal.returns-then-reach-clause-others
returns-then-reach-clause-others c = IfOk-weaker c.with.result _ _
    (λ new is bus apart. ap (matcher_of bus) is ∙ placed_others c.args.matchers.now c.args.matcher bus apart)
    c.with.ensures

pub returns-else-reach-clause-this : goal.returns-else-reach-clause-this
returns-else-reach-clause-this c =
    let bus : c.as_str.result.now ≡ c.args.matcher.bus = c.as_str.ensures ∙ ap (λ (m : Matcher). m.bus) c.matcher.view_is in
    let none : ¬ (1 ≤ length c.args.matcher.entered) =
    λ some. false≢true (sym c.if-reach.false ∙ c.reach.ensures.1 (subst (λ (m : Matcher). 1 ≤ length m.entered) (sym c.matcher.view_is) some)) in
    IfOk-weaker c.without.result _ _
    (λ new is name pattern h. subst (λ (ms : List Matcher). IsKnown pattern name (matcher_of c.args.matcher.bus ms))
    (sym (is ∙ ap (λ b. without bus_of b c.args.matchers.now) bus))
    (gone_known c.args.matchers.now c.args.matcher name pattern none h))
    c.without.ensures

pub returns-else-reach-clause-others : goal.returns-else-reach-clause-others
returns-else-reach-clause-others c =
    let bus : c.as_str.result.now ≡ c.args.matcher.bus = c.as_str.ensures ∙ ap (λ (m : Matcher). m.bus) c.matcher.view_is in
    IfOk-weaker c.without.result _ _
    (λ new is other apart. ap (matcher_of other) (is ∙ ap (λ b. without bus_of b c.args.matchers.now) bus)
    ∙ gone_others c.args.matchers.now c.args.matcher other apart)
    c.without.ensures
