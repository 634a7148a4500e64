use Rattle.std.proofs.Common.{◌≡◌, None, Some, subst}
use Rattle.rule_table.proofs.RowLemmas.{named_name}
use Rattle.board_publish.specs.Entered.{entered_as}
use Rattle.board_publish.specs.MatcherView.{Matcher}
use Rattle.board_publish.specs.Matchers.{Enters}
use Rattle.board_publish.proofs.MatcherLemmas.{both_ok, found_itself, name_of, placed_changes}
use Rattle.board_publish.proofs.matchers.forget.Goals as goal

pub without-requires : goal.without-requires
without-requires c =
    let rule = c.in-Some.rule.now in
    subst (λ (m : Matcher). entered_as rule.name m.entered ≡ Some rule) c.matcher.view_is
    (found_itself name_of c.args.name.now c.matcher.inside.entered rule c.in-Some.ensures.found)

pub returns-in_ok-left-in-Some : goal.returns-in_ok-left-in-Some
returns-in_ok-left-in-Some c =
    let name = named_name name_of c.args.name.now c.matcher.inside.entered c.in-Some.rule.now c.in-Some.ensures.found in
    let left = c.in_ok-left-in-Some.left in
    let enters : Enters c.args.matcher.now left c.args.name.now None =
    subst (λ n. Enters c.args.matcher.now left n None) name c.in_ok-left-in-Some.ensures in
    both_ok c.place.result _ _ _
    (λ new this others. placed_changes c.args.matchers.now new c.args.matcher.now left c.args.name.now None c.requires enters this others)
    c.place.ensures.this c.place.ensures.others
