use Rattle.std.proofs.Common.{◌≡◌, List, [], ◌∷◌, ◌++◌, length, true, false, get_or, sym, ap, ◌∙◌, append-nil}
use Rattle.std.proofs.lemmas.Option.{get_or_from_slice_get}
use Rattle.rule_table.specs.RuleSet.{rule_at}
use Rattle.router_requests.specs.declared.seen.SeenTarget.{SeenTarget}
use Rattle.board_publish.specs.Found.{found_for, seen_of}
use Rattle.board_publish.proofs.FoundLemmas.{found_more, found_on, found_off}
use Rattle.board_publish.proofs.NumberLemmas.{next_below, next_done}
use Rattle.board_publish.proofs.matching.marked_targets.Goals as goal

pub has-requires : goal.has-requires
has-requires c =
    next_below (length c.args.marks.now) c.args.entered.now c.loop-rule.invariant.0 c.loop-rule.left c.next.new.self c.in-Some.rule.now
    (c.loop-rule.invariant.1 ∙ c.iter-left.ensures) c.in-Some.ensures.steps c.requires

pub loop-rule-preserved-in-Continue-1 : goal.loop-rule-preserved-in-Continue-1
loop-rule-preserved-in-Continue-1 c =
    let done = c.loop-rule.invariant.0 in
    let rule = c.in-Some.rule.now in
    let set = c.args.set.now in
    let bus = c.args.bus.now in
    let marks = c.args.marks.now in
    let targets = c.loop-rule.targets.items in
    let on : get_or marks rule.number false ≡ true = get_or_from_slice_get marks rule.number c.has.result false c.has.ensures ∙ c.if-has.true in
    let more = c.in_ok-push_targets_of.ensures ∙ ap (λ n. targets ++ seen_of (rule_at bus n set)) c.as_str.ensures
    ∙ ap (λ (ts : List SeenTarget). targets ++ ts) (sym (found_on set bus marks rule on)) in (
      done ++ rule ∷ [],
      next_done c.iter-left.result done c.loop-rule.left c.next.new.self rule c.loop-rule.invariant.1 c.in-Some.ensures.steps,
      found_more (found_for set bus marks) done rule targets c.push_targets_of.new.targets.items c.loop-rule.invariant.2 more,
    )

pub loop-rule-preserved : goal.loop-rule-preserved
loop-rule-preserved c =
    let done = c.loop-rule.invariant.0 in
    let rule = c.in-Some.rule.now in
    let set = c.args.set.now in
    let bus = c.args.bus.now in
    let marks = c.args.marks.now in
    let targets = c.loop-rule.targets.items in
    let off : get_or marks rule.number false ≡ false = get_or_from_slice_get marks rule.number c.has.result false c.has.ensures ∙ c.if-has.false in
    let more = sym (append-nil targets) ∙ ap (λ (ts : List SeenTarget). targets ++ ts) (sym (found_off set bus marks rule off)) in (
      done ++ rule ∷ [],
      next_done c.iter-left.result done c.loop-rule.left c.next.new.self rule c.loop-rule.invariant.1 c.in-Some.ensures.steps,
      found_more (found_for set bus marks) done rule targets targets c.loop-rule.invariant.2 more,
    )
