use Rattle.std.proofs.Common.{◌<◌, ◌∷◌, [], ◌++◌, length, ap, ◌∙◌, arith}
use Rattle.std.proofs.lemmas.List.{length-set}
use Rattle.std.specs.Prelude.{true}
use Rattle.board_publish.proofs.NumberLemmas.{marks_more, next_below, next_done}
use Rattle.board_publish.proofs.numbers.taken.Goals as goal

pub set-requires : goal.set-requires
set-requires c =
    let small = next_below c.args.places c.args.entered.now c.loop-rule.invariant.1.0 c.loop-rule.left c.next.new.self c.in-Some.rule.now
    (c.loop-rule.invariant.1.1 ∙ c.iter-left.ensures) c.in-Some.ensures.steps c.requires in
    omega (arith, small, c.loop-rule.invariant.0)

pub loop-rule-preserved : goal.loop-rule-preserved
loop-rule-preserved c =
    let done = c.loop-rule.invariant.1.0 in
    let rule = c.in-Some.rule.now in
    let small = next_below c.args.places c.args.entered.now done c.loop-rule.left c.next.new.self rule
    (c.loop-rule.invariant.1.1 ∙ c.iter-left.ensures) c.in-Some.ensures.steps c.requires in
    let within : rule.number < length c.loop-rule.marks = omega (arith, small, c.loop-rule.invariant.0) in (
      ap length c.set.ensures ∙ length-set c.loop-rule.marks rule.number true ∙ c.loop-rule.invariant.0,
      (
        done ++ rule ∷ [],
        next_done c.iter-left.result done c.loop-rule.left c.next.new.self rule c.loop-rule.invariant.1.1 c.in-Some.ensures.steps,
        marks_more c.loop-rule.marks c.set.new.self done rule within c.set.ensures c.loop-rule.invariant.1.2,
      ),
    )
