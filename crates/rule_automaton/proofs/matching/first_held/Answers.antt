use Rattle.std.proofs.Common.{sym, ◌∙◌, arith}
use Rattle.std.proofs.lemmas.Bool.{false≢true}
use Rattle.json_text.specs.View.{tree_of}
use Rattle.pattern_meaning.proofs.FrameLemmas.{first_and_rest}
use Rattle.rule_automaton.proofs.MatchLemmas.{held_first, skip_first}
use Rattle.rule_automaton.proofs.matching.first_held.Goals as goal
use Rattle.rule_automaton.proofs.matching.first_held.Goals.{else-can_hold-via-then-can_hold+else-holds, else-can_hold-via-else-can_hold}

pub returns-then-holds : goal.returns-then-holds
returns-then-holds c =
    let left = c.loop-left.left.now in
    let rule = c.rule-item.result in
    held_first c.args.rules.now left rule (tree_of c.args.event.now) c.args.marks.now (first_and_rest left rule c.in-len1-up.len_at_least c.rule-item.is)
    c.loop-left.invariant.0 c.loop-left.invariant.1 c.loop-left.invariant.2 (c.can_hold.ensures.0 c.if-can_hold.true) (c.holds.ensures.0 c.if-holds.true)

pub loop-left-preserved : goal.loop-left-preserved
loop-left-preserved c =
    let left = c.loop-left.left.now in
    let rule = c.rule-item.result in
    let step = skip_first c.args.rules.now left rule (tree_of c.args.event.now) c.args.marks.now (first_and_rest left rule c.in-len1-up.len_at_least c.rule-item.is)
    c.loop-left.invariant.0 c.loop-left.invariant.1 c.loop-left.invariant.2 in
    elim c.else-can_hold.branch [
      | else-can_hold-via-then-can_hold+else-holds w ↦ step (λ can holds. false≢true (sym w.if-holds.false ∙ w.holds.ensures.1 holds))
      | else-can_hold-via-else-can_hold w ↦ step (λ can holds. false≢true (sym w.if-can_hold.false ∙ c.can_hold.ensures.1 can))
    ]

pub returns : goal.returns
returns c = λ n h. let r = (c.loop-left.invariant.2 n).0 h in omega (arith, r.1.1, c.in_default.len_below)
