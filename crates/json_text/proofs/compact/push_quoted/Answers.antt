use Rattle.json_text.proofs.CompactLemmas.{kept_after, kept_further, quoted_front, quoted_turn}
use Rattle.json_text.proofs.PlainLemmas.{plain_written}
use Rattle.std.proofs.Common.{sym, ap, ◌∙◌, ◌++◌, flat_map}
use Rattle.json_text.specs.Compact.{escape}
use Rattle.json_text.proofs.compact.push_quoted.Goals as goal

pub returns-in_err-push_escape-clause-kept : goal.returns-in_err-push_escape-clause-kept
returns-in_err-push_escape-clause-kept c = kept_further c.args.out.now c.extend-in-loop-rest.new.self c.push_escape.new.out
    (kept_after c.args.out.now c.loop-rest.out _ c.extend-in-loop-rest.new.self c.loop-rest.invariant.kept c.in_ok-extend-2.ensures.ok)
    c.push_escape.ensures.kept

pub loop-rest-preserved-in-Some : goal.loop-rest-preserved-in-Some
loop-rest-preserved-in-Some c = record {
  whole = ap (λ t. t ++ flat_map escape c.in-Some.after.now)
      (c.in_ok-push_escape.ensures.ok ∙ ap (λ t. t ++ escape c.in-Some.byte.now) c.in_ok-extend-2.ensures.ok)
      ∙ quoted_turn c.loop-rest.out c.loop-rest.rest.now c.in-Some.after.now c.plain_len.result c.in-Some.byte.now
      c.split_at.result.0.now c.split_at.ensures.front (plain_written c.loop-rest.rest.now c.plain_len.result c.plain_len.ensures.plain c.plain_len.ensures.within) (sym c.split_at.ensures.back ∙ c.in-Some.ensures.cases.0)
      ∙ c.loop-rest.invariant.whole;
  kept = kept_further c.args.out.now c.extend-in-loop-rest.new.self c.push_escape.new.out
      (kept_after c.args.out.now c.loop-rest.out _ c.extend-in-loop-rest.new.self c.loop-rest.invariant.kept c.in_ok-extend-2.ensures.ok)
      c.push_escape.ensures.kept;
}

pub loop-rest-preserved : goal.loop-rest-preserved
loop-rest-preserved c = record {
  whole = ap (λ t. t ++ flat_map escape c.split_at.result.1.now) c.in_ok-extend-2.ensures.ok
      ∙ quoted_front c.loop-rest.out c.loop-rest.rest.now c.split_at.result.0.now c.split_at.result.1.now c.plain_len.result c.split_at.ensures.front
      c.split_at.ensures.back (plain_written c.loop-rest.rest.now c.plain_len.result c.plain_len.ensures.plain c.plain_len.ensures.within)
      ∙ c.loop-rest.invariant.whole;
  kept = kept_after c.args.out.now c.loop-rest.out _ c.extend-in-loop-rest.new.self c.loop-rest.invariant.kept c.in_ok-extend-2.ensures.ok;
}
