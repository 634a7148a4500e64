use Rattle.std.proofs.{Common.◌∙◌, Common.subst, Common.take, Common.sym, Common.get_or, lemmas.List.take_more}
use Rattle.json_text.{specs.Grammar.IsSpace, proofs.TokenRuns.IsSpace-more}
use Rattle.json_text.proofs.reader.space_len.Goals as goal

pub loop-n-preserved : goal.loop-n-preserved
loop-n-preserved c = subst IsSpace (sym (take_more c.args.bytes.now c.loop-n.n 0 c.loop-n-test.true)) (IsSpace-more (take c.loop-n.n c.args.bytes.now)
    (get_or c.args.bytes.now c.loop-n.n 0) c.loop-n.invariant (sym c.is_white.ensures ∙ c.if-not-is_white.false))
