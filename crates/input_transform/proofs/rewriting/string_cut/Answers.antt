use Rattle.std.proofs.Common.{◌++◌, ◌∷◌, false, sym, ap, ◌∙◌, take, get_or}
use Rattle.std.proofs.lemmas.List.{take_all}
use Rattle.std.proofs.lemmas.Bool.{ne_eqb}
use Rattle.input_transform.specs.Letters.{is_inside}
use Rattle.input_transform.proofs.RewriteLemmas.{never_ends, inside_more, inside_here, step_plain, cut_here}
use Rattle.input_transform.proofs.rewriting.string_cut.Goals.{then-escaped, else-escaped+else-byte-eq34}
use Rattle.input_transform.proofs.rewriting.string_cut.Goals as goal

pub returns-then-byte-eq34 : goal.returns-then-byte-eq34
returns-then-byte-eq34 c = (
  cut_here c.args.bytes.now c.loop-n.n 34 c.loop-n-test.true c.if-byte-eq34.true,
  inside_here (take c.loop-n.n c.args.bytes.now) (λ more. c.loop-n.invariant more ∙ ap (λ e. is_inside e more) c.if-escaped.false),
)

pub loop-n-preserved : goal.loop-n-preserved
loop-n-preserved c = inside_more c.args.bytes.now c.loop-n.n c.loop-n.escaped c.if-escaped.escaped c.loop-n-test.true c.loop-n.invariant (λ more. elim c.if-escaped.branch [
  | then-escaped w ↦ ap (λ e. is_inside e (get_or c.args.bytes.now c.loop-n.n 0 ∷ more)) w.if-escaped.true ∙ ap (λ e. is_inside e more) (sym w.escaped-is)
  | else-escaped+else-byte-eq34 w ↦ ap (λ e. is_inside e (get_or c.args.bytes.now c.loop-n.n 0 ∷ more)) w.if-escaped.false
      ∙ step_plain (get_or c.args.bytes.now c.loop-n.n 0) more (ne_eqb _ 34 w.if-byte-eq34.false) ∙ ap (λ e. is_inside e more) (sym w.escaped-is)
])

pub returns : goal.returns
returns c inside after e k =
    let all = take_all c.loop-n.n c.args.bytes.now c.loop-n-test.false in
    never_ends c.args.bytes.now inside after c.loop-n.escaped (λ more. ap (λ bs. is_inside false (bs ++ more)) (sym all) ∙ c.loop-n.invariant more) e k
