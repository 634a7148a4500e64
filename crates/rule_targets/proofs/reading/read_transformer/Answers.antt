use Rattle.std.proofs.Common.{◌≡◌, ◌&&◌, true, length, sym, ◌∙◌, subst}
use Rattle.std.specs.Prelude.{nat_le}
use Rattle.std.proofs.lemmas.Result.{IfOk-weaker}
use Rattle.rule_targets.specs.Input.{has_chars, ArePaths}
use Rattle.rule_targets.proofs.InputLemmas.{transformer_read}
use Rattle.rule_targets.proofs.reading.read_transformer.Goals as goal

pub returns-in-Some : goal.returns-in-Some
returns-in-Some c =
    let t = c.args.transformer.now in
    let within : (nat_le (length t.paths) 100 && has_chars 1 8192 t.template) ≡ true = sym c.is_within_limits.ensures ∙ c.if-not-is_within_limits.false in
    let read = rw c.in-Some.is at c.in_ok-paths.ensures in
    let given = subst (λ entries. ArePaths entries c.in-Some.paths.items) c.paths.ensures read in
    let are = subst (ArePaths t.paths) (sym c.as_slice.ensures.value) given in
    IfOk-weaker c.read_template.result _ _ (λ found is. transformer_read t c.as_slice.result.now found within are is) c.read_template.ensures
