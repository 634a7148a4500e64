use Rattle.std.proofs.Common.{◌≡◌, ◌-◌, ◌+◌, ◌∙◌, ap, sym, cond, drop, Some, arith}
use Rattle.std.specs.Str.{bytes_eq}
use Rattle.json_text.{specs.Objects.slot_from, proofs.KeptLemmas.slot_from-drop}
use Rattle.json_text.proofs.object.index_of.Goals as goal

pub loop-n-preserved : goal.loop-n-preserved
loop-n-preserved c = record {
  within = omega arith;
  index = λ q. let ms = c.args.members.now in let n = c.loop-n.n - 1 in let same : c.loop-n.n ≡ n + 1 = omega arith in c.in_ok-insert_key.ensures.ok q
      ∙ ap (λ o. cond (bytes_eq c.as_str.result.now q) (Some n) o) (c.loop-n.invariant.index q ∙ ap (λ k. slot_from k q (drop k ms)) same)
      ∙ ap (λ k. cond (bytes_eq k q) (Some n) (slot_from (n + 1) q (drop (n + 1) ms))) (c.as_str.ensures ∙ ap (λ m. m.0) (sym c.index-members-n.is))
      ∙ slot_from-drop n q n ms c.index-members-n.result (omega arith) c.index-members-n.is;
}
