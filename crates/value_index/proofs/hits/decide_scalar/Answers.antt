use Rattle.std.proofs.Common.{◌≡◌, ◌⊎◌, inl, inr, sym, ap, ◌∙◌, subst}
use Rattle.json_text.specs.Tree.{Tree, number}
use Rattle.json_text.specs.View.{tree_of}
use Rattle.json_text.proofs.ViewLemmas.{tree_of_number}
use Rattle.value_index.specs.declared.row.Row.{Row}
use Rattle.value_index.specs.Adds.{Adds, IsNumeric, IsReached}
use Rattle.value_index.specs.Signature.{whole}
use Rattle.value_index.proofs.HitLemmas.{adds_then, adds_fewer}
use Rattle.value_index.proofs.hits.decide_scalar.Goals as goal

pub returns-in-Num : goal.returns-in-Num
returns-in-Num c =
    let leaf = tree_of c.args.scalar.now in
    let rows = c.args.rows.now in
    let lengths = c.args.lengths.now in
    let same : leaf ≡ number c.in-Num.spelling = ap tree_of c.in-Num.is ∙ tree_of_number c.in-Num.spelling in
    let asked : Row → Type 0 = λ row. row.signature ≡ 0 in
    let by_whole : Row → Type 0 = λ row. row.signature ≡ c.whole.result in
    let plain : Row → Type 0 = λ row. asked row ⊎ by_whole row in
    let second : Adds plain rows leaf c.args.marks.now c.decide_with-in-Num.new.marks =
    adds_then asked by_whole rows leaf c.args.marks.now c.decide_with.new.marks c.decide_with-in-Num.new.marks c.decide_with.ensures c.decide_with-in-Num.ensures in
    let third : Adds IsNumeric rows leaf c.decide_with-in-Num.new.marks c.decide_number.new.marks =
    subst (λ (l : Tree). Adds IsNumeric rows l c.decide_with-in-Num.new.marks c.decide_number.new.marks) (ap number c.as_str-in-Num.ensures ∙ sym same) c.decide_number.ensures in
    adds_fewer (λ row. plain row ⊎ IsNumeric row) (IsReached lengths leaf) rows leaf c.args.marks.now c.decide_number.new.marks
    (adds_then plain IsNumeric rows leaf c.args.marks.now c.decide_with-in-Num.new.marks c.decide_number.new.marks second third)
    (λ row h. elim (subst (λ l. IsReached lengths l row) same h) [
      | inl plainly ↦ elim plainly [
        | inl zero ↦ inl (inl zero)
        | inr is ↦ inl (inr (is ∙ ap whole (sym same) ∙ sym c.whole.ensures))
      ]
      | inr of_number ↦ inr of_number
    ])
