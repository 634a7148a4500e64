use Rattle.std.proofs.Common.{◌≡◌, ◌≤◌, ◌+◌, ◌*◌, min, drop, map, sym, ap, ◌∙◌, arith}
use Rattle.pattern_meaning.specs.Pattern.{branches_of}
use Rattle.pattern_meaning.specs.PatternView.{pattern_of, field_of, fields_view}
use Rattle.pattern_meaning.specs.Alternatives.{alternative_count, field_count, one_count, branch_count}
use Rattle.pattern_meaning.specs.declared.pattern.Pattern.{out-Pattern}
use Rattle.pattern_meaning.proofs.PatternLemmas.{pattern_is}
use Rattle.pattern_read.proofs.CountLemmas.{product_all, product_more, next_field}
use Rattle.pattern_read.proofs.counting.+count.Goals as goal

pub count-returns : goal.count-returns
count-returns t c =
    let p = c.args.pattern.now in
    let fields = field_count (fields_view c.deref.result.now) in
    let branches = branch_count (branches_of (map pattern_of c.deref-2.result.now)) in
    let all : alternative_count (pattern_of p) ≡ fields * branches = ap alternative_count (pattern_is p)
    ∙ ap (λ l. field_count (fields_view l) * branch_count (branches_of (map pattern_of (out-Pattern p).branches.items))) (sym c.deref.ensures.value)
    ∙ ap (λ l. fields * branch_count (branches_of (map pattern_of l))) (sym c.deref-2.ensures.value) in
    c.product.ensures ∙ ap (λ n. min (n * c.count_branches.result) 1001) c.count_fields.ensures
    ∙ ap (λ n. min (min fields 1001 * n) 1001) c.count_branches.ensures ∙ product_all fields branches ∙ ap (λ n. min n 1001) (sym all)

pub count_fields-loop-key-preserved : goal.count_fields-loop-key-preserved
count_fields-loop-key-preserved t c =
    let i = c.loop-key._key-index in
    let fs = c.args.fields.now in
    let total = c.loop-key.total in
    let rest = field_count (fields_view (drop (i + 1) fs)) in
    let one = one_count (field_of c.loop-key-item.result.1) in
    let e : c.product-total.result ≡ min (total * min one 1001) 1001 = c.product-total.ensures ∙ ap (λ n. min (total * n) 1001) c.count_field.ensures in
    let small : c.product-total.result ≤ 1001 = omega (arith, e) in (
      small,
      ap (λ n. min (n * rest) 1001) e ∙ product_more total one rest _
          (ap (λ n. min (total * n) 1001) (sym (next_field fs i c.loop-key-item.result c.loop-key-test.true c.loop-key-item.is)) ∙ c.loop-key.invariant.1),
    )
