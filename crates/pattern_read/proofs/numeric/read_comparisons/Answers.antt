use Rattle.std.proofs.Common.{◌≡◌, ◌≢◌, length, sym, subst, arith}
use Rattle.json_text.specs.Tree.{list, items_of}
use Rattle.json_text.specs.View.{trees_of}
use Rattle.pattern_read.specs.Check.{here, operand}
use Rattle.pattern_read.specs.Reading.{IsReported}
use Rattle.pattern_read.specs.declared.kind.Kind.TheVariants.{Numeric}
use Rattle.pattern_read.proofs.CheckLemmas.{reported_here}
use Rattle.pattern_read.proofs.NumericLemmas.{first_of_four, last_of_four, other_items}
use Rattle.pattern_read.proofs.numeric.read_comparisons.Goals as goal

pub returns-in-None-read_comparison-2 : goal.returns-in-None-read_comparison-2
returns-in-None-read_comparison-2 c =
    let check = operand Numeric (list (items_of (trees_of c.args.items.now))) in
    let four : length c.args.items.now ≡ 4 = omega arith in
    subst (IsReported (here check)) (sym c.of-in-None-read_comparison-2.ensures)
    (reported_here check (λ h. last_of_four c.args.items.now c.c-item.result c.d-item.result four c.c-item.is c.d-item.is
    c.in-None-read_comparison-2.ensures h.1.0 h.1.1))

pub returns-in-None-read_comparison : goal.returns-in-None-read_comparison
returns-in-None-read_comparison c =
    let check = operand Numeric (list (items_of (trees_of c.args.items.now))) in
    let four : length c.args.items.now ≡ 4 = omega arith in
    subst (IsReported (here check)) (sym c.of-in-None-read_comparison.ensures)
    (reported_here check (λ h. first_of_four c.args.items.now c.a-item-then-items-lt5.result c.b-item-then-items-lt5.result four
    c.a-item-then-items-lt5.is c.b-item-then-items-lt5.is c.in-None-read_comparison.ensures h.1.0 h.1.1))

pub returns-in-len1 : goal.returns-in-len1
returns-in-len1 c =
    let check = operand Numeric (list (items_of (trees_of c.args.items.now))) in
    let not_two : length c.args.items.now ≢ 2 = omega arith in
    let not_four : length c.args.items.now ≢ 4 = omega arith in
    subst (IsReported (here check)) (sym c.of-in-len1.ensures) (reported_here check (λ h. other_items c.args.items.now not_two not_four h.1.0 h.1.1))

pub returns-in-len3 : goal.returns-in-len3
returns-in-len3 c =
    let check = operand Numeric (list (items_of (trees_of c.args.items.now))) in
    let not_two : length c.args.items.now ≢ 2 = omega arith in
    let not_four : length c.args.items.now ≢ 4 = omega arith in
    subst (IsReported (here check)) (sym c.of-in-len3.ensures) (reported_here check (λ h. other_items c.args.items.now not_two not_four h.1.0 h.1.1))

pub returns-in-len5-up : goal.returns-in-len5-up
returns-in-len5-up c =
    let check = operand Numeric (list (items_of (trees_of c.args.items.now))) in
    let not_two : length c.args.items.now ≢ 2 = omega arith in
    let not_four : length c.args.items.now ≢ 4 = omega arith in
    subst (IsReported (here check)) (sym c.of-in-len5-up.ensures) (reported_here check (λ h. other_items c.args.items.now not_two not_four h.1.0 h.1.1))
