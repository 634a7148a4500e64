use Rattle.std.proofs.Common.{◌≡◌, ◌&&◌, ◌+◌, [], ◌∷◌, true, false, not, is_some, length, drop, drop-cons, add-one, map, suc, ap, sym, ◌∙◌, subst, arith}
use Rattle.std.specs.Prelude.{All, nat_le}
use Rattle.std.proofs.lemmas.List.{drop_all, take_all}
use Rattle.std.proofs.lemmas.List.Elements.{All-nil}
use Rattle.name_rows.specs.Rows.{placed, replacing}
use Rattle.name_rows.proofs.RowLemmas.{All_placed}
use Rattle.rule_targets.specs.Target.{asked_of}
use Rattle.rule_targets.specs.declared.target.Target.{Target}
use Rattle.rule_table.specs.RuleSet.{put_target, put_targets}
use Rattle.rule_table.specs.Refusal.{target_fault, are_put}
use Rattle.rule_table.specs.WellFormed.{HasValidInput}
use Rattle.rule_table.specs.Target.{target_of, IsStoredOf}
use Rattle.rule_table.proofs.AllowedLemmas.{some_items, either_false}
use Rattle.rule_table.proofs.TargetLemmas.{row_id, rows_made, is_stored, target_put, valid_more}
use Rattle.rule_table.proofs.rule_set.RuleSet.after_put.Goals as goal

pub returns-then-is_some : goal.returns-then-is_some
returns-then-is_some c =
    let set = c.args.self.now in
    let news = c.args.news.now in
    let at = c.loop-new.new-index in
    let targets = map target_of c.loop-new.others.items in
    let new : Target = c.new-item.result in
    let cons : drop at news ≡ new ∷ drop (suc at) news =
    drop-cons news at new c.loop-new-test.true ∙ ap (λ (first : Target). first ∷ drop (suc at) news) (sym c.new-item.is) in
    let found : is_some (target_fault set targets (asked_of new)) ≡ true =
    sym (ap is_some (c.in_ok-stored_fault.ensures ∙ ap (λ rows. target_fault set (map target_of rows) c.in_ok-asked.asked) c.deref.ensures.value
    ∙ ap (target_fault set targets) c.in_ok-asked.ensures)) ∙ sym c.if-is_some.ensures in
    let wrong : are_put set news c.args.rule.now.targets ≡ false =
    c.loop-new.invariant.good ∙ ap (λ ns. are_put set ns targets) cons
    ∙ ap (λ b. not b && are_put set (drop (suc at) news) (put_target new targets)) found in
    ap (λ b. nat_le 1 (length news) && b) wrong ∙ either_false (nat_le 1 (length news))

pub loop-new-preserved : goal.loop-new-preserved
loop-new-preserved c =
    let set = c.args.self.now in
    let rule = c.args.rule.now in
    let news = c.args.news.now in
    let at = c.loop-new.new-index in
    let others = c.loop-new.others.items in
    let targets = map target_of others in
    let new : Target = c.new-item.result in
    let row = c.in_ok-stored.field-0 in
    let rest = drop (at + 1) news in
    let cons : drop at news ≡ new ∷ rest =
    drop-cons news at new c.loop-new-test.true ∙ ap (λ (first : Target). first ∷ drop (suc at) news) (sym c.new-item.is)
    ∙ ap (λ n. new ∷ drop n news) (sym (add-one at)) in
    let found : is_some (target_fault set targets (asked_of new)) ≡ false =
    sym (ap is_some (c.in_ok-stored_fault.ensures ∙ ap (λ rows. target_fault set (map target_of rows) c.in_ok-asked.asked) c.deref.ensures.value
    ∙ ap (target_fault set targets) c.in_ok-asked.ensures)) ∙ sym c.if-is_some.ensures in
    let put : c.put_in_order.new.targets.items ≡ placed row_id replacing row others = c.in_ok-put_in_order.ensures.put in
    let made : map target_of c.put_in_order.new.targets.items ≡ put_target new targets =
    ap (map target_of) put ∙ target_put rule new row others c.in_ok-stored.ensures.stored in
    let its_row : IsStoredOf rule row = is_stored rule new row c.in_ok-stored.ensures.stored in
    record {
      put = c.loop-new.invariant.put ∙ ap (λ ns. put_targets ns targets) cons ∙ ap (put_targets rest) (sym made);
      good = c.loop-new.invariant.good ∙ ap (λ ns. are_put set ns targets) cons
          ∙ ap (λ b. not b && are_put set rest (put_target new targets)) found ∙ ap (are_put set rest) (sym made);
      rows = subst (All (IsStoredOf rule)) (sym put)
          (All_placed (IsStoredOf rule) row_id replacing row others its_row (λ old p. its_row) c.loop-new.invariant.rows);
      valid = valid_more news at new c.loop-new-test.true c.new-item.is c.in_ok-stored.ensures.valid c.loop-new.invariant.valid;
    }

pub loop-new-init : goal.loop-new-init
loop-new-init c =
    let set = c.args.self.now in
    let rule = c.args.rule.now in
    let news = c.args.news.now in
    let rows = c.in_ok-others.ensures ∙ c.targets.ensures.rows in
    let same : rule.targets ≡ map target_of c.in_ok-others.others.items = sym (ap (map target_of) c.in_ok-others.ensures ∙ c.targets.ensures.targets) in
    record {
      put = ap (put_targets news) same;
      good = ap (are_put set news) same;
      rows = subst (All (IsStoredOf rule)) (sym rows) (rows_made rule rule.targets);
      valid = All-nil HasValidInput;
    }

pub returns : goal.returns
returns c =
    let set = c.args.self.now in
    let news = c.args.news.now in
    let at = c.loop-new.new-index in
    let targets = map target_of c.loop-new.others.items in
    let done : drop at news ≡ [] = drop_all at news (omega arith) in
    let good : are_put set news c.args.rule.now.targets ≡ true = c.loop-new.invariant.good ∙ ap (λ ns. are_put set ns targets) done in (
      ap (λ b. b && are_put set news c.args.rule.now.targets) (some_items news c.if-is_empty.ensures) ∙ good,
      sym (c.loop-new.invariant.put ∙ ap (λ ns. put_targets ns targets) done),
      c.loop-new.invariant.rows,
      subst (All HasValidInput) (take_all at news (omega arith)) c.loop-new.invariant.valid,
    )
