use Rattle.std.proofs.Common.{◌≡◌, ◌&&◌, ◌+◌, [], ◌∷◌, ℕ, List, true, false, length, drop, drop-cons, add-one, map, suc, is_some, ap, sym, ◌∙◌, subst, arith}
use Rattle.std.specs.Prelude.{All, nat_le}
use Rattle.std.proofs.lemmas.List.{drop_all}
use Rattle.name_rows.specs.Place.{IsHere, IsBefore}
use Rattle.name_rows.specs.Rows.{AreSorted, named, without}
use Rattle.name_rows.proofs.RowLemmas.{named_here, named_before, sorted_without, sorted_unmap, here_map, before_map}
use Rattle.rule_table.specs.RuleSet.{without_targets}
use Rattle.rule_table.specs.Refusal.{are_removable}
use Rattle.rule_table.specs.Target.{target_of, IsStoredOf}
use Rattle.rule_table.proofs.AllowedLemmas.{some_items, either_false}
use Rattle.rule_table.proofs.RowLemmas.{here_within, removed_here, All_without}
use Rattle.rule_table.proofs.TargetLemmas.{row_id, id_of, rows_made, target_removed}
use Rattle.rule_table.proofs.targets.after_removal.Goals as goal

pub remove-removed-requires : goal.remove-removed-requires
remove-removed-requires c =
    let here = subst (λ rows. IsHere row_id c.as_str.result.now rows c.in-Here.at) c.as_slice.ensures.value c.in-Here.ensures in
    omega (arith, here_within row_id c.as_str.result.now c.loop-id.others.items c.in-Here.at here, c.loop-id.others.ok.0)

pub returns-in-Before : goal.returns-in-Before
returns-in-Before c =
    let ids = c.args.ids.now in
    let at = c.loop-id.id-index in
    let others = c.loop-id.others.items in
    let id : List ℕ = c.id-item.result in
    let cons : drop at ids ≡ id ∷ drop (suc at) ids =
    drop-cons ids at id c.loop-id-test.true ∙ ap (λ first. first ∷ drop (suc at) ids) (sym c.id-item.is) in
    let named_so = subst (λ name. IsBefore row_id name c.as_slice.result.now c.in-Before.field-0) c.as_str.ensures c.in-Before.ensures in
    let before = before_map target_of id_of id others c.in-Before.field-0
    (subst (λ rows. IsBefore row_id id rows c.in-Before.field-0) c.as_slice.ensures.value named_so) in
    let none = named_before id_of id (map target_of others) c.in-Before.field-0 c.loop-id.invariant.sorted before in
    let wrong : are_removable ids c.args.rule.now.targets ≡ false =
    c.loop-id.invariant.removable ∙ ap (λ is. are_removable is (map target_of others)) cons
    ∙ ap (λ o. is_some o && are_removable (drop (suc at) ids) (without id_of id (map target_of others))) none in
    ap (λ b. nat_le 1 (length ids) && b) wrong ∙ either_false (nat_le 1 (length ids))

pub loop-id-preserved : goal.loop-id-preserved
loop-id-preserved c =
    let ids = c.args.ids.now in
    let rule = c.args.rule.now in
    let at = c.loop-id.id-index in
    let others = c.loop-id.others.items in
    let targets = map target_of others in
    let id : List ℕ = c.id-item.result in
    let rest = drop (at + 1) ids in
    let cons : drop at ids ≡ id ∷ rest =
    drop-cons ids at id c.loop-id-test.true ∙ ap (λ first. first ∷ drop (suc at) ids) (sym c.id-item.is)
    ∙ ap (λ n. id ∷ drop n ids) (sym (add-one at)) in
    let named_so = subst (λ name. IsHere row_id name c.as_slice.result.now c.in-Here.at) c.as_str.ensures c.in-Here.ensures in
    let here = subst (λ rows. IsHere row_id id rows c.in-Here.at) c.as_slice.ensures.value named_so in
    let sorted = c.loop-id.invariant.sorted in
    let left : c.remove-removed.new.self.items ≡ without row_id id others =
    c.remove-removed.ensures.items ∙ removed_here row_id id others c.in-Here.at (sorted_unmap id_of target_of others sorted) here in
    let made : map target_of c.remove-removed.new.self.items ≡ without id_of id targets = ap (map target_of) left ∙ target_removed id others in
    let found : is_some (named id_of id targets) ≡ true = ap is_some (named_here id_of id targets c.in-Here.at (here_map target_of id_of id others c.in-Here.at here)) in
    record {
      sorted = subst (AreSorted id_of) (sym made) (sorted_without id_of id targets sorted);
      removed = c.loop-id.invariant.removed ∙ ap (λ is. without_targets is targets) cons ∙ ap (without_targets rest) (sym made);
      removable = c.loop-id.invariant.removable ∙ ap (λ is. are_removable is targets) cons
          ∙ ap (λ b. b && are_removable rest (without id_of id targets)) found ∙ ap (are_removable rest) (sym made);
      rows = subst (All (IsStoredOf rule)) (sym left) (All_without (IsStoredOf rule) row_id id others c.loop-id.invariant.rows);
    }

pub loop-id-init : goal.loop-id-init
loop-id-init c =
    let ids = c.args.ids.now in
    let rule = c.args.rule.now in
    let rows = c.in_ok-others.ensures ∙ c.targets.ensures.rows in
    let same : rule.targets ≡ map target_of c.in_ok-others.others.items = sym (ap (map target_of) c.in_ok-others.ensures ∙ c.targets.ensures.targets) in
    record {
      sorted = subst (AreSorted id_of) same c.requires;
      removed = ap (without_targets ids) same;
      removable = ap (are_removable ids) same;
      rows = subst (All (IsStoredOf rule)) (sym rows) (rows_made rule rule.targets);
    }

pub returns : goal.returns
returns c =
    let ids = c.args.ids.now in
    let at = c.loop-id.id-index in
    let targets = map target_of c.loop-id.others.items in
    let done : drop at ids ≡ [] = drop_all at ids (omega arith) in
    let good : are_removable ids c.args.rule.now.targets ≡ true = c.loop-id.invariant.removable ∙ ap (λ is. are_removable is targets) done in (
      ap (λ b. b && are_removable ids c.args.rule.now.targets) (some_items ids c.if-is_empty.ensures) ∙ good,
      sym (c.loop-id.invariant.removed ∙ ap (λ is. without_targets is targets) done),
      c.loop-id.invariant.rows,
    )
