use Rattle.std.proofs.Common.{◌≡◌, ◌||◌, ℕ, List, [], ◌∷◌, map, refl, ap, ◌∙◌}
use Rattle.std.specs.List.{list_any}
use Rattle.std.specs.Str.{bytes_eq}
use Rattle.rule_table.specs.Target.{StoredTarget, target_of}
use Rattle.config_views.proofs.targets.has_target_arn.Goals as goal

any_stored : (arn : List ℕ) (rows : List StoredTarget)
    → list_any (λ stored. bytes_eq stored.row.endpoint arn) rows ≡ list_any (λ target. bytes_eq target.arn arn) (map target_of rows)
any_stored arn [] = refl
any_stored arn (row ∷ rows) = ap (λ rest. bytes_eq row.row.endpoint arn || rest) (any_stored arn rows)

pub returns : goal.returns
returns c =
    let arn = c.args.arn.now in
    c.is_arn_of_any.ensures ∙ any_stored arn c.targets.result.now ∙ ap (list_any (λ target. bytes_eq target.arn arn)) c.targets.ensures.targets
