use Rattle.std.proofs.Common.{ℕ, List, Option, ap, sym, subst, ◌∙◌}
use Rattle.std.specs.Prelude.{All, IfSome}
use Rattle.std.specs.List.{list_all}
use Rattle.event_shape.specs.Names.{IsShortName, is_short_name}
use Rattle.duty_journal.proofs.AdmitLemmas.{all_tested, tested_all}
use Rattle.duty_journal.proofs.replays.are_rules_named.Goals as goal

pub returns-in-Some : goal.returns-in-Some
returns-in-Some c =
    let Named : Option (List (List ℕ)) → Type 0 = λ o. IfSome o (All IsShortName) in
    let is = c.are_rule_names.ensures ∙ ap (list_all is_short_name) c.names.ensures in (
      λ yes. subst Named (sym c.in-Some.is) (tested_all is_short_name c.in-Some.rules (sym is ∙ yes)),
      λ all. is ∙ all_tested is_short_name c.in-Some.rules (subst Named c.in-Some.is all),
    )
