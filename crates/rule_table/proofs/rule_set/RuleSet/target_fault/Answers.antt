use Rattle.std.proofs.Common.{◌≡◌, if◌then◌else◌, length, map, Some, None, sym, ap, ◌∙◌}
use Rattle.json_text.specs.Checks.{first_fault}
use Rattle.name_rows.specs.Rows.{placed, replacing}
use Rattle.rule_targets.specs.Target.{put_as}
use Rattle.rule_table.specs.declared.control.TargetFault.TheVariants as fault
use Rattle.rule_table.specs.Refusal.{own_checks}
use Rattle.rule_table.proofs.RowLemmas.{length_names}
use Rattle.rule_table.proofs.TargetLemmas.{id_of}
use Rattle.rule_table.proofs.AllowedLemmas.{fault_found, room_decides}
use Rattle.rule_table.proofs.rule_set.RuleSet.target_fault.Goals as goal

pub returns-in-Some : goal.returns-in-Some
returns-in-Some c = sym (fault_found c.args.self.now _ c.args.target.now c.in-Some.fault (sym c.in_ok-fault.ensures ∙ c.in-Some.is))

pub returns-in-None : goal.returns-in-None
returns-in-None c =
    let set = c.args.self.now in
    let target = c.args.target.now in
    let targets = c.args.targets.now in
    let none : first_fault (own_checks set target) ≡ None = sym c.in_ok-fault.ensures ∙ c.in-None.is in
    let count = ap (λ id. length (placed (λ n. n) replacing id (map id_of targets))) c.as_str.ensures ∙ length_names id_of (put_as target) targets in
    c.room_fault.ensures ∙ ap (λ b. if b then Some fault.Sixth else None) c.is_sixth.ensures ∙ room_decides set targets target _ none count
