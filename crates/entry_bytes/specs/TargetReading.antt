-- For private clauses alone: targets, rules, archives and duties, by their fields as they are read.
use Rattle.std.specs.Option.{option_map}
use Rattle.input_transform.specs.Names.{after_slash}
use Rattle.rule_targets.specs.declared.target.Target.{Target}
use Rattle.rule_table.specs.Control.{Control, rule_put, archive_created, archive_updated}
use Rattle.delivery_duties.specs.declared.duty.NewDuty.{NewDuty}
use Rattle.entry_bytes.specs.declared.change.RuleParts.{RuleParts}
use Rattle.entry_bytes.specs.declared.archive.ArchiveParts.{ArchiveParts}
use Rattle.entry_bytes.specs.declared.archive.UpdateParts.{UpdateParts}
use Rattle.entry_bytes.specs.declared.target.TargetParts.{TargetParts}
use Rattle.entry_bytes.specs.declared.duty.DutyParts.{DutyParts}

-- a target with these members
abbrev pub parts_of : TargetParts → Target
parts_of p = record { id = p.id.now; arn = p.arn.now; input = p.input; retry = p.retry; dead_letter = option_map (λ t. t.now) p.dead_letter }

-- a rule that is put with these fields
abbrev pub rule_of : RuleParts → Control
rule_of p = rule_put p.bus.now p.name.now p.pattern.now p.enabled

-- an archive that is created with these fields
abbrev pub archive_of : ArchiveParts → Control
archive_of p = archive_created p.name.now p.bus.now (option_map (λ t. t.now) p.pattern) p.days

-- an archive that gets these fields
abbrev pub update_of : UpdateParts → Control
update_of p = archive_updated p.name.now (option_map (λ t. t.now) p.pattern) p.days

-- a duty with these fields
abbrev pub duty_of : DutyParts → NewDuty
duty_of p = record {
  target = record {
    rule_arn = p.rule_arn.now;
    rule_name = after_slash p.rule_arn.now;
    target_id = p.target_id.now;
    endpoint = p.endpoint.now;
    dead_letter = option_map (λ t. t.now) p.dead_letter;
    attempts = p.attempts;
    age = p.age;
  };
  text = p.text.now;
  too_long = p.too_long;
}
