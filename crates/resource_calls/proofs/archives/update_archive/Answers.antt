use Rattle.std.proofs.Common.{◌≡◌, ◌≤◌, ℕ, sym, ap, ◌∙◌, subst}
use Rattle.std.specs.Option.{option_copied}
use Rattle.name_rows.specs.Rows.{named}
use Rattle.archive_keep.specs.Archive.{Archive}
use Rattle.archive_keep.specs.Archives.{name_of}
use Rattle.rule_table.specs.View.{control_of}
use Rattle.rule_table.specs.WellFormed.{most_days}
use Rattle.resource_calls.proofs.ArchiveLemmas.{few_days, formed_so}
use Rattle.resource_calls.proofs.archives.update_archive.Goals as goal

pub configure-requires-clause-form : goal.configure-requires-clause-form
configure-requires-clause-form c = λ allowed.
    let archive : Archive = c.in-Some-find.archive.now in
    let there = ap (named name_of c.as_str-in-Some.result.now) (sym c.archives.ensures) ∙ c.in-Some-find.ensures in
    let few = subst (λ (n : ℕ). n ≤ most_days) (sym c.days.ensures)
    (few_days c.args.tables.now c.as_str-in-Some.result.now archive c.read_tables.ensures.consistent there) in
    formed_so (control_of c.in_ok-control-in-Some-find.control) c.args.name.now c.args.pattern.now c.in-Some.row.now.pattern
    (option_copied c.pattern_after-pattern.result) c.args.days c.days.result c.unwrap_or-days.result c.in_ok-control-in-Some-find.ensures
    c.pattern_after-pattern.ensures.after c.unwrap_or-days.ensures c.requires.form c.pattern_after-pattern.ensures.spelled few
