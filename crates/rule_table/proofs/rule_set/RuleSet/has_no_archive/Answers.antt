use Rattle.std.proofs.Common.{◌≡◌, true, false, sym, ap, ◌∙◌}
use Rattle.std.specs.Str.{bytes_eq}
use Rattle.rule_table.proofs.ArchiveLemmas.{on_bus, archive_off, archive_on, no_archive}
use Rattle.rule_table.proofs.rule_set.RuleSet.has_no_archive.Goals as goal

pub loop-archive-preserved : goal.loop-archive-preserved
loop-archive-preserved c =
    let bus = c.args.bus.now in
    let archive = c.in-Some.archive.now in
    let off : bytes_eq archive.bus bus ≡ false = ap (λ name. bytes_eq name bus) (sym c.bus.ensures) ∙ sym c.eq.ensures ∙ c.if-eq.false in
    archive_off bus archive c.loop-archive.archives c.next.new.self (on_bus bus c.args.self.now.archives) c.in-Some.ensures.steps off c.loop-archive.invariant

pub returns-then-eq : goal.returns-then-eq
returns-then-eq c =
    let bus = c.args.bus.now in
    let archive = c.in-Some.archive.now in
    let on : bytes_eq archive.bus bus ≡ true = ap (λ name. bytes_eq name bus) (sym c.bus.ensures) ∙ sym c.eq.ensures ∙ c.if-eq.true in
    archive_on bus archive c.loop-archive.archives c.next.new.self (on_bus bus c.args.self.now.archives) c.in-Some.ensures.steps on c.loop-archive.invariant

pub returns : goal.returns
returns c =
    no_archive c.args.bus.now c.loop-archive.archives (on_bus c.args.bus.now c.args.self.now.archives) c.in_default.ensures.steps.0 c.loop-archive.invariant
