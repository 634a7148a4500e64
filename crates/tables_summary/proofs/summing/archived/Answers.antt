use Rattle.std.proofs.Common.{◌<◌, ◌^◌, sym, subst}
use Rattle.archive_keep.specs.Archives.{event_count}
use Rattle.rule_table.specs.Sound.{IsSound}
use Rattle.tables_summary.proofs.CountLemmas.{count_small}
use Rattle.tables_summary.proofs.summing.archived.Goals as goal

pub count-requires : goal.count-requires
count-requires c =
    let sound = subst IsSound c.set.ensures c.control_count-version.ensures.sound in
    subst (λ rows. event_count rows < 2 ^ 64) (sym c.archives.ensures) (count_small c.args.tables.now c.full-full.ensures.consistent sound)
