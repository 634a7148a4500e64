use Rattle.router_core.proofs.TablesLemmas.{archive_known}
use Rattle.router_core.proofs.tables.row_in.Goals as goal

pub unreachable-requires : goal.unreachable-requires
unreachable-requires c = archive_known c.args.set.now c.args.name.now c.requires c.in-None.ensures
