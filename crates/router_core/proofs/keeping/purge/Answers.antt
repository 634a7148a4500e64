use Rattle.std.proofs.Common.{◌≤◌, ℕ, List, length, ap, arith}
use Rattle.std.proofs.lemmas.List.{length-map}
use Rattle.archive_keep.specs.Archives.{name_of}
use Rattle.router_core.proofs.KeepingLemmas.{count_small, row_name}
use Rattle.router_core.proofs.keeping.purge.Goals as goal

pub purge-requires : goal.purge-requires
purge-requires c =
    let archives = c.args.archives.now in
    let (events, small, all) = c.requires.few in
    let sound = c.control_count-version.ensures.sound in
    let few : length archives ≤ 100 =
    omega (
      arith,
      ap (length {A = List ℕ}) c.requires.names,
      length-map archives name_of,
      length-map c.args.set.now.archives row_name,
      sound.archives.few,
    ) in
    record { room = count_small archives events few small all }
