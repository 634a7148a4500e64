use Rattle.std.proofs.Common.{◌≡◌, ◌++◌, take}
use Rattle.std.specs.List.{flat_map, AllByRecursion}
use Rattle.entry_bytes.proofs.lists.put_items.Given as goal

abbrev pub invariant-loop-item : goal.invariant-loop-item
invariant-loop-item g l = record {
  bytes : l.out ≡ l.fn.out ++ flat_map g.T.Put.bytes_of (take l.item-index l.items);
  fits : AllByRecursion g.T.Put.fits (take l.item-index l.items);
}
