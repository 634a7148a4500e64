use Rattle.std.proofs.Common.{sym, ◌∙◌}
use Rattle.json_text.specs.View.{tree_of}
use Rattle.bus_policy.proofs.ReadLemmas.{read_stored}
use Rattle.bus_policy.proofs.reading.checked.Goals as goal

pub of-requires : goal.of-requires
of-requires c = read_stored (tree_of c.args.json.now) (tree_of c.in_ok-value-in-None.value) c.requires
    (sym c.fault_of.ensures ∙ c.in-None.is) c.in_ok-value-in-None.ensures
