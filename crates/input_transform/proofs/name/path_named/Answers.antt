use Rattle.std.proofs.Common.{◌∙◌, ap, sym}
use Rattle.std.specs.Str.{bytes_eq}
use Rattle.input_transform.proofs.NameLemmas.{path_at}
use Rattle.input_transform.proofs.name.path_named.Goals as goal

pub returns-then-eq : goal.returns-then-eq
returns-then-eq c =
    let same = ap (bytes_eq c.args.name.now) (sym (c.as_bytes.ensures.value ∙ c.as_str.ensures)) ∙ sym c.if-eq.ensures in
    path_at c.args.name.now c.args.paths.now c.loop-place.place c.index-paths-place.result c.loop-place-test.true c.index-paths-place.is same c.loop-place.invariant
