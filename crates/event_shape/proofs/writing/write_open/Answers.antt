use Rattle.std.proofs.Common.{◌++◌, ◌-◌, ◌∙◌, take, ap}
use Rattle.json_text.specs.View.{pairs_of}
use Rattle.json_text.specs.Compact.{compact_text}
use Rattle.json_text.proofs.ViewLemmas.{tree_of_object}
use Rattle.event_shape.proofs.WrittenLemmas.{opened}
use Rattle.event_shape.proofs.writing.write_open.Goals as goal

pub returns : goal.returns
returns c =
    let whole = c.in_ok-write.ensures.ok ∙ ap (λ t. c.args.out.now ++ compact_text t) (tree_of_object c.args.members) in
    c.truncate.ensures ∙ ap (λ n. take (n - 1) c.write.new.out) c.len.ensures ∙ opened c.args.out.now c.write.new.out (pairs_of c.args.members.items) whole
