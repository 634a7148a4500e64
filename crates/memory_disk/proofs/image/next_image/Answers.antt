use Rattle.std.proofs.Common.{sym, subst, ◌∙◌}
use Rattle.std.proofs.lemmas.Result.{IfOk-weaker}
use Rattle.memory_disk.specs.HeldDisk.{IsNextImage, file_in}
use Rattle.memory_disk.specs.Tape.{call_of}
use Rattle.memory_disk.proofs.HeldDiskLemmas.{shortened_none}
use Rattle.memory_disk.proofs.image.next_image.Goals as goal

pub returns-in-Cut : goal.returns-in-Cut
returns-in-Cut c =
    let image = c.args.left.now.image.items in
    IfOk-weaker c.to_vec-in-Cut.result _ _
    (λ new is.
    subst (λ call. IsNextImage (file_in c.args.left.now) (call_of call) image new.items) (sym c.in-Cut.is)
    (shortened_none c.in-Cut.field-0 image new.items (is (λ x y same. same) ∙ c.as_slice-in-Cut.ensures.value)))
    c.to_vec-in-Cut.ensures.items_if_clones_equal
