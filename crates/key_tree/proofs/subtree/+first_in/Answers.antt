use Rattle.std.proofs.Common.{◌++◌, ◌∷◌, ap, sym, ◌∙◌}
use Rattle.key_tree.specs.Subtree.{entries, entry_of}
use Rattle.key_tree.proofs.subtree.+first_in.Goals as goal

pub returns-in-None : goal.returns-in-None
returns-in-None g n c =
    let top = c.in-Full.top.value in
    let lower = ap (λ b. entries b.lower) (sym c.deref.ensures) ∙ c.in-None.ensures in (
      entries top.upper,
      ap entries c.in-Full.is ∙ ap (λ es. es ++ entry_of top ∷ entries top.upper) lower
          ∙ ap (λ b. entry_of b ∷ entries top.upper) (sym c.deref-in-None.ensures),
    )
