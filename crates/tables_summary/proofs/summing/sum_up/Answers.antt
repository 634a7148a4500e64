use Rattle.std.proofs.Common.{◌≡◌, ℕ, List, ◌++◌, ap, inl, inr, refl, subst, ◌∙◌}
use Rattle.program_lines.specs.Printed.{summary_lines}
use Rattle.tables_summary.specs.Summary.{WritesPart}
use Rattle.tables_summary.proofs.summing.sum_up.Goals as goal

pub returns-in-Ok-write_all-clause-summed : goal.returns-in-Ok-write_all-clause-summed
returns-in-Ok-write_all-clause-summed g c =
    inl (
      refl,
      subst (λ (bs : List ℕ). g.K.Sink.wrote c.write_all.new.self ≡ g.K.Sink.wrote c.args.output.now ++ bs)
          (c.as_slice.ensures ∙ c.in-Ok.ensures ∙ ap summary_lines c.summary.ensures) c.in-Ok-write_all.ensures.wrote,
    )

pub returns-in-Ok-clause-summed : goal.returns-in-Ok-clause-summed
returns-in-Ok-clause-summed g c =
    inr (inl (
      refl,
      subst (WritesPart (g.K.Sink.wrote c.args.output.now) (g.K.Sink.wrote c.write_all.new.self))
          (c.as_slice.ensures ∙ c.in-Ok.ensures ∙ ap summary_lines c.summary.ensures) c.in-Err-write_all.ensures.wrote,
    ))
