use Rattle.std.proofs.Common.{ap, ◌∙◌, ◌++◌, ◌∷◌, []}
use Rattle.shared_door.specs.declared.acts.Act.TheVariants as act
use Rattle.shared_door.proofs.porch.Porch.back.Goals as goal

pub returns-clause-acts : goal.returns-clause-acts
returns-clause-acts g c = let (v, is, added) = c.leave.ensures.acts in (
  v,
  record {
    number = is.number;
    pass_is = is.pass_is ∙ c.number-pass.ensures;
    arrival = is.arrival;
    went = is.went;
    cut_is = is.cut_is;
    before_is = is.before_is;
    seen_is = is.seen_is;
  },
  added ∙ ap (λ l. l ++ act.Ended v ∷ []) c.meet.ensures.same.1,
)
