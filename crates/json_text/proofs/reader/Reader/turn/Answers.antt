use Rattle.json_text.specs.{Kept.IsState, Reading.whole}
use Rattle.std.proofs.Common.{subst}
use Rattle.json_text.proofs.StepLemmas.{whole_other, barred}
use Rattle.json_text.proofs.reader.Reader.turn.Goals as goal

pub returns-clause-goes : goal.returns-clause-goes
returns-clause-goes c s st = let end = subst (λ next. IsState next c.args.self.now.waiting.items c.args.self.now.repeat s) c.in-End.is st in
    barred c.args.self.now.levels s (whole end.0) c.args.byte c.args.place end.1 c.requires.first c.not_json.result
    (whole_other c.args.self.now.levels c.args.place.at end.0 c.args.byte c.requires.no_space) c.not_json.ensures
