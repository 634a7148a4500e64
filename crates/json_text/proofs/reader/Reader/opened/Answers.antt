use Rattle.std.proofs.Common.{arith}
use Rattle.json_text.proofs.StepLemmas.{opened_too_deep, opened_goes}
use Rattle.json_text.proofs.reader.Reader.opened.Goals as goal

pub returns-then-len-self : goal.returns-then-len-self
returns-then-len-self c outer kept r =
    opened_too_deep c.args.next c.args.self.now.levels c.args.place.at c.args.self.now.waiting.items outer c.args.place.rest.now c.requires kept
    (omega (arith, c.args.self.now.waiting.ok.0))

pub returns : goal.returns
returns c outer kept r =
    opened_goes c.args.next c.args.self.now.levels c.args.place.at c.args.self.now.waiting.items c.args.self.now.repeat outer c.args.place.rest.now
    c.after.result.at c.after.result.rest.now c.requires kept r (omega (arith, c.args.self.now.waiting.ok.0)) c.after.ensures.at c.after.ensures.rest
