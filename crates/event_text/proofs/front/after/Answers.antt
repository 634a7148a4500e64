use Rattle.std.proofs.lemmas.Bool.Decides.{Decides-eqb}
use Rattle.std.proofs.lemmas.Slice.Eq.{strip_prefix_is}
use Rattle.event_text.proofs.TextLemmas.{begun}
use Rattle.event_text.proofs.front.after.Goals as goal

pub returns : goal.returns
returns c = begun c.args.bytes.now c.args.front.now c.strip_prefix.result
    (strip_prefix_is Decides-eqb c.args.bytes.now c.args.front.now c.strip_prefix.result c.strip_prefix.ensures.cases)
