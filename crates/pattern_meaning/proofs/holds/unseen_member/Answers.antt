use Rattle.pattern_meaning.proofs.UnseenLemmas.{other_text}
use Rattle.pattern_meaning.proofs.holds.unseen_member.Goals as goal

pub returns : goal.returns
returns c = other_text
