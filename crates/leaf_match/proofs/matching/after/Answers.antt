use Rattle.std.proofs.Common.{sym, subst}
use Rattle.leaf_match.specs.Place.{IsBehind}
use Rattle.leaf_match.proofs.matching.after.Goals as goal

pub returns-in-Letter : goal.returns-in-Letter
returns-in-Letter c = subst (λ piece. IsBehind piece c.args.text.now c.args.at c.after_letter.result) (sym c.in-Letter.is) c.after_letter.ensures

pub returns-in-OneCharacter : goal.returns-in-OneCharacter
returns-in-OneCharacter c = subst (λ piece. IsBehind piece c.args.text.now c.args.at c.after_character.result)
    (sym c.in-OneCharacter.is) c.after_character.ensures
