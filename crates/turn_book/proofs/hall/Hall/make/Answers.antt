use Rattle.std.proofs.Common.{rules, ◌≡◌, [], ◌∷◌, Some}
use Rattle.turn_book.proofs.Steps.{opens}
use Rattle.turn_book.proofs.hall.Hall.make.Goals as goal

pub new-requires : goal.new-requires
new-requires g c = let about : c.of-about.result.value ≡ c.args.value = c.of-about.ensures in
    let items : c.push.new.self.items ≡ Some c.args.value ∷ [] = search rules in
    rw (about, items) (opens g.V.Story.turns g.V.Story.made_by g.V.Story.sound c.args.value c.requires.sound c.requires.unmade)
