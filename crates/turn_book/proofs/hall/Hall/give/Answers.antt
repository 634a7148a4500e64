use Rattle.std.proofs.Common.{◌≡◌, ◌+◌, [], ◌∷◌, Some, sym, ap, ◌∙◌, subst, arith}
use mathlib.Core.Option.{none}
use Rattle.std.proofs.Common.{◌%◌}
use Rattle.atomic_table.specs.Table.{rest, Allows, step}
use Rattle.turn_book.specs.Rule.{Holds, gave}
use Rattle.turn_book.proofs.Steps.{gives_back}
use Rattle.turn_book.proofs.hall.Hall.give.Goals as goal

pub fetch_add-requires : goal.fetch_add-requires
fetch_add-requires g c = let old = c.args.pass.now.seat in let new = c.exchange-before.new.seat in let x = c.args.value in
    let words = c.args.self.now.shape.0 in let one = c.args.pass.now.is_pass.1 in
    let (here, _, _, changed) = c.exchange-before.ensures in
    let (added, story, only) = c.requires.longer in
    let is : new.me ≡ (old.me.0, (0, Some x) ∷ []) = changed ∙ ap (λ l. (old.me.0, (0, Some x) ∷ rest l)) c.requires.turn.1 in
    let go = gives_back g.V.Story.turns g.V.Story.made_by g.V.Story.sound c.args.self.now.table.shared.table_id.slots new.id old.me.0 x added c.requires.turn.0 (omega arith) story only c.requires.sound in (
      here ∙ c.requires.here,
      omega arith,
      subst (λ m. Allows (Holds g.V.Story.turns g.V.Story.made_by g.V.Story.sound) c.args.self.now.table.shared.table_id.slots new.id m 1 (λ n. (n + 1) % 18446744073709551616)
          (gave g.V.Story.turns (step c.args.self.now.table.shared.table_id.slots 1 1 0 none) m)) (sym is) go,
    )
