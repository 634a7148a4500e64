use Rattle.std.proofs.Common.{◌&&◌, ap, sym, ◌∙◌}
use Rattle.pattern_meaning.specs.Frames.{path_of}
use Rattle.pattern_meaning.specs.Meets.{same_path}
use Rattle.pattern_meaning.proofs.GatherLemmas.{key_root, key_key}
use Rattle.pattern_meaning.proofs.absent.+is_same.Goals as goal

pub returns-in-Root-b-2 : goal.returns-in-Root-b-2
returns-in-Root-b-2 t c = key_root c.args.a.now c.args.b.now c.in-Key.key c.in-Key.up c.in-Key.is c.in-Root-b-2.is

pub returns-then-eq : goal.returns-then-eq
returns-then-eq t c =
    let s = same_path (path_of c.in-Key.up.now) (path_of c.in-Key-b-2.above.now) in
    c.is_same.ensures
    ∙ sym (key_key c.args.a.now c.args.b.now c.in-Key.key c.in-Key-b-2.other c.in-Key.up c.in-Key-b-2.above c.in-Key.is c.in-Key-b-2.is
    ∙ ap (λ x. x && s) (sym c.eq.ensures ∙ c.if-eq.true))

pub returns-else-eq : goal.returns-else-eq
returns-else-eq t c =
    let s = same_path (path_of c.in-Key.up.now) (path_of c.in-Key-b-2.above.now) in
    c.if-eq.false
    ∙ sym (key_key c.args.a.now c.args.b.now c.in-Key.key c.in-Key-b-2.other c.in-Key.up c.in-Key-b-2.above c.in-Key.is c.in-Key-b-2.is
    ∙ ap (λ x. x && s) (sym c.eq.ensures ∙ c.if-eq.false))
