use Rattle.std.proofs.Common.{◌<◌, subst, arith}
use Rattle.turn_book.proofs.Steps.{IsLast, taken}
use Rattle.turn_book.proofs.hall.Hall.empty.Goals as goal

pub unreachable-requires : goal.unreachable-requires
unreachable-requires g c = let (maker, whole, idle) = c.requires.all in
    let last = taken g.V.Story.turns g.V.Story.made_by g.V.Story.sound c.args.seat.id c.args.seat.me.0 _ _ c.take-value.result
    c.close_with-closed.ensures.values.2 c.take-value.ensures.value maker whole idle in
    let no : 1 < 1 = subst (IsLast g.V.Story.turns g.V.Story.made_by g.V.Story.sound c.args.seat.me.0) c.in_default.is last in absurd (omega arith)

pub returns-clause-history : goal.returns-clause-history
returns-clause-history g c = let (maker, whole, idle) = c.requires.all in
    let last = taken g.V.Story.turns g.V.Story.made_by g.V.Story.sound c.args.seat.id c.args.seat.me.0 _ _ c.take-value.result
    c.close_with-closed.ensures.values.2 c.take-value.ensures.value maker whole idle in
    (subst (IsLast g.V.Story.turns g.V.Story.made_by g.V.Story.sound c.args.seat.me.0) c.in-Some.is last).1

pub returns-clause-sound : goal.returns-clause-sound
returns-clause-sound g c = let (maker, whole, idle) = c.requires.all in
    let last = taken g.V.Story.turns g.V.Story.made_by g.V.Story.sound c.args.seat.id c.args.seat.me.0 _ _ c.take-value.result
    c.close_with-closed.ensures.values.2 c.take-value.ensures.value maker whole idle in
    (subst (IsLast g.V.Story.turns g.V.Story.made_by g.V.Story.sound c.args.seat.me.0) c.in-Some.is last).0

pub returns-clause-unmade : goal.returns-clause-unmade
returns-clause-unmade g c = let (maker, whole, idle) = c.requires.all in
    let last = taken g.V.Story.turns g.V.Story.made_by g.V.Story.sound c.args.seat.id c.args.seat.me.0 _ _ c.take-value.result
    c.close_with-closed.ensures.values.2 c.take-value.ensures.value maker whole idle in
    (subst (IsLast g.V.Story.turns g.V.Story.made_by g.V.Story.sound c.args.seat.me.0) c.in-Some.is last).2

pub returns-clause-joined : goal.returns-clause-joined
returns-clause-joined g c = let (maker, whole, idle) = c.requires.all in
    let last = taken g.V.Story.turns g.V.Story.made_by g.V.Story.sound c.args.seat.id c.args.seat.me.0 _ _ c.take-value.result
    c.close_with-closed.ensures.values.2 c.take-value.ensures.value maker whole idle in
    (subst (IsLast g.V.Story.turns g.V.Story.made_by g.V.Story.sound c.args.seat.me.0) c.in-Some.is last).3
