use Rattle.std.proofs.Common.{ℕ, List, sym, subst}
use Rattle.router_history.specs.declared.book.Seat.{Seat}
use Rattle.router_history.specs.History.{Turn}
use Rattle.router_history.specs.Book.{turns_of, Rests}
use Rattle.router_history.specs.Answered.{IsRepeated, HasNoRepeat, IsUnrepeated}
use Rattle.router_sessions.specs.Desk.{turns_seen}
use Rattle.router_sessions.proofs.DeskLemmas.{seen_of, taken, repeated_later, no_repeat_later, unrepeated_later, rests_there, extends, own_number, pass_of, step_ok, step_err, step_each}
use Rattle.router_sessions.proofs.RepeatLemmas.{repeated_rests, no_repeat_rests, unrepeated_rests}
use Rattle.router_history.proofs.ResultLemmas.{map_some, map_none, map_err}
use Rattle.router_sessions.proofs.desk.Desk.step.Goals as goal

pub give-requires-clause-longer : goal.give-requires-clause-longer
give-requires-clause-longer g c =
    extends c.seat-seat.result c.take-book.new.pass.seat c.take-book.result.machine c.step-stepped.new.self.machine c.step-stepped.ensures.grows c.take-book.ensures.seen
    (pass_of c.args.self.connection c.args.pass.now.seat c.take-book.new.pass.seat c.seat-seat.result c.seat-seat.ensures c.take-book.ensures.pass.0)

pub returns-clause-rests : goal.returns-clause-rests
returns-clause-rests g c =
    let seat = c.seat-seat.result in
    let number = own_number c.args.self.connection c.args.pass.now.seat seat c.seat-seat.ensures in
    let old = turns_of c.take-book.result.machine in
    let new = turns_of c.step-stepped.new.self.machine in
    let rests : Rests seat.pass old =
    rests_there seat c.args.pass.now.seat c.take-book.result.machine number c.take-book.ensures.history c.requires.rests in
    subst (λ (n : ℕ). Rests n (turns_seen c.give.new.pass.seat)) number
    (subst (λ (ts : List Turn). Rests seat.pass ts) (sym (seen_of c.step-stepped.new.self.machine c.give.new.pass.seat c.give.ensures.seen))
    (step_each c.step-stepped.result (IsRepeated seat c.args.reading old new) (HasNoRepeat seat c.args.reading old new)
    (λ fault. IsUnrepeated seat c.args.reading fault old new) (Rests seat.pass new) c.step-stepped.ensures.repeated c.step-stepped.ensures.none
    c.step-stepped.ensures.refused (λ is. repeated_rests seat c.args.reading old new is rests) (λ is. no_repeat_rests seat c.args.reading old new is rests)
    (λ fault is. unrepeated_rests seat c.args.reading fault old new is rests)))

pub returns-clause-stepped : goal.returns-clause-stepped
returns-clause-stepped g c =
    let seat = c.seat-seat.result in
    let old = turns_seen c.args.pass.now.seat in
    let new = turns_seen c.give.new.pass.seat in
    let was = taken seat c.args.pass.now.seat c.give.new.pass.seat c.take-book.result.machine c.step-stepped.new.self.machine
    (own_number c.args.self.connection c.args.pass.now.seat seat c.seat-seat.ensures) c.requires.book c.take-book.ensures.history c.take-book.ensures.sound.kept
    c.give.ensures.seen in
    step_ok c.step-stepped.result c.was_made.result _ _ c.was_made.ensures
    (map_some c.step-stepped.result _ _
    (λ released is. subst (λ (s : Seat). IsRepeated s c.args.reading old new) c.seat-seat.ensures (repeated_later c.args.reading was is)) c.step-stepped.ensures.repeated)
    (map_none c.step-stepped.result _ _
    (λ is. subst (λ (s : Seat). HasNoRepeat s c.args.reading old new) c.seat-seat.ensures (no_repeat_later c.args.reading was is)) c.step-stepped.ensures.none)

pub returns-clause-refused : goal.returns-clause-refused
returns-clause-refused g c =
    let seat = c.seat-seat.result in
    let old = turns_seen c.args.pass.now.seat in
    let new = turns_seen c.give.new.pass.seat in
    let was = taken seat c.args.pass.now.seat c.give.new.pass.seat c.take-book.result.machine c.step-stepped.new.self.machine
    (own_number c.args.self.connection c.args.pass.now.seat seat c.seat-seat.ensures) c.requires.book c.take-book.ensures.history c.take-book.ensures.sound.kept
    c.give.ensures.seen in
    step_err c.step-stepped.result c.was_made.result _ c.was_made.ensures
    (map_err c.step-stepped.result _ _
    (λ fault is. subst (λ (s : Seat). IsUnrepeated s c.args.reading fault old new) c.seat-seat.ensures (unrepeated_later c.args.reading fault was is))
    c.step-stepped.ensures.refused)
