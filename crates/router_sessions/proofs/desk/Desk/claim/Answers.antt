use Rattle.std.proofs.Common.{ℕ, List, [], ◌∷◌, sym, ◌∙◌, subst}
use Rattle.courier_run.specs.Act.{looks}
use Rattle.courier_run.specs.Book.{HasCause}
use Rattle.router_history.specs.declared.book.Seat.{Seat}
use Rattle.router_history.specs.History.{Turn, state_of}
use Rattle.router_history.specs.Held.{held_claim}
use Rattle.router_history.specs.Book.{Rests}
use Rattle.router_history.specs.Acts.{Makes, IsIdle, IsFullAt, IsBrokenAt}
use Rattle.router_history.specs.Answered.{IsClaimed}
use Rattle.router_sessions.specs.Desk.{turns_seen}
use Rattle.router_sessions.proofs.DeskLemmas.{seen_of, taken, claimed_later, looked, learned_alone, rests_there, rests_more, extends, own_number, pass_of}
use Rattle.router_history.proofs.ResultLemmas.{map_some, map_none, map_err}
use Rattle.router_sessions.proofs.desk.Desk.claim.Goals as goal

pub claim-held-requires-clause-rests : goal.claim-held-requires-clause-rests
claim-held-requires-clause-rests g c κs lives =
    rests_there c.seat-seat.result c.args.pass.now.seat c.take-book.result.machine
    (own_number c.args.self.connection c.args.pass.now.seat c.seat-seat.result c.seat-seat.ensures) c.take-book.ensures.history c.requires.rests

pub give-requires-clause-longer : goal.give-requires-clause-longer
give-requires-clause-longer g c =
    extends c.seat-seat.result c.take-book.new.pass.seat c.take-book.result.machine c.claim-held.new.self.machine c.claim-held.ensures.grows c.take-book.ensures.seen
    (pass_of c.args.self.connection c.args.pass.now.seat c.take-book.new.pass.seat c.seat-seat.result c.seat-seat.ensures c.take-book.ensures.pass.0)

pub returns-clause-held : goal.returns-clause-held
returns-clause-held g c = map_some c.claim-held.result _ _
    (λ held is. subst (λ (s : Seat). IsClaimed s c.args.reading (turns_seen c.args.pass.now.seat) (turns_seen c.give.new.pass.seat) (held_claim held)) c.seat-seat.ensures
    (claimed_later c.args.reading (held_claim held)
    (taken c.seat-seat.result c.args.pass.now.seat c.give.new.pass.seat c.take-book.result.machine c.claim-held.new.self.machine
    (own_number c.args.self.connection c.args.pass.now.seat c.seat-seat.result c.seat-seat.ensures) c.requires.book c.take-book.ensures.history
    c.take-book.ensures.sound.kept c.give.ensures.seen) is))
    c.claim-held.ensures.held

pub returns-clause-idle : goal.returns-clause-idle
returns-clause-idle g c = map_none c.claim-held.result _ _
    (λ is.
    let number = own_number c.args.self.connection c.args.pass.now.seat c.seat-seat.result c.seat-seat.ensures in
    let alone = learned_alone c.seat-seat.result c.args.pass.now.seat c.give.new.pass.seat c.take-book.result.machine c.claim-held.new.self.machine number
    c.take-book.ensures.history c.give.ensures.seen is.1 in (
      subst (λ (ts : List Turn). IsIdle (state_of ts) c.args.reading)
          (sym (seen_of c.claim-held.new.self.machine c.give.new.pass.seat c.give.ensures.seen ∙ is.1)) is.0,
      subst (λ (s : Seat). Makes s (looks (state_of (turns_seen c.give.new.pass.seat)) ∷ []) (turns_seen c.args.pass.now.seat) (turns_seen c.give.new.pass.seat))
          c.seat-seat.ensures
          (looked c.seat-seat.result c.args.pass.now.seat c.give.new.pass.seat c.take-book.result.machine c.claim-held.new.self.machine number
          c.take-book.ensures.history c.give.ensures.seen is.1),
      subst (λ (n : ℕ). Rests n (turns_seen c.give.new.pass.seat)) number
          (rests_more c.seat-seat.result (turns_seen c.args.pass.now.seat) (turns_seen c.give.new.pass.seat) alone
          (subst (λ (n : ℕ). Rests n (turns_seen c.args.pass.now.seat)) (sym number) c.requires.rests)),
    ))
    c.claim-held.ensures.idle

pub returns-clause-refused : goal.returns-clause-refused
returns-clause-refused g c = map_err c.claim-held.result _ _
    (λ fault is.
    let number = own_number c.args.self.connection c.args.pass.now.seat c.seat-seat.result c.seat-seat.ensures in
    let alone = learned_alone c.seat-seat.result c.args.pass.now.seat c.give.new.pass.seat c.take-book.result.machine c.claim-held.new.self.machine number
    c.take-book.ensures.history c.give.ensures.seen is.1 in (
      subst (λ (ts : List Turn). HasCause (IsFullAt (state_of ts) c.args.reading) (IsBrokenAt (state_of ts) c.args.reading) fault)
          (sym (seen_of c.claim-held.new.self.machine c.give.new.pass.seat c.give.ensures.seen ∙ is.1)) is.0,
      subst (λ (s : Seat). Makes s (looks (state_of (turns_seen c.give.new.pass.seat)) ∷ []) (turns_seen c.args.pass.now.seat) (turns_seen c.give.new.pass.seat))
          c.seat-seat.ensures
          (looked c.seat-seat.result c.args.pass.now.seat c.give.new.pass.seat c.take-book.result.machine c.claim-held.new.self.machine number
          c.take-book.ensures.history c.give.ensures.seen is.1),
      subst (λ (n : ℕ). Rests n (turns_seen c.give.new.pass.seat)) number
          (rests_more c.seat-seat.result (turns_seen c.args.pass.now.seat) (turns_seen c.give.new.pass.seat) alone
          (subst (λ (n : ℕ). Rests n (turns_seen c.args.pass.now.seat)) (sym number) c.requires.rests)),
    ))
    c.claim-held.ensures.refused
