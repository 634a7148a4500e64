use Rattle.std.proofs.Common.{[], map, sym, ap, ◌∙◌, subst}
use Rattle.step_run.specs.Act as step
use Rattle.router_history.specs.declared.book.Seat.{Seat}
use Rattle.router_history.specs.Acts.{act_of}
use Rattle.router_sessions.specs.Desk.{Known, turns_seen, SeesMore}
use Rattle.router_sessions.specs.Delivery.{Made}
use Rattle.router_sessions.specs.Repeating.{RepeatsFrom}
use Rattle.router_sessions.proofs.DidLemmas.{made_start}
use Rattle.router_sessions.proofs.RepeatLemmas.{repeats_from}
use Rattle.router_sessions.proofs.replays.repeat_by.Goals as goal

pub returns-clause-pass : goal.returns-clause-pass
returns-clause-pass g c =
    let (new, ended) = c.pass-1.given in
    let is = ended (sym c.run_steps.ensures.lender) in
    let (table, free, number, passes, made, book) = c.run_steps.ensures.sound.0 in (
      ap (λ p. p.seat.table_id) is ∙ table ∙ sym c.requires.hall.1,
      ap (λ p. p.seat.me.0.number) is ∙ number ∙ sym (ap (λ (s : Seat). s.pass) c.requires.seat),
      ap (λ p. p.seat.me.0.passes) is ∙ passes ∙ sym c.requires.passes.0,
      ap (λ p. p.seat.me.0.made) is ∙ made ∙ sym c.requires.passes.1,
    )

pub returns-clause-more : goal.returns-clause-more
returns-clause-more g c =
    let (new, ended) = c.pass-1.given in
    let is = ended (sym c.run_steps.ensures.lender) in
    let (acts, did, ran, gave) = c.run_steps.ensures.stepped in
    let done : Made g.N.Naming.seat c.args.pass.now.seat c.run_steps.new.book.pass.now.seat (map act_of (step.book_acts_in acts)) =
    did c.args.pass.now.seat [] (made_start g.N.Naming.seat c.args.pass.now.seat c.requires.book) in
    subst (λ (known : Known _). SeesMore c.args.pass.now.seat known) (sym (ap (λ p. p.seat) is)) done.more

pub returns-clause-repeats : goal.returns-clause-repeats
returns-clause-repeats g c =
    let (new, ended) = c.pass-1.given in
    let is = ended (sym c.run_steps.ensures.lender) in
    let (acts, did, ran, gave) = c.run_steps.ensures.stepped in
    let done : Made g.N.Naming.seat c.args.pass.now.seat c.run_steps.new.book.pass.now.seat (map act_of (step.book_acts_in acts)) =
    did c.args.pass.now.seat [] (made_start g.N.Naming.seat c.args.pass.now.seat c.requires.book) in
    subst (λ (known : Known _). RepeatsFrom g.N.Naming.seat c.args.budget (turns_seen c.args.pass.now.seat) (turns_seen known)
    (g.C.Clock.gave c.args.clock.now) (g.C.Clock.gave c.run_steps.new.clock) c.run_steps.result)
    (sym (ap (λ p. p.seat) is))
    (repeats_from g.N.Naming.seat c.args.budget (turns_seen c.args.pass.now.seat) (turns_seen c.run_steps.new.book.pass.now.seat) _ _ c.run_steps.result acts
    done.makes ran gave)
