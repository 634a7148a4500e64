use Rattle.std.proofs.Common.{Bool, ℕ, sym, subst}
use Rattle.courier_run.specs.Link.{outside}
use Rattle.router_history.specs.Book.{Rests}
use Rattle.router_sessions.specs.Desk.{seen_by, turns_seen, number_of}
use Rattle.router_history.specs.Visit.{IsVisit}
use Rattle.router_sessions.proofs.OwesLemmas.{owes_rests, rests_owes}
use Rattle.session_workers.specs.Jobs.{outside_of, session_by, ServesOne}
use Rattle.session_workers.proofs.JobsLemmas.{done_session}
use Rattle.session_workers.proofs.VisitLemmas.{visit_of}
use Rattle.session_workers.proofs.clerk.converse.Goals as goal

pub serve_session-end-requires-clause-rests : goal.serve_session-end-requires-clause-rests
serve_session-end-requires-clause-rests g c κs lives = owes_rests (number_of c.args.pass.now.seat) (seen_by c.args.pass.now.seat) c.requires.rests

pub returns-clause-rests : goal.returns-clause-rests
returns-clause-rests g c =
    let after = c.serve_session-end in
    rests_owes (number_of after.new.pass.seat) (seen_by after.new.pass.seat)
    (subst (λ (n : ℕ). Rests n (turns_seen after.new.pass.seat)) (sym after.ensures.pass.0.1) after.ensures.rests)

pub returns-clause-visit : goal.returns-clause-visit
returns-clause-visit g c =
    let after = c.serve_session-end in
    let gave = g.I.Source.gave in let wrote = g.O.Sink.wrote in let reads = g.I.Source.faults in let writes = g.O.Sink.faults in
    let came : g.row.I.Denot × g.row.O.Denot = (c.args.input.now, c.args.output.now) in
    let went : g.row.I.Denot × g.row.O.Denot = (after.new.input, after.new.output) in
    subst (λ (b : Bool). IsVisit gave wrote reads writes c.args.number came went b (seen_by c.args.pass.now.seat) (seen_by after.new.pass.seat)) (sym c.was_cut.ensures)
    (visit_of gave wrote reads writes c.args.number came went c.args.pass.now.seat after.new.pass.seat after.result _ _ _ _ _ _ after.ensures.more after.ensures.session
    after.ensures.read_fault after.ensures.input_faultless after.ensures.write_fault after.ensures.output_faultless)

pub returns-clause-serves : goal.returns-clause-serves
returns-clause-serves g c =
    let after = c.serve_session-end in let link = c.args.own.now.0 in let clock = c.args.own.now.1 in
    let gave = g.I.Source.gave in let wrote = g.O.Sink.wrote in
    let came : g.row.I.Denot × g.row.O.Denot = (c.args.input.now, c.args.output.now) in
    let went : g.row.I.Denot × g.row.O.Denot = (after.new.input, after.new.output) in
    subst (λ (b : Bool). ServesOne gave wrote (number_of c.args.pass.now.seat) (session_by c.args.number (number_of c.args.pass.now.seat) came went b (seen_by c.args.pass.now.seat))
    (outside (g.C.Clock.gave clock) (g.L.Link.exchanges link) (g.L.Link.faults link))
    (outside (g.C.Clock.gave after.new.clock) (g.L.Link.exchanges after.new.link) (g.L.Link.faults after.new.link))
    (seen_by c.args.pass.now.seat) (seen_by after.new.pass.seat)) (sym c.was_cut.ensures)
    (done_session gave wrote c.args.number came went c.args.pass.now.seat after.new.pass.seat after.result (g.C.Clock.gave clock) (g.C.Clock.gave after.new.clock)
    (g.L.Link.exchanges link) (g.L.Link.exchanges after.new.link) (g.L.Link.faults link) (g.L.Link.faults after.new.link) after.ensures.book after.ensures.session)
