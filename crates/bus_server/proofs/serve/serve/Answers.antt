use Rattle.std.proofs.Common.{◌≡◌, ◌∙◌, ℕ, List, Some, None, subst, sym}
use Rattle.shared_door.specs.Shown.{shown_by}
use Rattle.router_history.specs.Visit.{IsVisit}
use Rattle.session_workers.specs.Jobs.{did_by}
use Rattle.bus_server.specs.Journal.{disks}
use Rattle.bus_server.specs.Serve.{IsUnbroken, around_door}
use Rattle.bus_server.specs.ServeJournal.{IsJournaledServe}
use Rattle.bus_server.proofs.RunLemmas.{seen_none, seen_some}
use Rattle.bus_server.proofs.WordsLemmas.{journal_apart, serve_apart}
use Rattle.bus_server.proofs.serve.serve.Goals as goal

pub returns-in-Some-clause-serve : goal.returns-in-Some-clause-serve
returns-in-Some-clause-serve g c = λ none. let some : Some c.in-Some.path.now ≡ None = sym (seen_some c.args.journal c.in-Some.path (λ s. s.now) c.in-Some.is) ∙ none in absurd (cc (some))

pub returns-in-Some-clause-disks : goal.returns-in-Some-clause-disks
returns-in-Some-clause-disks g c = λ none. let some : Some c.in-Some.path.now ≡ None = sym (seen_some c.args.journal c.in-Some.path (λ s. s.now) c.in-Some.is) ∙ none in absurd (cc (some))

pub returns-in-Some-clause-journaled : goal.returns-in-Some-clause-journaled
returns-in-Some-clause-journaled g c = λ path is.
    let h = g.H.Host in let t = g.C.Clocks in
    let old = c.args.host.now in let new = c.serve_with_journal.new.host in
    let some : Some c.in-Some.path.now ≡ Some path = sym (seen_some c.args.journal c.in-Some.path (λ s. s.now) c.in-Some.is) ∙ is in
    let same : c.in-Some.path.now ≡ path = cc (some) in
    subst (λ (p : List ℕ). IsJournaledServe g.H.Disk.Disk.calls g.H.Disk.Disk.faults (shown_by g.H.Door.Door.faults g.H.Door.Door.ahead g.H.Door.Door.given g.H.Door.Door.ended g.H.Door.Door.gave g.H.Door.Door.took_back g.H.Door.Door.closed)
    (IsVisit g.H.Door.In.Source.gave g.H.Door.Out.Sink.wrote g.H.Door.In.Source.faults g.H.Door.Out.Sink.faults)
    (did_by g.H.Door.In.Source.gave g.H.Door.Out.Sink.wrote g.C.Lent.Clock.gave g.H.Link.Link.exchanges g.H.Link.Link.faults) p c.args.port c.args.workers c.args.connections
    (disks (h.disks_given old) (h.disks_back old) (h.disk_faults old)) (disks (h.disks_given new) (h.disks_back new) (h.disk_faults new))
    (around_door (g.K.Sink.wrote c.args.output.now) (h.doors_given old) (h.doors_back old) (h.links_given old) (h.links_back old)
    (t.clocks_given c.args.clock.now) (t.clocks_back c.args.clock.now) (h.door_faults old) (h.link_faults old))
    (around_door (g.K.Sink.wrote c.serve_with_journal.new.output) (h.doors_given new) (h.doors_back new) (h.links_given new) (h.links_back new)
    (t.clocks_given c.serve_with_journal.new.clock) (t.clocks_back c.serve_with_journal.new.clock) (h.door_faults new) (h.link_faults new)) c.serve_with_journal.result) same c.serve_with_journal.ensures.journaled

pub returns-in-Some-clause-usage : goal.returns-in-Some-clause-usage
returns-in-Some-clause-usage g c =
    journal_apart g.H.Disk.Disk.calls g.H.Disk.Disk.faults (shown_by g.H.Door.Door.faults g.H.Door.Door.ahead g.H.Door.Door.given g.H.Door.Door.ended g.H.Door.Door.gave g.H.Door.Door.took_back g.H.Door.Door.closed)
    (IsVisit g.H.Door.In.Source.gave g.H.Door.Out.Sink.wrote g.H.Door.In.Source.faults g.H.Door.Out.Sink.faults)
    (did_by g.H.Door.In.Source.gave g.H.Door.Out.Sink.wrote g.C.Lent.Clock.gave g.H.Link.Link.exchanges g.H.Link.Link.faults) c.in-Some.path.now c.args.port c.args.workers c.args.connections _ _ _ _ c.serve_with_journal.result
    c.serve_with_journal.ensures.journaled

pub returns-in-None-clause-serve : goal.returns-in-None-clause-serve
returns-in-None-clause-serve g c = λ none. c.serve_in_memory.ensures.serve

pub returns-in-None-clause-disks : goal.returns-in-None-clause-disks
returns-in-None-clause-disks g c = λ none. c.serve_in_memory.ensures.disk

pub returns-in-None-clause-journaled : goal.returns-in-None-clause-journaled
returns-in-None-clause-journaled g c = λ path is.
    let none : None ≡ Some path = sym (seen_none c.args.journal (λ s. s.now) c.in-None.is) ∙ is in absurd (cc (none))

pub returns-in-None-clause-usage : goal.returns-in-None-clause-usage
returns-in-None-clause-usage g c =
    serve_apart (shown_by g.H.Door.Door.faults g.H.Door.Door.ahead g.H.Door.Door.given g.H.Door.Door.ended g.H.Door.Door.gave g.H.Door.Door.took_back g.H.Door.Door.closed)
    (IsVisit g.H.Door.In.Source.gave g.H.Door.Out.Sink.wrote g.H.Door.In.Source.faults g.H.Door.Out.Sink.faults)
    (did_by g.H.Door.In.Source.gave g.H.Door.Out.Sink.wrote g.C.Lent.Clock.gave g.H.Link.Link.exchanges g.H.Link.Link.faults) _ IsUnbroken c.args.port c.args.workers c.args.connections _ _ c.serve_in_memory.result c.serve_in_memory.ensures.serve
