use Rattle.std.proofs.Common.{◌≡◌, ◌∙◌, ◌<◌, ◌≤◌, ℕ, List, Option, Some, None, ap, refl, subst, sym}
use Rattle.std.specs.Prelude.{option_map}
use Rattle.command_line.specs.Command.{command_view, once, serve}
use Rattle.program_lines.specs.Files.{workers_for}
use Rattle.shared_door.specs.Shown.{shown_by}
use Rattle.router_history.specs.Visit.{IsVisit}
use Rattle.drill_run.specs.Drill.{IsDrill}
use Rattle.journal_check.specs.Check.{IsCheck, around_disk}
use Rattle.bus_server.specs.Run.{FaultsMatch, IsRun, around}
use Rattle.bus_server.specs.Journal.{IsJournaledRun, disks}
use Rattle.session_workers.specs.Jobs.{did_by}
use Rattle.bus_server.specs.Serve.{IsServe, around_door}
use Rattle.bus_server.specs.ServeJournal.{IsJournaledServe}
use Rattle.bus_server.proofs.WordsLemmas.{fitting_within, no_door_drill, no_usage_check, no_usage_drill, no_path, reported_alone, reported_last, unread_counts, unread_host, check_drill, once_check, once_drill, once_serve, same_check, same_drill, same_once, same_serve, serve_check, serve_drill}
use Rattle.bus_server.proofs.program.obey.Goals as goal

pub returns-in-Once-clause-run : goal.returns-in-Once-clause-run
returns-in-Once-clause-run g c = λ now is.
    let (none, same) = same_once (option_map (λ s. s.now) c.in-Once.journal) None c.in-Once.now now (sym (ap command_view c.in-Once.is) ∙ is) in
    subst (λ (n : Option ℕ). IsRun g.H.Link.Link.exchanges g.H.Link.Link.faults n
    (around (g.S.Source.gave c.args.input.now) (g.K.Sink.wrote c.args.output.now) (g.C.Clock.gave c.args.clock.now)
    (g.H.Host.links_given c.args.host.now) (g.H.Host.links_back c.args.host.now))
    (around (g.S.Source.gave c.once-status.new.input) (g.K.Sink.wrote c.once-status.new.output) (g.C.Clock.gave c.once-status.new.clock)
    (g.H.Host.links_given c.once-status.new.host) (g.H.Host.links_back c.once-status.new.host)) c.once-status.result)
    same (c.once-status.ensures.run none)

pub returns-in-Once-clause-journaled : goal.returns-in-Once-clause-journaled
returns-in-Once-clause-journaled g c = λ journal now is.
    let h = g.H.Host in
    let old = c.args.host.now in let new = c.once-status.new.host in
    let (some, same) = same_once (option_map (λ s. s.now) c.in-Once.journal) (Some journal) c.in-Once.now now (sym (ap command_view c.in-Once.is) ∙ is) in
    subst (λ (n : Option ℕ). IsJournaledRun g.H.Disk.Disk.calls g.H.Disk.Disk.faults g.H.Link.Link.exchanges g.H.Link.Link.faults
    (λ s. FaultsMatch s (g.S.Source.faults c.args.input.now) (g.S.Source.faults c.once-status.new.input) (g.K.Sink.faults c.args.output.now) (g.K.Sink.faults c.once-status.new.output)) journal n
    (disks (h.disks_given old) (h.disks_back old) (h.disk_faults old)) (disks (h.disks_given new) (h.disks_back new) (h.disk_faults new))
    (around (g.S.Source.gave c.args.input.now) (g.K.Sink.wrote c.args.output.now) (g.C.Clock.gave c.args.clock.now) (h.links_given old) (h.links_back old))
    (around (g.S.Source.gave c.once-status.new.input) (g.K.Sink.wrote c.once-status.new.output) (g.C.Clock.gave c.once-status.new.clock) (h.links_given new) (h.links_back new)) c.once-status.result)
    same (c.once-status.ensures.journaled journal some)

pub returns-in-Once-clause-serve : goal.returns-in-Once-clause-serve
returns-in-Once-clause-serve g c = λ port workers connections is.
    absurd (once_serve (option_map (λ s. s.now) c.in-Once.journal) c.in-Once.now None port workers connections (sym (ap command_view c.in-Once.is) ∙ is))

pub returns-in-Once-clause-served : goal.returns-in-Once-clause-served
returns-in-Once-clause-served g c = λ journal port workers connections is.
    absurd (once_serve (option_map (λ s. s.now) c.in-Once.journal) c.in-Once.now (Some journal) port workers connections (sym (ap command_view c.in-Once.is) ∙ is))

pub returns-in-Once-clause-drill : goal.returns-in-Once-clause-drill
returns-in-Once-clause-drill g c = λ seed events is.
    absurd (once_drill (option_map (λ s. s.now) c.in-Once.journal) c.in-Once.now seed events (sym (ap command_view c.in-Once.is) ∙ is))

pub returns-in-Once-clause-check : goal.returns-in-Once-clause-check
returns-in-Once-clause-check g c = λ journal is.
    absurd (once_check (option_map (λ s. s.now) c.in-Once.journal) c.in-Once.now journal (sym (ap command_view c.in-Once.is) ∙ is))

pub returns-in-Once-clause-counts : goal.returns-in-Once-clause-counts
returns-in-Once-clause-counts g c = λ none. c.once-status.ensures.counts (no_path (option_map (λ s. s.now) c.in-Once.journal)
    (λ path is. none path c.in-Once.now (ap command_view c.in-Once.is ∙ ap (λ (o : Option (List ℕ)). once o c.in-Once.now) is)))

pub returns-in-Once-clause-disk : goal.returns-in-Once-clause-disk
returns-in-Once-clause-disk g c = λ checks none serves. c.once-status.ensures.disks (no_path (option_map (λ s. s.now) c.in-Once.journal)
    (λ path is. none path c.in-Once.now (ap command_view c.in-Once.is ∙ ap (λ (o : Option (List ℕ)). once o c.in-Once.now) is)))

pub returns-in-Once-clause-last : goal.returns-in-Once-clause-last
returns-in-Once-clause-last g c = reported_alone c.once-status.result _ _ _ _ c.report.ensures

pub serve-status-requires-clause-workers : goal.serve-status-requires-clause-workers
serve-status-requires-clause-workers g c κs lives =
    let asked = c.requires.workers (option_map (λ s. s.now) c.in-Serve.journal) c.in-Serve.port c.in-Serve.workers c.in-Serve.connections (ap command_view c.in-Serve.is) in
    subst (λ (n : ℕ). (0 < n) × (n ≤ 1024)) (sym c.fitting_workers-fitting.ensures) (fitting_within c.args.files c.in-Serve.workers asked.0 asked.1)

pub returns-in-Serve-clause-run : goal.returns-in-Serve-clause-run
returns-in-Serve-clause-run g c = λ now is.
    absurd (once_serve None now (option_map (λ s. s.now) c.in-Serve.journal) c.in-Serve.port c.in-Serve.workers c.in-Serve.connections (sym is ∙ ap command_view c.in-Serve.is))

pub returns-in-Serve-clause-journaled : goal.returns-in-Serve-clause-journaled
returns-in-Serve-clause-journaled g c = λ journal now is.
    absurd (once_serve (Some journal) now (option_map (λ s. s.now) c.in-Serve.journal) c.in-Serve.port c.in-Serve.workers c.in-Serve.connections (sym is ∙ ap command_view c.in-Serve.is))

pub returns-in-Serve-clause-drill : goal.returns-in-Serve-clause-drill
returns-in-Serve-clause-drill g c = λ seed events is.
    absurd (serve_drill (option_map (λ s. s.now) c.in-Serve.journal) c.in-Serve.port c.in-Serve.workers c.in-Serve.connections seed events (sym (ap command_view c.in-Serve.is) ∙ is))

pub returns-in-Serve-clause-check : goal.returns-in-Serve-clause-check
returns-in-Serve-clause-check g c = λ journal is.
    absurd (serve_check (option_map (λ s. s.now) c.in-Serve.journal) c.in-Serve.port c.in-Serve.workers c.in-Serve.connections journal (sym (ap command_view c.in-Serve.is) ∙ is))

pub returns-in-Serve-clause-serve : goal.returns-in-Serve-clause-serve
returns-in-Serve-clause-serve g c = λ port workers connections is.
    let h = g.H.Host in let t = g.C.Clocks in
    let old = c.args.host.now in let new = c.serve-status.new.host in
    let (none, same_port, same_workers, same_connections) =
    same_serve (option_map (λ s. s.now) c.in-Serve.journal) None c.in-Serve.port c.in-Serve.workers port workers c.in-Serve.connections connections (sym (ap command_view c.in-Serve.is) ∙ is) in
    let Is : ℕ → ℕ → Option ℕ → Type 0 = λ p w k. IsServe (shown_by g.H.Door.Door.faults g.H.Door.Door.ahead g.H.Door.Door.given g.H.Door.Door.ended g.H.Door.Door.gave g.H.Door.Door.took_back g.H.Door.Door.closed)
    (IsVisit g.H.Door.In.Source.gave g.H.Door.Out.Sink.wrote g.H.Door.In.Source.faults g.H.Door.Out.Sink.faults)
    (did_by g.H.Door.In.Source.gave g.H.Door.Out.Sink.wrote g.C.Lent.Clock.gave g.H.Link.Link.exchanges g.H.Link.Link.faults) p w k
    (around_door (g.K.Sink.wrote c.args.output.now) (h.doors_given old) (h.doors_back old) (h.links_given old) (h.links_back old)
    (t.clocks_given c.args.clock.now) (t.clocks_back c.args.clock.now) (h.door_faults old) (h.link_faults old))
    (around_door (g.K.Sink.wrote c.serve-status.new.output) (h.doors_given new) (h.doors_back new) (h.links_given new) (h.links_back new)
    (t.clocks_given c.serve-status.new.clock) (t.clocks_back c.serve-status.new.clock) (h.door_faults new) (h.link_faults new)) c.serve-status.result in (
      refl,
      c.serve-status.ensures.unread,
      subst (λ (k : Option ℕ). Is port (workers_for c.args.files workers) k) same_connections
          (subst (λ (w : ℕ). Is port (workers_for c.args.files w) c.in-Serve.connections) same_workers
          (subst (λ (p : ℕ). Is p (workers_for c.args.files c.in-Serve.workers) c.in-Serve.connections) same_port
          (subst (λ (w : ℕ). Is c.in-Serve.port w c.in-Serve.connections) c.fitting_workers-fitting.ensures (c.serve-status.ensures.serve none)))),
    )

pub returns-in-Serve-clause-served : goal.returns-in-Serve-clause-served
returns-in-Serve-clause-served g c = λ journal port workers connections is.
    let h = g.H.Host in let t = g.C.Clocks in
    let old = c.args.host.now in let new = c.serve-status.new.host in
    let (some, same_port, same_workers, same_connections) =
    same_serve (option_map (λ s. s.now) c.in-Serve.journal) (Some journal) c.in-Serve.port c.in-Serve.workers port workers c.in-Serve.connections connections (sym (ap command_view c.in-Serve.is) ∙ is) in
    let Is : ℕ → ℕ → Option ℕ → Type 0 = λ p w k. IsJournaledServe g.H.Disk.Disk.calls g.H.Disk.Disk.faults (shown_by g.H.Door.Door.faults g.H.Door.Door.ahead g.H.Door.Door.given g.H.Door.Door.ended g.H.Door.Door.gave g.H.Door.Door.took_back g.H.Door.Door.closed)
    (IsVisit g.H.Door.In.Source.gave g.H.Door.Out.Sink.wrote g.H.Door.In.Source.faults g.H.Door.Out.Sink.faults)
    (did_by g.H.Door.In.Source.gave g.H.Door.Out.Sink.wrote g.C.Lent.Clock.gave g.H.Link.Link.exchanges g.H.Link.Link.faults) journal p w k
    (disks (h.disks_given old) (h.disks_back old) (h.disk_faults old)) (disks (h.disks_given new) (h.disks_back new) (h.disk_faults new))
    (around_door (g.K.Sink.wrote c.args.output.now) (h.doors_given old) (h.doors_back old) (h.links_given old) (h.links_back old)
    (t.clocks_given c.args.clock.now) (t.clocks_back c.args.clock.now) (h.door_faults old) (h.link_faults old))
    (around_door (g.K.Sink.wrote c.serve-status.new.output) (h.doors_given new) (h.doors_back new) (h.links_given new) (h.links_back new)
    (t.clocks_given c.serve-status.new.clock) (t.clocks_back c.serve-status.new.clock) (h.door_faults new) (h.link_faults new)) c.serve-status.result in (
      refl,
      c.serve-status.ensures.unread,
      subst (λ (k : Option ℕ). Is port (workers_for c.args.files workers) k) same_connections
          (subst (λ (w : ℕ). Is port (workers_for c.args.files w) c.in-Serve.connections) same_workers
          (subst (λ (p : ℕ). Is p (workers_for c.args.files c.in-Serve.workers) c.in-Serve.connections) same_port
          (subst (λ (w : ℕ). Is c.in-Serve.port w c.in-Serve.connections) c.fitting_workers-fitting.ensures (c.serve-status.ensures.journaled journal some)))),
    )

pub returns-in-Serve-clause-usage : goal.returns-in-Serve-clause-usage
returns-in-Serve-clause-usage g c = c.serve-status.ensures.usage.0

pub returns-in-Serve-clause-counts : goal.returns-in-Serve-clause-counts
returns-in-Serve-clause-counts g c = λ none.
    unread_counts c.serve-status.result _ _ _ c.serve-status.ensures.usage.1 c.serve-status.ensures.write_fault c.serve-status.ensures.output_faultless

pub returns-in-Serve-clause-disk : goal.returns-in-Serve-clause-disk
returns-in-Serve-clause-disk g c = λ checks none serves. c.serve-status.ensures.disks (no_path (option_map (λ s. s.now) c.in-Serve.journal)
    (λ path is. serves path c.in-Serve.port c.in-Serve.workers c.in-Serve.connections
    (ap command_view c.in-Serve.is ∙ ap (λ (o : Option (List ℕ)). serve o c.in-Serve.port c.in-Serve.workers c.in-Serve.connections) is)))

pub returns-in-Serve-clause-last : goal.returns-in-Serve-clause-last
returns-in-Serve-clause-last g c = reported_last c.serve-status.result _ _ _ _ _ _ c.announce.ensures c.report-in-Serve.ensures

pub returns-in-Serve-clause-reported : goal.returns-in-Serve-clause-reported
returns-in-Serve-clause-reported g c = λ none. absurd (none (option_map (λ s. s.now) c.in-Serve.journal) c.in-Serve.port c.in-Serve.workers c.in-Serve.connections (ap command_view c.in-Serve.is))

pub returns-in-Serve-clause-host : goal.returns-in-Serve-clause-host
returns-in-Serve-clause-host g c = λ none checks. absurd (none (option_map (λ s. s.now) c.in-Serve.journal) c.in-Serve.port c.in-Serve.workers c.in-Serve.connections (ap command_view c.in-Serve.is))

pub returns-in-Check-clause-run : goal.returns-in-Check-clause-run
returns-in-Check-clause-run g c = λ now is. absurd (once_check None now c.in-Check.journal.now (sym is ∙ ap command_view c.in-Check.is))

pub returns-in-Check-clause-journaled : goal.returns-in-Check-clause-journaled
returns-in-Check-clause-journaled g c = λ journal now is. absurd (once_check (Some journal) now c.in-Check.journal.now (sym is ∙ ap command_view c.in-Check.is))

pub returns-in-Check-clause-serve : goal.returns-in-Check-clause-serve
returns-in-Check-clause-serve g c = λ port workers connections is. absurd (serve_check None port workers connections c.in-Check.journal.now (sym is ∙ ap command_view c.in-Check.is))

pub returns-in-Check-clause-served : goal.returns-in-Check-clause-served
returns-in-Check-clause-served g c = λ journal port workers connections is.
    absurd (serve_check (Some journal) port workers connections c.in-Check.journal.now (sym is ∙ ap command_view c.in-Check.is))

pub returns-in-Check-clause-drill : goal.returns-in-Check-clause-drill
returns-in-Check-clause-drill g c = λ seed events is. absurd (check_drill c.in-Check.journal.now seed events (sym (ap command_view c.in-Check.is) ∙ is))

pub returns-in-Check-clause-check : goal.returns-in-Check-clause-check
returns-in-Check-clause-check g c = λ journal is.
    let h = g.H.Host in
    let old = c.args.host.now in let new = c.check-status.new.host in
    let e = c.check-status.ensures in
    let same : c.in-Check.journal.now ≡ journal = same_check c.in-Check.journal.now journal (sym (ap command_view c.in-Check.is) ∙ is) in (
      record { unread = refl; unclocked = refl; none_given = e.links.same_given; none_back = e.links.same_back },
      subst (λ (path : List ℕ). IsCheck g.H.Disk.Disk.calls g.H.Disk.Disk.faults path
          (around_disk (g.K.Sink.wrote c.args.output.now) (h.disks_given old) (h.disks_back old) (h.disk_faults old))
          (around_disk (g.K.Sink.wrote c.check-status.new.output) (h.disks_given new) (h.disks_back new) (h.disk_faults new)) c.check-status.result)
          same e.check,
      e.others,
      e.doors,
      record { same_given = refl; same_back = refl },
    )

pub returns-in-Check-clause-usage : goal.returns-in-Check-clause-usage
returns-in-Check-clause-usage g c = (no_usage_check g.H.Disk.Disk.calls g.H.Disk.Disk.faults c.in-Check.journal.now _ _ c.check-status.result c.check-status.ensures.check).0

pub returns-in-Check-clause-last : goal.returns-in-Check-clause-last
returns-in-Check-clause-last g c = reported_alone c.check-status.result _ _ _ _ c.report-in-Check.ensures

pub returns-in-Check-clause-counts : goal.returns-in-Check-clause-counts
returns-in-Check-clause-counts g c = λ none. unread_counts c.check-status.result _ _ _
    (no_usage_check g.H.Disk.Disk.calls g.H.Disk.Disk.faults c.in-Check.journal.now _ _ c.check-status.result c.check-status.ensures.check).1
    c.check-status.ensures.write_fault c.check-status.ensures.output_faultless

pub returns-in-Check-clause-disk : goal.returns-in-Check-clause-disk
returns-in-Check-clause-disk g c = λ checks none serves. absurd (checks c.in-Check.journal.now (ap command_view c.in-Check.is))

pub returns-in-Check-clause-host : goal.returns-in-Check-clause-host
returns-in-Check-clause-host g c = λ none checks. absurd (checks c.in-Check.journal.now (ap command_view c.in-Check.is))

pub returns-in-Drill-clause-run : goal.returns-in-Drill-clause-run
returns-in-Drill-clause-run g c = λ now is. absurd (once_drill None now c.in-Drill.seed c.in-Drill.events (sym is ∙ ap command_view c.in-Drill.is))

pub returns-in-Drill-clause-journaled : goal.returns-in-Drill-clause-journaled
returns-in-Drill-clause-journaled g c = λ journal now is. absurd (once_drill (Some journal) now c.in-Drill.seed c.in-Drill.events (sym is ∙ ap command_view c.in-Drill.is))

pub returns-in-Drill-clause-serve : goal.returns-in-Drill-clause-serve
returns-in-Drill-clause-serve g c = λ port workers connections is. absurd (serve_drill None port workers connections c.in-Drill.seed c.in-Drill.events (sym is ∙ ap command_view c.in-Drill.is))

pub returns-in-Drill-clause-served : goal.returns-in-Drill-clause-served
returns-in-Drill-clause-served g c = λ journal port workers connections is.
    absurd (serve_drill (Some journal) port workers connections c.in-Drill.seed c.in-Drill.events (sym is ∙ ap command_view c.in-Drill.is))

pub returns-in-Drill-clause-drill : goal.returns-in-Drill-clause-drill
returns-in-Drill-clause-drill g c = λ seed events is.
    let (same_seed, same_events) = same_drill c.in-Drill.seed c.in-Drill.events seed events (sym (ap command_view c.in-Drill.is) ∙ is) in (
      record { unread = refl; unclocked = refl; none_given = refl; none_back = refl },
      subst (λ (n : ℕ). IsDrill seed n (g.K.Sink.wrote c.args.output.now) (g.K.Sink.wrote c.drill-status.new.output) c.drill-status.result) same_events
          (subst (λ (n : ℕ). IsDrill n c.in-Drill.events (g.K.Sink.wrote c.args.output.now) (g.K.Sink.wrote c.drill-status.new.output) c.drill-status.result) same_seed
          c.drill-status.ensures.drill),
      record { same_given = refl; same_back = refl },
    )

pub returns-in-Drill-clause-check : goal.returns-in-Drill-clause-check
returns-in-Drill-clause-check g c = λ journal is. absurd (check_drill journal c.in-Drill.seed c.in-Drill.events (sym is ∙ ap command_view c.in-Drill.is))

pub returns-in-Drill-clause-usage : goal.returns-in-Drill-clause-usage
returns-in-Drill-clause-usage g c = no_usage_drill c.in-Drill.seed c.in-Drill.events _ _ c.drill-status.result c.drill-status.ensures.drill

pub returns-in-Drill-clause-last : goal.returns-in-Drill-clause-last
returns-in-Drill-clause-last g c = reported_alone c.drill-status.result _ _ _ _ c.report-in-Drill.ensures

pub returns-in-Drill-clause-counts : goal.returns-in-Drill-clause-counts
returns-in-Drill-clause-counts g c = λ none. unread_counts c.drill-status.result _ _ _
    (no_door_drill c.in-Drill.seed c.in-Drill.events _ _ c.drill-status.result c.drill-status.ensures.drill).1 c.drill-status.ensures.write_fault
    c.drill-status.ensures.output_faultless

pub returns-in-Drill-clause-host : goal.returns-in-Drill-clause-host
returns-in-Drill-clause-host g c = λ none checks. (
  unread_host g.H.Host.door_faults g.H.Host.link_faults c.drill-status.result c.args.host.now
      (no_door_drill c.in-Drill.seed c.in-Drill.events _ _ c.drill-status.result c.drill-status.ensures.drill).0,
  record { same_given = refl; same_back = refl },
)
