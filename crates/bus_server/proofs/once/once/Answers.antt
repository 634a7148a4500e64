use Rattle.std.proofs.Common.{◌≡◌, ◌∙◌, ℕ, List, Some, None, subst, sym}
use Rattle.bus_server.specs.Run.{FaultsMatch, around}
use Rattle.bus_server.specs.Journal.{IsJournaledRun, disks}
use Rattle.bus_server.proofs.JournalLemmas.{no_usage_journaled}
use Rattle.bus_server.proofs.RunLemmas.{no_usage, seen_none, seen_some}
use Rattle.bus_server.proofs.once.once.Goals as goal

pub returns-in-Some-clause-run : goal.returns-in-Some-clause-run
returns-in-Some-clause-run g c = λ none. let some : Some c.in-Some.path.now ≡ None = sym (seen_some c.args.journal c.in-Some.path (λ s. s.now) c.in-Some.is) ∙ none in absurd (cc (some))

pub returns-in-Some-clause-counts : goal.returns-in-Some-clause-counts
returns-in-Some-clause-counts g c = λ none. let some : Some c.in-Some.path.now ≡ None = sym (seen_some c.args.journal c.in-Some.path (λ s. s.now) c.in-Some.is) ∙ none in absurd (cc (some))

pub returns-in-Some-clause-disks : goal.returns-in-Some-clause-disks
returns-in-Some-clause-disks g c = λ none. let some : Some c.in-Some.path.now ≡ None = sym (seen_some c.args.journal c.in-Some.path (λ s. s.now) c.in-Some.is) ∙ none in absurd (cc (some))

pub returns-in-Some-clause-journaled : goal.returns-in-Some-clause-journaled
returns-in-Some-clause-journaled g c = λ path is.
    let h = g.H.Host in
    let old = c.args.host.now in let new = c.with_journal.new.host in
    let some : Some c.in-Some.path.now ≡ Some path = sym (seen_some c.args.journal c.in-Some.path (λ s. s.now) c.in-Some.is) ∙ is in
    let same : c.in-Some.path.now ≡ path = cc (some) in
    subst (λ (p : List ℕ). IsJournaledRun g.H.Disk.Disk.calls g.H.Disk.Disk.faults g.H.Link.Link.exchanges g.H.Link.Link.faults
    (λ s. FaultsMatch s (g.S.Source.faults c.args.input.now) (g.S.Source.faults c.with_journal.new.input) (g.K.Sink.faults c.args.output.now) (g.K.Sink.faults c.with_journal.new.output)) p c.args.now
    (disks (h.disks_given old) (h.disks_back old) (h.disk_faults old)) (disks (h.disks_given new) (h.disks_back new) (h.disk_faults new))
    (around (g.S.Source.gave c.args.input.now) (g.K.Sink.wrote c.args.output.now) (g.C.Clock.gave c.args.clock.now) (h.links_given old) (h.links_back old))
    (around (g.S.Source.gave c.with_journal.new.input) (g.K.Sink.wrote c.with_journal.new.output) (g.C.Clock.gave c.with_journal.new.clock) (h.links_given new) (h.links_back new)) c.with_journal.result) same
    c.with_journal.ensures.journaled

pub returns-in-Some-clause-usage : goal.returns-in-Some-clause-usage
returns-in-Some-clause-usage g c =
    no_usage_journaled g.H.Disk.Disk.calls g.H.Disk.Disk.faults g.H.Link.Link.exchanges g.H.Link.Link.faults _ c.in-Some.path.now c.args.now _ _ _ _ c.with_journal.result c.with_journal.ensures.journaled

pub returns-in-None-clause-run : goal.returns-in-None-clause-run
returns-in-None-clause-run g c = λ none. c.in_memory.ensures.run

pub returns-in-None-clause-counts : goal.returns-in-None-clause-counts
returns-in-None-clause-counts g c = λ none. c.in_memory.ensures.counts

pub returns-in-None-clause-disks : goal.returns-in-None-clause-disks
returns-in-None-clause-disks g c = λ none. c.in_memory.ensures.disks

pub returns-in-None-clause-journaled : goal.returns-in-None-clause-journaled
returns-in-None-clause-journaled g c = λ path is.
    let none : None ≡ Some path = sym (seen_none c.args.journal (λ s. s.now) c.in-None.is) ∙ is in absurd (cc (none))

pub returns-in-None-clause-usage : goal.returns-in-None-clause-usage
returns-in-None-clause-usage g c = no_usage g.H.Link.Link.exchanges g.H.Link.Link.faults c.args.now _ _ c.in_memory.result c.in_memory.ensures.run
