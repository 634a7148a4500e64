use Rattle.std.proofs.Common.{map, Some, None, inr, refl, subst, Global}
use Rattle.std.specs.Prelude.{string_bytes}
use Rattle.command_line.specs.Command.{IsCommand, command_view, once, serve, check, drill}
use Rattle.command_line.proofs.LineLemmas.{line_is}
use Rattle.command_line.proofs.ValueLemmas.{command_once, workers_within}
use Rattle.program_lines.specs.Files.{workers_for}
use Rattle.bus_server.proofs.JournalLemmas.{unread_disk}
use Rattle.bus_server.proofs.ServeJournalLemmas.{same_written}
use Rattle.bus_server.proofs.WordsLemmas.{unread_begun, unread_by, refused_by, unread_check, unread_command, unread_once, unread_serve, unread_host, no_door_unread}
use Rattle.bus_server.proofs.program.run.Goals as goal

pub obey-requires-clause-workers : goal.obey-requires-clause-workers
obey-requires-clause-workers g c κs lives = λ journal port workers connections is.
    workers_within (map (string_bytes {Z = Global}) c.args.words.now) journal port workers connections
    (subst (IsCommand (map (string_bytes {Z = Global}) c.args.words.now)) is c.in-Ok.ensures.command)

pub returns-in-Ok-clause-run : goal.returns-in-Ok-clause-run
returns-in-Ok-clause-run g c = λ now is. c.obey.ensures.run now
    (command_once (map (string_bytes {Z = Global}) c.args.words.now) (command_view c.in-Ok.command) (once None now) c.in-Ok.ensures.command is)

pub returns-in-Ok-clause-journaled : goal.returns-in-Ok-clause-journaled
returns-in-Ok-clause-journaled g c = λ journal now is. c.obey.ensures.journaled journal now
    (command_once (map (string_bytes {Z = Global}) c.args.words.now) (command_view c.in-Ok.command) (once (Some journal) now) c.in-Ok.ensures.command is)

pub returns-in-Ok-clause-serve : goal.returns-in-Ok-clause-serve
returns-in-Ok-clause-serve g c = λ port workers connections is. c.obey.ensures.serve port workers connections
    (command_once (map (string_bytes {Z = Global}) c.args.words.now) (command_view c.in-Ok.command) (serve None port workers connections) c.in-Ok.ensures.command is)

pub returns-in-Ok-clause-served : goal.returns-in-Ok-clause-served
returns-in-Ok-clause-served g c = λ journal port workers connections is. c.obey.ensures.served journal port workers connections
    (command_once (map (string_bytes {Z = Global}) c.args.words.now) (command_view c.in-Ok.command) (serve (Some journal) port workers connections) c.in-Ok.ensures.command is)

pub returns-in-Ok-clause-drill : goal.returns-in-Ok-clause-drill
returns-in-Ok-clause-drill g c = λ seed events is. c.obey.ensures.drill seed events
    (command_once (map (string_bytes {Z = Global}) c.args.words.now) (command_view c.in-Ok.command) (drill seed events) c.in-Ok.ensures.command is)

pub returns-in-Ok-clause-check : goal.returns-in-Ok-clause-check
returns-in-Ok-clause-check g c = λ journal is. c.obey.ensures.check journal
    (command_once (map (string_bytes {Z = Global}) c.args.words.now) (command_view c.in-Ok.command) (check journal) c.in-Ok.ensures.command is)

pub returns-in-Ok-clause-unread : goal.returns-in-Ok-clause-unread
returns-in-Ok-clause-unread g c = λ none. absurd (none (command_view c.in-Ok.command) c.in-Ok.ensures.command)

pub returns-in-Ok-clause-usage : goal.returns-in-Ok-clause-usage
returns-in-Ok-clause-usage g c = λ is. absurd (c.obey.ensures.usage is)

pub returns-in-Ok-clause-line : goal.returns-in-Ok-clause-line
returns-in-Ok-clause-line g c = λ command line. c.obey.ensures.usage

pub returns-in-Ok-clause-reported : goal.returns-in-Ok-clause-reported
returns-in-Ok-clause-reported g c = λ other none. c.obey.ensures.reported (λ journal port workers connections is. none journal port workers connections
    (subst (IsCommand (map (string_bytes {Z = Global}) c.args.words.now)) is c.in-Ok.ensures.command))

pub returns-in-Ok-clause-counts : goal.returns-in-Ok-clause-counts
returns-in-Ok-clause-counts g c = λ none. c.obey.ensures.counts (λ journal now is. none journal now
    (subst (IsCommand (map (string_bytes {Z = Global}) c.args.words.now)) is c.in-Ok.ensures.command))

pub returns-in-Ok-clause-disk : goal.returns-in-Ok-clause-disk
returns-in-Ok-clause-disk g c = λ checks none serves. c.obey.ensures.disk
    (λ journal is. checks journal (subst (IsCommand (map (string_bytes {Z = Global}) c.args.words.now)) is c.in-Ok.ensures.command))
    (λ journal now is. none journal now (subst (IsCommand (map (string_bytes {Z = Global}) c.args.words.now)) is c.in-Ok.ensures.command))
    (λ journal port workers connections is. serves journal port workers connections (subst (IsCommand (map (string_bytes {Z = Global}) c.args.words.now)) is c.in-Ok.ensures.command))

pub returns-in-Ok-clause-host : goal.returns-in-Ok-clause-host
returns-in-Ok-clause-host g c = λ none checks. c.obey.ensures.host (λ journal port workers connections is. none journal port workers connections
    (subst (IsCommand (map (string_bytes {Z = Global}) c.args.words.now)) is c.in-Ok.ensures.command))
    (λ journal is. checks journal (subst (IsCommand (map (string_bytes {Z = Global}) c.args.words.now)) is c.in-Ok.ensures.command))

pub returns-in-Err-clause-run : goal.returns-in-Err-clause-run
returns-in-Err-clause-run g c = λ now is.
    unread_once g.H.Link.Link.exchanges g.H.Link.Link.faults now _ _ _ _ _ _ c.explain.result
    (unread_command (map (string_bytes {Z = Global}) c.args.words.now) (once None now) c.in-Err.fault _ _ c.explain.result is c.in-Err.ensures.fault c.explain.ensures.ends)

pub returns-in-Err-clause-journaled : goal.returns-in-Err-clause-journaled
returns-in-Err-clause-journaled g c = λ journal now is.
    let unread = unread_command (map (string_bytes {Z = Global}) c.args.words.now) (once (Some journal) now) c.in-Err.fault _ _ c.explain.result is c.in-Err.ensures.fault
    c.explain.ensures.ends in
    inr (unread_disk _ _ _ _ c.explain.result unread.0 (unread_begun _ _ _ _ _ _ unread.1, c.explain.ensures.counts (g.S.Source.faults c.args.input.now)))

pub returns-in-Err-clause-serve : goal.returns-in-Err-clause-serve
returns-in-Err-clause-serve g c = λ port workers connections is. (
  refl,
  refl,
  inr (
    unread_serve port (workers_for c.args.files workers) _ _ _ _ _ _ _ _ _ _ c.explain.result
        (unread_command (map (string_bytes {Z = Global}) c.args.words.now) (serve None port workers connections) c.in-Err.fault _ _ c.explain.result is c.in-Err.ensures.fault
        c.explain.ensures.ends),
    refl,
  ),
)

pub returns-in-Err-clause-served : goal.returns-in-Err-clause-served
returns-in-Err-clause-served g c = λ journal port workers connections is.
    let unread = unread_command (map (string_bytes {Z = Global}) c.args.words.now) (serve (Some journal) port workers connections) c.in-Err.fault _ _ c.explain.result is c.in-Err.ensures.fault
    c.explain.ensures.ends in (
      refl,
      refl,
      inr (unread_disk _ _ _ _ c.explain.result unread.0 (same_written _ _ _ _ _ _ _ _ _ _ unread.1)),
    )

pub returns-in-Err-clause-drill : goal.returns-in-Err-clause-drill
returns-in-Err-clause-drill g c = λ seed events is. (
  record { unread = refl; unclocked = refl; none_given = refl; none_back = refl },
  inr (unread_command (map (string_bytes {Z = Global}) c.args.words.now) (drill seed events) c.in-Err.fault _ _ c.explain.result is c.in-Err.ensures.fault
      c.explain.ensures.ends),
  record { same_given = refl; same_back = refl },
)

pub returns-in-Err-clause-check : goal.returns-in-Err-clause-check
returns-in-Err-clause-check g c = λ journal is. (
  record { unread = refl; unclocked = refl; none_given = refl; none_back = refl },
  unread_check g.H.Disk.Disk.calls g.H.Disk.Disk.faults journal _ _ _ _ _ c.explain.result
      (unread_command (map (string_bytes {Z = Global}) c.args.words.now) (check journal) c.in-Err.fault _ _ c.explain.result is c.in-Err.ensures.fault
      c.explain.ensures.ends),
  (refl, refl),
  record { same_given = refl; same_back = refl },
  record { same_given = refl; same_back = refl },
)

pub returns-in-Err-clause-unread : goal.returns-in-Err-clause-unread
returns-in-Err-clause-unread g c = λ none. (
  record { unread = refl; unclocked = refl; none_given = refl; none_back = refl },
  unread_by (map (string_bytes {Z = Global}) c.args.words.now) c.in-Err.fault _ _ c.explain.result c.in-Err.ensures.fault c.explain.ensures.ends,
  record { same_given = refl; same_back = refl },
)

pub returns-in-Err-clause-usage : goal.returns-in-Err-clause-usage
returns-in-Err-clause-usage g c = λ is.
    refused_by (map (string_bytes {Z = Global}) c.args.words.now) c.in-Err.fault _ _ c.explain.result c.in-Err.ensures.fault c.explain.ensures.ends is

pub returns-in-Err-clause-line : goal.returns-in-Err-clause-line
returns-in-Err-clause-line g c = λ command line is.
    (refused_by (map (string_bytes {Z = Global}) c.args.words.now) c.in-Err.fault _ _ c.explain.result c.in-Err.ensures.fault c.explain.ensures.ends is).0
    command (line_is (map (string_bytes {Z = Global}) c.args.words.now) command line)

pub returns-in-Err-clause-reported : goal.returns-in-Err-clause-reported
returns-in-Err-clause-reported g c = λ other none. c.explain.ensures.reported other

pub returns-in-Err-clause-counts : goal.returns-in-Err-clause-counts
returns-in-Err-clause-counts g c = λ none. c.explain.ensures.counts (g.S.Source.faults c.args.input.now)

pub returns-in-Err-clause-host : goal.returns-in-Err-clause-host
returns-in-Err-clause-host g c = λ none checks. (
  unread_host g.H.Host.door_faults g.H.Host.link_faults c.explain.result c.args.host.now
      (no_door_unread c.in-Err.fault _ _ c.explain.result c.explain.ensures.ends),
  record { same_given = refl; same_back = refl },
)
