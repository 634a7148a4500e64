use Rattle.router_sessions.specs.Desk.{turns_seen}
use Rattle.session_workers.proofs.JobsLemmas.{look_learns, stops_if}
use Rattle.session_workers.proofs.clerk.is_whole.Goals as goal

pub returns-clause-pass : goal.returns-clause-pass
returns-clause-pass g c =
    let (same, free) = c.look.ensures.pass in (same, free, look_learns c.args.pass.now.seat c.look.new.pass.seat _ c.look.ensures.more c.look.ensures.looked)

pub returns-clause-stops : goal.returns-clause-stops
returns-clause-stops g c = stops_if c.look.result (turns_seen c.look.new.pass.seat) c.look.ensures.book c.look.ensures.broken
