use Rattle.router_sessions.specs.Desk.{turns_seen}
use Rattle.router_sessions.proofs.DeskLemmas.{same_again}
use Rattle.drill_run.specs.Drill.{again}
use Rattle.drill_run.proofs.run.deliver.Goals as goal

pub rounds-preserved : goal.rounds-preserved
rounds-preserved g c =
    let (reply, replied, some, book) = c.in-More.ensures.round in
    record {
      same = same_again c.args.pass.now.seat c.rounds.pass.seat c.attempt.new.pass.seat c.rounds.invariant.same c.in-More.ensures.pass.0;
      free = c.in-More.ensures.pass.1;
      rests = c.in-More.ensures.rests;
      delivering = λ seed events before.
          again reply (turns_seen c.rounds.pass.seat) (turns_seen c.attempt.new.pass.seat) (c.rounds.invariant.delivering seed events before) replied some;
    }
