use Rattle.api_replies.specs.View.{reply_of}
use Rattle.resource_calls.proofs.ReplayLemmas.{is_start, start_made, starting_so}
use Rattle.resource_calls.proofs.replays.started.Goals as goal

pub reply_to_start-requires : goal.reply_to_start-requires
reply_to_start-requires c =
    is_start c.args.moment c.args.tables.now.set c.args.start.now c.in_ok-part.part (c.in_ok-part.ensures.part c.args.tables.now.set)

pub returns-clause-answer : goal.returns-clause-answer
returns-clause-answer c =
    let t = c.args.tables.now in
    starting_so c.writes.result t c.args.moment c.args.start.now c.in_ok-start.start c.in_ok-part.part (reply_of c.in_ok-reply.reply) c.in_ok-start.ensures
    (c.in_ok-part.ensures.part t.set) c.in_ok-part.ensures.made c.in_ok-reply.ensures c.writes.ensures.answer

pub returns-clause-made : goal.returns-clause-made
returns-clause-made c =
    let t = c.args.tables.now in
    start_made c.writes.result t c.args.moment c.args.start.now c.in_ok-start.start c.in_ok-part.part c.in_ok-start.ensures c.writes.ensures.entry
    c.writes.ensures.part c.requires.admitted (c.in_ok-part.ensures.part t.set) c.in_ok-part.ensures.made
