use Rattle.std.proofs.Common.{subst}
use Rattle.rule_table.specs.Sound.{IsSound}
use Rattle.router_requests.specs.Request.{Request}
use Rattle.router_core.specs.Tables.{Tables}
use Rattle.router_requests.specs.View.{request_of}
use Rattle.router_history.proofs.AnsweredLemmas.{matched_on, decided_by}
use Rattle.router_history.proofs.book.Machine.decided.Goals as goal

pub returns : goal.returns
returns c =
    let t : Tables = c.args.self.now.tables in
    let request : Request = request_of c.args.request.now in
    let sound : IsSound t.set = subst IsSound c.set.ensures c.control_count-version.ensures.sound in
    decided_by t request c.args.seen (c.in_ok-ready.ready, c.in_ok-ready.reply) c.requires.seen
    (c.in_ok-ready.ensures.answer t.set (matched_on t request c.args.seen sound c.requires.seen)) c.in_ok-ready.ensures.ready
