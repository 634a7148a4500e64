use Rattle.std.proofs.Common.{refl, subst}
use Rattle.rule_table.specs.Sound.{IsSound}
use Rattle.router_requests.specs.Batch.{Stepped}
use Rattle.router_core.proofs.ReplayingLemmas.{all_ready, all_steps, made_step}
use Rattle.router_core.proofs.replaying.step.Goals as goal

pub returns-clause-ready : goal.returns-clause-ready
returns-clause-ready c =
    let t = c.args.tables.now in
    let r = c.args.replayed in
    let targets = c.in_ok-targets-in-Some.targets.items in
    let s : Stepped = record { name = r.2; event = c.number.result; duties = c.in_ok-duties-in-Some.duties.items } in
    all_ready c.ready.result t c.args.moment r.0 r.1 r.2 c.args.seen.1.items targets s
    (made_step t c.args.moment c.args.seen.0 r.0 r.1 r.2 c.args.seen.1.items targets s c.in-Some.row.now c.in-Some.kept.now c.requires.next c.requires.seen
    c.in-Some.ensures c.in_ok-targets-in-Some.ensures refl c.number.ensures c.in_ok-duties-in-Some.ensures)
    (subst IsSound c.set.ensures c.control_count-version.ensures.sound) c.requires.moment c.requires.later c.requires.numbered c.ready.ensures

pub returns-clause-step : goal.returns-clause-step
returns-clause-step c =
    let t = c.args.tables.now in
    let r = c.args.replayed in
    let targets = c.in_ok-targets-in-Some.targets.items in
    let s : Stepped = record { name = r.2; event = c.number.result; duties = c.in_ok-duties-in-Some.duties.items } in
    all_steps c.ready.result t c.args.moment r.0 r.1 r.2 c.args.seen.1.items targets s
    (made_step t c.args.moment c.args.seen.0 r.0 r.1 r.2 c.args.seen.1.items targets s c.in-Some.row.now c.in-Some.kept.now c.requires.next c.requires.seen
    c.in-Some.ensures c.in_ok-targets-in-Some.ensures refl c.number.ensures c.in_ok-duties-in-Some.ensures)
    c.requires.moment c.ready.ensures
