use Rattle.std.proofs.Common.{ap, subst, ◌∙◌, map}
use Rattle.delivery_queues.specs.Queues.{Queue}
use Rattle.delivery_duties.specs.Duties.{Duties}
use Rattle.delivery_duties.proofs.AddLemmas.{IsLeft, added_created, added_names, left_done, left_next}
use Rattle.delivery_duties.proofs.duties.Duties.add.Goals as goal

pub loop-node-preserved : goal.loop-node-preserved
loop-node-preserved c =
    left_next c.in-Some.node c.pop_front.new.self.items c.add_one.new.self
    (subst (λ rows. IsLeft c.args.duties c.args.moment c.args.self.now rows c.loop-node.self) c.in-Some.ensures.items c.loop-node.invariant)
    c.add_one.ensures.added c.add_one.ensures.still_out

pub returns-clause-created : goal.returns-clause-created
returns-clause-created c =
    let done = left_done c.loop-node.rows.items c.pop_front.new.self.items c.in_default.ensures.items c.in_default.ensures.rest c.loop-node.invariant in
    ap (λ (s : Duties). s.created) done ∙ added_created c.args.duties c.args.moment c.args.self.now

pub returns-clause-queues : goal.returns-clause-queues
returns-clause-queues c =
    let done = left_done c.loop-node.rows.items c.pop_front.new.self.items c.in_default.ensures.items c.in_default.ensures.rest c.loop-node.invariant in
    ap (λ (s : Duties). map (λ (m : Queue). m.name) s.queues) done ∙ added_names c.args.duties c.args.moment c.args.self.now
