use Rattle.std.proofs.Common.{◌≡◌, ◌≤◌, ◌+◌, [], ◌∷◌, map, drop, ap, subst, rules}
use Rattle.router_requests.specs.View.{batch_of, entry_of}
use Rattle.router_core.specs.Tables.{Tables}
use Rattle.router_core.proofs.BatchLemmas.{IsLeft, left_all, left_at, left_end, left_part, left_room, left_first, left_next, left_none, batch_kept, purge_few}
use Rattle.router_core.proofs.tables.Tables.apply.Goals as goal

pub loop-entry-init : goal.loop-entry-init
loop-entry-init c =
    let fewer = c.self.invariant.batches in
    left_all c.args.self.now c.args.ready c.requires.ready
    (subst (λ (t : Tables). t.batches ≤ t.entries) c.self.view_is fewer)

-- the entry that is applied is left, with the parts
here : (c : goal.After-released-1) → IsLeft c.args.ready.batch.moment (batch_of c.args.ready.batch).entries
    (entry_of c.entry-item.result ∷ map entry_of (drop (c.loop-entry.entry-index + 1) c.args.ready.batch.entries.items)) c.args.self.now
    c.loop-entry.self (c.in-Some.part ∷ c.pop_front.new.self.items)
here c =
    let items = c.args.ready.batch.entries.items in
    let after = map entry_of (drop (c.loop-entry.entry-index + 1) items) in
    subst (IsLeft c.args.ready.batch.moment (map entry_of items) (entry_of c.entry-item.result ∷ after) c.args.self.now c.loop-entry.self)
    c.in-Some.ensures.items
    (left_at items c.deref-entry-items.result.now c.loop-entry.entry-index c.entry-item.result c.deref-entry-items.ensures.value c.loop-entry-test.true
    c.entry-item.is c.loop-entry.invariant)

pub join-requires-clause-part : goal.join-requires-clause-part
join-requires-clause-part c = (left_first _ _ _ _ _ _ _ _ (here c)).0

pub join-requires-clause-admitted : goal.join-requires-clause-admitted
join-requires-clause-admitted c = (left_first _ _ _ _ _ _ _ _ (here c)).1

pub join-requires-clause-moment : goal.join-requires-clause-moment
join-requires-clause-moment c = c.requires.ready.admitted.moment

pub join-requires-clause-later : goal.join-requires-clause-later
join-requires-clause-later c = (left_first _ _ _ _ _ _ _ _ (here c)).2

pub join-requires-clause-made : goal.join-requires-clause-made
join-requires-clause-made c = (left_first _ _ _ _ _ _ _ _ (here c)).3

pub join-requires-clause-entries : goal.join-requires-clause-entries
join-requires-clause-entries c = (left_room (batch_of c.args.ready.batch) _ _ _ _ _ c.requires.ready.admitted (here c)).0

pub join-requires-clause-created : goal.join-requires-clause-created
join-requires-clause-created c = (left_room (batch_of c.args.ready.batch) _ _ _ _ _ c.requires.ready.admitted (here c)).1

pub unreachable-requires : goal.unreachable-requires
unreachable-requires c =
    let items = c.args.ready.batch.entries.items in
    let none : c.loop-entry.parts.items ≡ [] = search rules in
    left_part _ _ _ _ _ _ _
    (left_at items c.deref-entry-items.result.now c.loop-entry.entry-index c.entry-item.result c.deref-entry-items.ensures.value c.loop-entry-test.true
    c.entry-item.is c.loop-entry.invariant) none

pub loop-entry-preserved : goal.loop-entry-preserved
loop-entry-preserved c =
    left_next _ _ _ _ _ _ _ _ _ (here c.before) c.join.ensures.joined c.join.ensures.created

pub purge-requires : goal.purge-requires
purge-requires c =
    let i = c.self-2.inside in
    let t : Tables = record { set = i.set; duties = i.duties; archives = i.archives; replays = i.replays; events = i.events; entries = i.entries; batches = i.batches; moment = i.moment } in
    record { names = c.self-2.invariant.archives; few = purge_few t c.self-2.invariant }

pub invariant_of-self : goal.invariant_of-self
invariant_of-self c =
    let i = c.self-2.inside in
    let t : Tables = record { set = i.set; duties = i.duties; archives = i.archives; replays = i.replays; events = i.events; entries = i.entries; batches = i.batches; moment = i.moment } in
    let batches : c.self.inside.batches ≡ c.args.self.now.batches = ap (λ (s : Tables). s.batches) c.self.view_is in
    let last : IsLeft c.args.ready.batch.moment (batch_of c.args.ready.batch).entries [] c.args.self.now c.loop-entry.self c.loop-entry.parts.items =
    left_end c.args.ready.batch.entries.items c.deref-entry-items.result.now c.loop-entry.entry-index c.deref-entry-items.ensures.value
    c.loop-entry-test.false c.loop-entry.invariant in
    batch_kept (batch_of c.args.ready.batch) c.args.self.now c.loop-entry.self t c.self.inside.batches c.purge.new.archives c.loop-entry.parts.items
    c.requires.ready.admitted c.self-2.invariant c.self-2.view_is batches c.purge.ensures last

pub returns : goal.returns
returns c =
    let i = c.self-2.inside in
    let t : Tables = record { set = i.set; duties = i.duties; archives = i.archives; replays = i.replays; events = i.events; entries = i.entries; batches = i.batches; moment = i.moment } in
    let batches : c.self.inside.batches ≡ c.args.self.now.batches = ap (λ (s : Tables). s.batches) c.self.view_is in
    let last : IsLeft c.args.ready.batch.moment (batch_of c.args.ready.batch).entries [] c.args.self.now c.loop-entry.self c.loop-entry.parts.items =
    left_end c.args.ready.batch.entries.items c.deref-entry-items.result.now c.loop-entry.entry-index c.deref-entry-items.ensures.value
    c.loop-entry-test.false c.loop-entry.invariant in
    left_none (batch_of c.args.ready.batch) c.args.self.now c.loop-entry.self t c.self.inside.batches c.purge.new.archives c.loop-entry.parts.items
    c.requires.ready.admitted c.self-2.view_is batches c.purge.ensures last
