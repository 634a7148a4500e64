use Rattle.std.proofs.Common.{◌<◌, length, sym, subst, ap, ◌∙◌}
use Rattle.delivery_queues.specs.Places.{IsFirstAt, IsPlaceOf}
use Rattle.std.specs.Prelude.{IfSome}
use Rattle.delivery_queues.specs.Queues.{Queue, with_next, changed_first}
use Rattle.delivery_queues.proofs.MessageLemmas.{single}
use Rattle.delivery_queues.proofs.PlaceLemmas.{set_changed, changed_none, sorted_set}
use Rattle.delivery_queues.proofs.queues.Queues.send.Goals as goal

pub invariant_of-self : goal.invariant_of-self
invariant_of-self c =
    let rows = c.self.inside.rows.items in
    let k = single c.args.letter c.requires.one in
    let now = c.index_mut.result.now in (
      sorted_set rows c.in-Some.at now c.take_in.new.self c.self.invariant.0
          (subst (λ rs. c.in-Some.at < length rs) (sym c.self.view_is)
          (subst (λ p. IfSome p (λ at. at < length c.args.self.now)) c.in-Some.is c.requires.bound)) c.index_mut.ensures.value
          (ap (λ (m : Queue). m.name) (c.take_in.ensures k.0 k.1)),
      c.self.invariant.1,
    )

pub returns-in-Some : goal.returns-in-Some
returns-in-Some c = λ test m place one.
    let rows = c.self.inside.rows.items in
    let first = subst (λ rs. IsFirstAt test rs c.in-Some.at) (sym c.self.view_is) (subst (IsPlaceOf test c.args.self.now) c.in-Some.is place) in
    set_changed test (with_next m.body m.dead) rows c.in-Some.at c.index_mut.result.now c.take_in.new.self first c.index_mut.ensures.value
    (c.take_in.ensures m one)
    ∙ ap (changed_first test (with_next m.body m.dead)) c.self.view_is

pub returns-in-None : goal.returns-in-None
returns-in-None c = λ test m place one.
    sym (changed_none test (with_next m.body m.dead) c.args.self.now (subst (IsPlaceOf test c.args.self.now) c.in-None.is place))
