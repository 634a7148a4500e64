use Rattle.std.proofs.Common.{◌≡◌, sym, subst, unwrap_or}
use Rattle.json_text.specs.View.{tree_of}
use Rattle.event_shape.specs.Event.{Checked, Event, IsMade}
use Rattle.event_shape.proofs.MakeLemmas.{made_at, event_at}
use Rattle.event_shape.proofs.event.Event.with_bus.Goals as goal

pub invariant_of-event : goal.invariant_of-event
invariant_of-event c =
    let seen : Checked = record {
      source = c.checked.inside.source;
      detail_type = c.checked.inside.detail_type;
      resources = c.checked.inside.resources.items;
      time = c.checked.inside.time;
      detail = tree_of c.checked.inside.detail;
      bus = c.checked.inside.bus;
    } in
    event_at seen c.args.number c.args.time c.moment-moment.result c.args.account.now c.in_ok-account.account c.in_ok-time.time
    c.checked.invariant c.ranges.number.fits c.requires c.utf8.account c.in_ok-account.ensures (subst (λ x. c.moment-moment.result ≡ unwrap_or x.time c.args.time) (sym c.checked.view_is) c.moment-moment.ensures.value) c.in_ok-time.ensures.value

pub returns-clause-made : goal.returns-clause-made
returns-clause-made c =
    let seen : Checked = record {
      source = c.checked.inside.source;
      detail_type = c.checked.inside.detail_type;
      resources = c.checked.inside.resources.items;
      time = c.checked.inside.time;
      detail = tree_of c.checked.inside.detail;
      bus = c.checked.inside.bus;
    } in
    let made : Event = record {
      number = c.args.number;
      detail_type = c.checked.inside.detail_type;
      source = c.checked.inside.source;
      account = c.in_ok-account.account;
      time = c.in_ok-time.time;
      resources = c.checked.inside.resources.items;
      detail = tree_of c.checked.inside.detail;
    } in
    subst (λ x. IsMade x c.args.number c.args.time c.args.account.now made) c.checked.view_is
    (made_at seen c.args.number c.args.time c.moment-moment.result c.args.account.now c.in_ok-account.account c.in_ok-time.time
    c.in_ok-account.ensures (subst (λ x. c.moment-moment.result ≡ unwrap_or x.time c.args.time) (sym c.checked.view_is) c.moment-moment.ensures.value) c.in_ok-time.ensures.value)

pub returns-clause-event : goal.returns-clause-event
returns-clause-event c =
    let seen : Checked = record {
      source = c.checked.inside.source;
      detail_type = c.checked.inside.detail_type;
      resources = c.checked.inside.resources.items;
      time = c.checked.inside.time;
      detail = tree_of c.checked.inside.detail;
      bus = c.checked.inside.bus;
    } in (
      c.moment-moment.result,
      event_at seen c.args.number c.args.time c.moment-moment.result c.args.account.now c.in_ok-account.account c.in_ok-time.time
          c.checked.invariant c.ranges.number.fits c.requires c.utf8.account c.in_ok-account.ensures (subst (λ x. c.moment-moment.result ≡ unwrap_or x.time c.args.time) (sym c.checked.view_is) c.moment-moment.ensures.value) c.in_ok-time.ensures.value,
    )
