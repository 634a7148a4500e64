use Rattle.std.proofs.lemmas.Option.{IfSome_then}
use Rattle.event_text.proofs.EventLemmas.{event_begins}
use Rattle.event_text.proofs.quick.after_event.Goals as goal

pub returns : goal.returns
returns c =
    let id = c.in_ok-after_id.ensures in
    let detail_type = c.in_ok-after_some_string.ensures in
    let source = c.in_ok-after_source.ensures in
    let account = c.in_ok-after_account.ensures in
    let time = c.in_ok-after_time.ensures in
    let resources = c.in_ok-after_resources.ensures in
    let members = c.in_ok-after_members.ensures.members in
    IfSome_then c.after-8.result c.after-8.ensures (λ rest end.
    event_begins c.args.text.now _ _ _ _ _ _ _ _ _ _ _ _ _ _ rest.now id.0 time.1 detail_type.0 source.0 account.0 time.0 resources.0 members.0
    c.in_ok-id.ensures id.3 id.1 id.2 c.in_ok-detail_type.ensures detail_type.2 detail_type.1 c.in_ok-source.ensures source.3 source.1 source.2
    c.in_ok-account.ensures account.2 account.1 c.in_ok-time.ensures time.4 time.2 time.3 c.in_ok-resources.ensures resources.1
    c.in_ok-detail.ensures members.1 end)
