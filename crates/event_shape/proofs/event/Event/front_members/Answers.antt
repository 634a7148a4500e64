use Rattle.event_shape.proofs.event.Event.front_members.Goals as goal

pub returns-clause-members : goal.returns-clause-members
returns-clause-members c =
    let texts = rw (c.in_ok-id.ensures, c.in_ok-detail_type.ensures, c.in_ok-source.ensures, c.in_ok-account.ensures, c.in_ok-time.ensures) at c.members_of.ensures in
    rw (← c.self.view_is) (rw (c.in_ok-resources.ensures, c.deref.ensures.value) at texts)
