use Rattle.std.proofs.Common.{sym, subst}
use Rattle.json_text.specs.Tree.{members_of}
use Rattle.json_text.specs.View.{pairs_of}
use Rattle.api_replies.specs.declared.member.Member.TheVariants as member
use Rattle.api_members.specs.Event.{IsEventGiven}
use Rattle.api_members.proofs.TextLemmas.{pattern_text, event_text}
use Rattle.api_wire.proofs.call.events.test_event_pattern.Goals as goal

pub read_pattern-requires : goal.read_pattern-requires
read_pattern-requires c = pattern_text member.EventPattern (members_of (pairs_of c.args.members.now)) c.requires.sound.0

pub unreachable-requires : goal.unreachable-requires
unreachable-requires c =
    let ms = members_of (pairs_of c.args.members.now) in
    let given = event_text member.Event ms c.requires.sound.1.0 in
    let none = rw c.in-None.is at c.in_ok-event.ensures.event in
    none given.0 (subst (λ t. IsEventGiven t given.0) (sym c.text_of.ensures) given.1)
