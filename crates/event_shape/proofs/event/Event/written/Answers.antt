use Rattle.std.proofs.Common.{◌∷◌, ◌++◌, ◌∙◌, sym, ap, subst}
use Rattle.std.specs.Option.{option_copied}
use Rattle.std.specs.Str.{IsUtf8}
use Rattle.json_text.specs.Tree.{members_of}
use Rattle.json_text.specs.View.{pairs_of}
use Rattle.json_text.specs.Compact.{compact_text, members_text}
use Rattle.json_text.proofs.WrittenUtf8.{compact_utf8}
use Rattle.event_shape.specs.Event.{event_tree}
use Rattle.event_shape.proofs.ValidLemmas.{event_value}
use Rattle.event_shape.proofs.WrittenLemmas.{event_written}
use Rattle.event_shape.proofs.event.Event.written.Goals as goal

pub returns-clause-bytes : goal.returns-clause-bytes
returns-clause-bytes c =
    let opens = c.in_ok-write_open.ensures ∙ ap (λ x. x ++ 123 ∷ members_text (members_of (pairs_of c.in_ok-front_members.field-0.items))) c.new-out.ensures
    ∙ ap (λ ms. 123 ∷ members_text (members_of ms)) c.in_ok-front_members.ensures.members in
    let detail = c.in_ok-write.ensures.ok ∙ ap (λ e. c.extend.new.self ++ compact_text e.detail) c.self.view_is in
    event_written c.args.self.now (option_copied c.args.replay) c.write_open.new.out c.extend.new.self c.write.new.out c.push_replay.new.out c.extend-2.new.self
    opens c.in_ok-extend.ensures.ok detail c.in_ok-push_replay.ensures.pushed c.in_ok-extend-2.ensures.ok

pub returns-clause-utf8 : goal.returns-clause-utf8
returns-clause-utf8 c =
    let opens = c.in_ok-write_open.ensures ∙ ap (λ x. x ++ 123 ∷ members_text (members_of (pairs_of c.in_ok-front_members.field-0.items))) c.new-out.ensures
    ∙ ap (λ ms. 123 ∷ members_text (members_of ms)) c.in_ok-front_members.ensures.members in
    let detail = c.in_ok-write.ensures.ok ∙ ap (λ e. c.extend.new.self ++ compact_text e.detail) c.self.view_is in
    let written = event_written c.args.self.now (option_copied c.args.replay)
    c.write_open.new.out c.extend.new.self c.write.new.out c.push_replay.new.out c.extend-2.new.self
    opens c.in_ok-extend.ensures.ok detail c.in_ok-push_replay.ensures.pushed c.in_ok-extend-2.ensures.ok in
    let value = event_value c.args.self.now (option_copied c.args.replay) c.front_members.ensures.event c.in_ok-push_replay.ensures.utf8 in
    subst IsUtf8 (sym written) (compact_utf8 (event_tree c.args.self.now (option_copied c.args.replay)) value)
