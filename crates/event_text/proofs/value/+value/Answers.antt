use Rattle.std.proofs.Common.{[], ◌∷◌, ◌++◌, true, false, length, ap, arith}
use Rattle.std.proofs.lemmas.Option.{IfSome_then}
use Rattle.json_text.specs.Tree.{null, truth, number, text, list, object, items_of, members_of}
use Rattle.event_text.proofs.TextLemmas.{cut_1, cut_2, left_after, left_shorter}
use Rattle.event_text.proofs.ListLemmas.{text_value, number_value, list_value, object_value, another_item, one_member, another_member}
use Rattle.event_text.proofs.value.+value.Goals as goal

pub after_value-returns-in-34-clause-value : goal.after_value-returns-in-34-clause-value
after_value-returns-in-34-clause-value t c =
    let bytes = c.args.bytes.now in
    IfSome_then c.after_string.result c.after_string.ensures.text
    (λ rest p. (text p.0, text_value c.args.levels p.0 bytes _ rest.now (left_after bytes 1 (34 ∷ []) (cut_1 bytes 34 c.in-34.len_at_least (omega arith))) p.1))

pub after_value-returns-in_ok-checked_sub-in-123-clause-value : goal.after_value-returns-in_ok-checked_sub-in-123-clause-value
after_value-returns-in_ok-checked_sub-in-123-clause-value t c =
    let bytes = c.args.bytes.now in
    let less = c.in_ok-checked_sub-in-123.ensures in
    IfSome_then c.after_members.result c.after_members.ensures.members
    (λ rest m. (
      object (members_of m.0),
      object_value c.args.levels _ m.0 bytes _ rest.now
          (left_after bytes 1 (123 ∷ []) (cut_1 bytes 123 c.in-123.len_at_least (omega arith))) less.0 less.1 m.1,
    ))

pub after_value-returns-in_ok-checked_sub-in-91-clause-value : goal.after_value-returns-in_ok-checked_sub-in-91-clause-value
after_value-returns-in_ok-checked_sub-in-91-clause-value t c =
    let bytes = c.args.bytes.now in
    let less = c.in_ok-checked_sub-in-91.ensures in
    IfSome_then c.after_items.result c.after_items.ensures.items
    (λ rest m. (
      list (items_of m.0),
      list_value c.args.levels _ m.0 bytes _ rest.now
          (left_after bytes 1 (91 ∷ []) (cut_1 bytes 91 c.in-91.len_at_least (omega arith))) less.0 less.1 m.1,
    ))

pub after_value-returns-in-116-clause-value : goal.after_value-returns-in-116-clause-value
after_value-returns-in-116-clause-value t c =
    IfSome_then c.after.result c.after.ensures (λ rest is. (truth true, record { value = tt; within = omega arith; written = is }))

pub after_value-returns-in-116-clause-shorter : goal.after_value-returns-in-116-clause-shorter
after_value-returns-in-116-clause-shorter t c = IfSome_then c.after.result c.after.ensures (λ rest is. omega (arith, ap length is))

pub after_value-returns-in-102-clause-value : goal.after_value-returns-in-102-clause-value
after_value-returns-in-102-clause-value t c =
    IfSome_then c.after-in-102.result c.after-in-102.ensures (λ rest is. (truth false, record { value = tt; within = omega arith; written = is }))

pub after_value-returns-in-102-clause-shorter : goal.after_value-returns-in-102-clause-shorter
after_value-returns-in-102-clause-shorter t c = IfSome_then c.after-in-102.result c.after-in-102.ensures (λ rest is. omega (arith, ap length is))

pub after_value-returns-in-110-clause-value : goal.after_value-returns-in-110-clause-value
after_value-returns-in-110-clause-value t c =
    IfSome_then c.after-in-110.result c.after-in-110.ensures (λ rest is. (null, record { value = tt; within = omega arith; written = is }))

pub after_value-returns-in-110-clause-shorter : goal.after_value-returns-in-110-clause-shorter
after_value-returns-in-110-clause-shorter t c = IfSome_then c.after-in-110.result c.after-in-110.ensures (λ rest is. omega (arith, ap length is))

pub after_value-returns-in_default-clause-value : goal.after_value-returns-in_default-clause-value
after_value-returns-in_default-clause-value t c =
    IfSome_then c.after_number.result c.after_number.ensures.number
    (λ rest n. (number n.front, number_value c.args.levels c.args.bytes.now rest.now n))

pub after_items-loop-left-preserved : goal.after_items-loop-left-preserved
after_items-loop-left-preserved t c =
    let left = c.loop-left.left.now in
    let so_far = c.loop-left.invariant.items in
    let next = c.in_ok-left-2.ensures.value in
    record {
      items = (
        so_far.0,
        so_far.1 ++ next.0 ∷ [],
        another_item c.args.levels so_far.0 next.0 so_far.1 c.args.bytes.now left _ c.in_ok-left-2.left.now so_far.2
            (left_after left 1 (44 ∷ []) (cut_1 left 44 c.in-44.len_at_least (omega arith))) next.1,
      );
      shorter = omega (arith, c.in_ok-left-2.ensures.shorter, left_shorter left 1, c.loop-left.invariant.shorter);
    }

pub after_some_members-loop-left-init : goal.after_some_members-loop-left-init
after_some_members-loop-left-init t c =
    let b = c.in_ok-left.ensures.member in
    let one = one_member c.args.levels c.new-hashes.result.items c.after_member.new.hashes.items (34 ∷ c.args.bytes.now) c.in_ok-left.left.now c.new-hashes.ensures b in
    record { members = ((b.key, b.tree), [], one.0, one.1); shorter = c.in_ok-left.ensures.shorter }

pub after_some_members-loop-left-preserved : goal.after_some_members-loop-left-preserved
after_some_members-loop-left-preserved t c =
    let left = c.loop-left.left.now in
    let so_far = c.loop-left.invariant.members in
    let b = c.in_ok-left-2.ensures.member in
    let more = another_member c.args.levels so_far.0 so_far.1 c.loop-left.hashes.items c.after_member-in-44.new.hashes.items (34 ∷ c.args.bytes.now) left _
    c.in_ok-left-2.left.now so_far.2 so_far.3 (left_after left 2 (44 ∷ 34 ∷ []) (cut_2 left 44 34 c.in-44.len_at_least (omega arith) (omega arith))) b in
    record {
      members = (so_far.0, so_far.1 ++ (b.key, b.tree) ∷ [], more.0, more.1);
      shorter = omega (arith, c.in_ok-left-2.ensures.shorter, left_shorter left 2, c.loop-left.invariant.shorter);
    }
