use Rattle.std.proofs.Common.{◌≡◌, ◌||◌, length, drop, sym, refl, ap, ◌∙◌, arith, take}
use Rattle.std.specs.Prelude.{◌==◌}
use Rattle.api_messages.specs.Messages.{ruled, body_awaited}
use Rattle.api_messages.proofs.FrontLemmas.{take_after, body_length_at, served_at, message_found}
use Rattle.api_messages.proofs.front.read_message.Goals as goal
use Rattle.api_messages.proofs.front.read_message.Goals.{then-head-eq0, else-head-eq0}

pub returns-in-Err : goal.returns-in-Err
returns-in-Err c =
    let at = c.requires.1 in
    ruled c.requires.0 _ at.reads at.small (sym (body_length_at _ _ _ at) ∙ sym c.body_length.ensures ∙ c.in-Err.is)

pub returns-then-after-body_len : goal.returns-then-after-body_len
returns-then-after-body_len c =
    let at = c.requires.1 in
    let after = take_after c.args.bytes.now c.args.head.len in
    body_awaited c.requires.0 (drop c.args.head.len c.args.bytes.now) c.in-Ok.body_len at.reads
    (served_at _ _ _ c.in-Ok.body_len at (sym c.body_length.ensures ∙ c.in-Ok.is))
    (omega (arith, ap length after, c.if-after-body_len.true))

pub returns : goal.returns
returns c =
    let at = c.requires.1 in
    let after = take_after c.args.bytes.now c.args.head.len in
    let close : c.if-head-eq0.result ≡ ((c.args.head.minor == 0) || c.args.head.fields.close) =
    elim c.if-head-eq0.branch [ then-head-eq0 w ↦ grind arith | else-head-eq0 w ↦ grind arith ] in
    message_found c.args.bytes.now c.args.head c.requires.0 c.in-Ok.body_len _ at
    (sym c.body_length.ensures ∙ c.in-Ok.is)
    (omega (arith, ap length after, c.if-after-body_len.false))
    refl refl refl refl
    (ap (take c.in-Ok.body_len) after)
    close
