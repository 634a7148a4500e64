use Rattle.event_shape.proofs.id.push_id.Goals as goal

pub returns : goal.returns
returns c = rw (c.encode_lower.ensures.text, c.hyphenated.ensures, c.from_u128-id.ensures) at c.in_ok-push_str.ensures.bytes
