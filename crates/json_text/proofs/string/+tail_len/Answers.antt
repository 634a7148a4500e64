use Rattle.std.proofs.Common.{◌-◌, get_or, arith, refl}
use Rattle.json_text.{specs.Reading.tail, proofs.StringScan.has_room, proofs.StringScan.taken_after, proofs.StringScan.tail_goes}
use Rattle.json_text.proofs.string.+tail_len.Goals as goal

pub after-requires : goal.after-requires
after-requires t c = has_room (tail 128 63 (c.args.more - 1)) c.args.bytes.now c.tail_len.result (omega arith) (omega arith) c.tail_len.ensures

pub returns-in_default-more : goal.returns-in_default-more
returns-in_default-more t c =
    taken_after (tail c.args.low (c.args.up - c.args.low) c.args.more) (tail 128 63 (c.args.more - 1)) c.args.bytes.now _ c.tail_len.result c.after.result
    (omega arith) (λ text. tail_goes c.args.low c.args.up c.args.more text (get_or c.args.bytes.now 0 0) c.if-low-byte.true c.if-byte-up.true (omega arith))
    c.after.ensures refl c.tail_len.ensures
