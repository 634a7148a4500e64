use Rattle.std.proofs.Common.{◌-◌, get_or, arith, refl}
use Rattle.json_text.specs.Reading.{between, tail}
use Rattle.json_text.proofs.StringScan.{has_room, taken_after, first_goes}
use Rattle.json_text.proofs.string.character_len.Goals as goal

pub after-requires : goal.after-requires
after-requires c = has_room (tail c.in-Some.low (c.in-Some.up - c.in-Some.low) c.in-Some.more) c.args.bytes.now c.tail_len.result (omega arith) (omega arith)
    c.tail_len.ensures

pub returns-in-Some-clause-taken : goal.returns-in-Some-clause-taken
returns-in-Some-clause-taken c =
    taken_after between (tail c.in-Some.low (c.in-Some.up - c.in-Some.low) c.in-Some.more) c.args.bytes.now _ c.tail_len.result c.after.result (omega arith)
    (λ text. first_goes text (get_or c.args.bytes.now 0 0) _ c.requires.no_end c.requires.no_escape (c.in-Some.ensures.step text))
    c.after.ensures refl c.tail_len.ensures
