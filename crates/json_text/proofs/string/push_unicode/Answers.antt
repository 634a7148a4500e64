use Rattle.std.proofs.Common.{◌≡◌, None, true, refl, rules}
use Rattle.json_text.specs.Reading.{between, hex, high, is_within}
use Rattle.json_text.proofs.StringScan.{scanned_after, high_unit}
use Rattle.json_text.proofs.string.push_unicode.Goals as goal

pub returns-then-contains : goal.returns-then-contains
returns-then-contains c = let e : is_within 0xD800 0xDBFF c.in_ok-unit.unit ≡ true = search rules in
    scanned_after (hex None 3 0) (high c.in_ok-unit.unit) between c.args.text.now.items c.args.text.now.items c.push_pair.new.text.items c.args.digits.now _ 4
    c.push_pair.result c.after.result c.after.ensures refl (high_unit c.args.text.now.items c.args.digits.now c.in_ok-unit.unit c.in_ok-unit.ensures e)
    c.push_pair.ensures
