use Rattle.std.proofs.Common.{Some, rules, refl}
use Rattle.json_text.specs.{Reading.between, Reading.hex, Reading.high, Scan.scan_string}
use Rattle.json_text.proofs.StringScan.{scanned_after}
use Rattle.json_text.proofs.string.push_pair.Goals as goal

pub returns-in-92 : goal.returns-in-92
unfolding scan_string
returns-in-92 c = scanned_after (high c.args.lead) (hex (Some c.args.lead) 3 0) between c.args.text.now.items c.args.text.now.items c.push_low.new.text.items
    c.args.bytes.now _ 2 c.push_low.result c.after.result c.after.ensures refl (search rules) c.push_low.ensures
