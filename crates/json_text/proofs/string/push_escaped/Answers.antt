use Rattle.std.proofs.Common.{None, rules, refl}
use Rattle.json_text.specs.{Reading.between, Reading.backslash, Reading.hex, Scan.scan_string}
use Rattle.json_text.proofs.StringScan.{scanned_after}
use Rattle.json_text.proofs.string.push_escaped.Goals as goal

pub returns-in-117 : goal.returns-in-117
unfolding scan_string
returns-in-117 c =
    scanned_after backslash (hex None 3 0) between c.args.text.now.items c.args.text.now.items c.push_unicode.new.text.items c.args.bytes.now _ 1
    c.push_unicode.result c.after.result c.after.ensures refl (search rules) c.push_unicode.ensures
