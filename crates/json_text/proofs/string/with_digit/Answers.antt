use Rattle.std.proofs.Common.{sym, ◌∙◌, ap}
use Rattle.json_text.specs.Characters.{hex_digit_of}
use Rattle.json_text.proofs.StringScan.{place_goes, place_no_digit, place_no_fit, place_empty}
use Rattle.json_text.proofs.string.with_digit.Goals as goal

pub returns-in_err-get-clause-none : goal.returns-in_err-get-clause-none
returns-in_err-get-clause-none c e = place_empty c.args.lead c.args.digits.now c.args.place c.args.unit c.requires.place c.in_err-get.ensures.lookup.3

pub returns-in_err-digit-clause-none : goal.returns-in_err-digit-clause-none
returns-in_err-digit-clause-none c e = let found = c.in_ok-get.ensures.lookup.3 in
    place_no_digit c.args.lead c.args.digits.now c.args.place c.args.unit c.requires.place found.0
    (ap hex_digit_of (sym (found.1 0)) ∙ sym c.in_err-digit.ensures)

pub returns-then-fits-clause-some : goal.returns-then-fits-clause-some
returns-then-fits-clause-some c = let found = c.in_ok-get.ensures.lookup.3 in
    place_goes c.args.lead c.args.digits.now c.args.place c.args.unit c.requires.place c.in_ok-digit.digit found.0
    (ap hex_digit_of (sym (found.1 0)) ∙ sym c.in_ok-digit.ensures) c.requires.unit (sym c.if-fits.ensures)

pub returns-else-fits-clause-none : goal.returns-else-fits-clause-none
returns-else-fits-clause-none c e = let found = c.in_ok-get.ensures.lookup.3 in
    place_no_fit c.args.lead c.args.digits.now c.args.place c.args.unit c.requires.place c.in_ok-digit.digit found.0
    (ap hex_digit_of (sym (found.1 0)) ∙ sym c.in_ok-digit.ensures) (sym c.if-fits.ensures)
