use Rattle.std.proofs.Common.{sym, ◌∙◌, arith, drop, take, length, get_or, refl, ◌-◌}
use Rattle.input_transform.proofs.PathLemmas.{not_begun, begins_with, first_digit, moved}
use Rattle.input_transform.proofs.path_text.read_place.Goals as goal

pub returns-in-Some : goal.returns-in-Some
returns-in-Some c =
    let bytes = c.args.bytes.now in
    let whole = begins_with (get_or bytes 0 0) bytes (omega arith) refl in
    let same = first_digit bytes (take (length bytes - 1) (drop 1 bytes)) c.in-Some.digit (get_or bytes 0 0) 0 c.in-Some.ensures.1 c.in-Some.ensures.0 whole in
    moved _ bytes c.more_digits.result same c.more_digits.ensures

pub returns-in-None : goal.returns-in-None
returns-in-None c m rest fits e =
    let bytes = c.args.bytes.now in
    let whole = begins_with (get_or bytes 0 0) bytes (omega arith) refl in
    not_begun m (get_or bytes 0 0) (take (length bytes - 1) (drop 1 bytes)) rest fits c.in-None.ensures (sym whole ∙ e)
