use Rattle.std.proofs.Common.{◌++◌, ◌≤◌, [], rules, refl, length, arith, sym, subst, List, ℕ, length-take}
use Rattle.std.proofs.lemmas.Result.{err_from_is_err_and}
use Rattle.json_text.specs.{Reading.between, Reading.backslash, Scan.scan_string, Scan.Passes}
use Rattle.json_text.proofs.StringScan.{scanned_after, stopped}
use Rattle.json_text.proofs.PlainLemmas.{plain_passes}
use Rattle.json_text.proofs.string.push_characters.Goals as goal

pub returns-then-plain-gt0-clause-scanned : goal.returns-then-plain-gt0-clause-scanned
returns-then-plain-gt0-clause-scanned c = subst (λ (t : List ℕ). Passes between c.args.text.now.items c.args.bytes.now between t c.plain_len-plain.result)
    (sym c.in_ok-push_front.ensures) (plain_passes c.args.bytes.now c.args.text.now.items c.plain_len-plain.result c.plain_len-plain.ensures.plain c.plain_len-plain.ensures.within)

pub returns-then-bytes-eq92-clause-scanned : goal.returns-then-bytes-eq92-clause-scanned
unfolding scan_string
returns-then-bytes-eq92-clause-scanned c = scanned_after between backslash between c.args.text.now.items c.args.text.now.items c.push_escaped.new.text.items
    c.args.bytes.now _ 1 c.push_escaped.result c.after.result c.after.ensures refl (search rules) c.push_escaped.ensures

pub returns-in_err-len-clause-scanned : goal.returns-in_err-len-clause-scanned
returns-in_err-len-clause-scanned c = let p = err_from_is_err_and c.from_residual-in_err-len.result c.from_residual-in_err-len.ensures.1 in
    rw (p.1, p.2) (stopped between c.args.text.now.items c.args.bytes.now between (c.args.text.now.items ++ []) c.args.text.now.items c.in_err-len.field-0.0
    (c.in_err-len.ensures.taken c.args.text.now.items))

pub slice_bounds-extend_from_slice-end : goal.slice_bounds-extend_from_slice-end
slice_bounds-extend_from_slice-end c = let h : c.in_ok-len.len ≤ length c.args.bytes.now = (c.in_ok-len.ensures.taken []).0 in
    omega (arith, length-take c.in_ok-len.len c.args.bytes.now)

pub returns-clause-scanned : goal.returns-clause-scanned
returns-clause-scanned c = subst (λ (t : List ℕ). Passes between c.args.text.now.items c.args.bytes.now between t c.in_ok-len.len)
    (sym c.in_ok-extend_from_slice.ensures.items) (c.in_ok-len.ensures.taken c.args.text.now.items)
