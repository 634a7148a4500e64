use Rattle.std.proofs.Common.{◌≡◌, ℕ, ◌-◌, List, length, take, Some, None, sym, ap, ◌∙◌, arith, length-append}
use Rattle.std.proofs.lemmas.Bool.{false≢true}
use Rattle.api_messages.specs.Lines.{skip_newlines, after_lines}
use Rattle.api_messages.proofs.LineLemmas.{front_cut, begins_here, begins_back, begins_found}
use Rattle.api_messages.proofs.lines.begins_65th.Goals as goal

pub slice_bounds-is_full-count : goal.slice_bounds-is_full-count
slice_bounds-is_full-count c =
    let s = c.args.start.now in
    let after = c.in-Some.after.now in
    let cut = front_cut s after (ap (after_lines 65) (sym c.skip_newlines.ensures) ∙ c.in-Some.ensures) in
    omega (arith, ap length cut.whole, length-append (take (length s - length after) s) after)

pub is_full-requires-clause-ends : goal.is_full-requires-clause-ends
is_full-requires-clause-ends c =
    let cut = front_cut c.args.start.now c.in-Some.after.now (ap (after_lines 65) (sym c.skip_newlines.ensures) ∙ c.in-Some.ensures) in
    (cut.line, cut.front)

pub returns-then-begins_name : goal.returns-then-begins_name
returns-then-begins_name c =
    let s = c.args.start.now in
    let after = c.in-Some.after.now in
    let found : after_lines 65 (skip_newlines s) ≡ Some after = ap (after_lines 65) (sym c.skip_newlines.ensures) ∙ c.in-Some.ensures in (
      λ full. begins_here s _ after (front_cut s after found).whole (c.is_full.ensures.0 full) (c.begins_name.ensures.0 c.if-begins_name.true),
      λ begins. c.is_full.ensures.1 (begins_back s after found begins).0,
    )

pub returns-else-begins_name : goal.returns-else-begins_name
returns-else-begins_name c =
    let s = c.args.start.now in
    let after = c.in-Some.after.now in
    let found : after_lines 65 (skip_newlines s) ≡ Some after = ap (after_lines 65) (sym c.skip_newlines.ensures) ∙ c.in-Some.ensures in (
      λ name. absurd (false≢true (sym c.if-begins_name.false ∙ name)),
      λ begins. c.begins_name.ensures.1 (begins_back s after found begins).1,
    )

pub returns-in-None : goal.returns-in-None
returns-in-None c =
    let none : after_lines 65 (skip_newlines c.args.start.now) ≡ None = ap (after_lines 65) (sym c.skip_newlines.ensures) ∙ c.in-None.ensures in (
      λ never. absurd (false≢true never),
      λ begins. let found = begins_found c.args.start.now begins in cc (none, found),
    )
