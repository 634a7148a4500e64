use Rattle.std.proofs.Common.{◌≡◌, ◌+◌, ◌++◌, Ok, IsUtf8, take, drop, get_or, ap, sym, subst, ◌∙◌, arith}
use Rattle.json_text.specs.{Reading.between, Scan.scan_string}
use Rattle.json_text.proofs.StringScan.{mark_utf8, at_mark}
use Rattle.json_text.proofs.PlainLemmas.{plain_front}
use Rattle.json_text.proofs.string.string_after.Goals.{then-loop-at-test+else-bytes-at-ne34, else-loop-at-test}
use Rattle.json_text.proofs.string.string_after.Goals as goal

pub loop-at-init : goal.loop-at-init
loop-at-init c = record {
  within = omega arith;
  same = plain_front c.args.bytes.now c.args.plain c.requires.plain c.requires.within
      ∙ ap (λ t. scan_string between t c.args.plain (drop c.args.plain c.args.bytes.now))
      (sym (c.in_ok-extend_from_slice.ensures.items ∙ ap (λ t. t ++ take c.args.plain c.args.bytes.now) c.in_ok-text.ensures.items));
}

pub from_utf8-requires : goal.from_utf8-requires
from_utf8-requires c = let mark : get_or c.args.bytes.now c.loop-at.at 0 ≡ 34 =
    elim c.loop-at-test.branch [ then-loop-at-test+else-bytes-at-ne34 w ↦ omega arith | else-loop-at-test w ↦ absurd (omega arith) ] in
    subst IsUtf8 (sym c.deref.ensures.value) (mark_utf8 c.args.bytes.now c.loop-at.text.items c.loop-at.at (omega arith) mark c.loop-at.invariant.same)

pub returns-clause-ok : goal.returns-clause-ok
returns-clause-ok c = let mark : get_or c.args.bytes.now c.loop-at.at 0 ≡ 34 =
    elim c.loop-at-test.branch [ then-loop-at-test+else-bytes-at-ne34 w ↦ omega arith | else-loop-at-test w ↦ absurd (omega arith) ] in
    c.loop-at.invariant.same ∙ at_mark c.args.bytes.now c.loop-at.text.items c.loop-at.at (omega arith) mark
    ∙ ap (λ t. Ok (t, c.loop-at.at + 1)) (sym (c.in_ok-from_utf8.ensures ∙ c.deref.ensures.value))
