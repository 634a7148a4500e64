use Rattle.std.proofs.Common.{◌≡◌, sym, ap, ◌∙◌}
use Rattle.std.specs.Str.{bytes_eq}
use Rattle.std.proofs.lemmas.Bool.Decides.{not_from_Decides}
use Rattle.std.proofs.lemmas.Slice.Eq.{bytes_eq-Decides}
use Rattle.json_text.specs.Compact.{compact_text}
use Rattle.entry_bytes.proofs.change.read_policy.Goals as goal

pub returns-else-eq : goal.returns-else-eq
returns-else-eq c = λ h.
    let same = c.in-Ok.ensures.only h.0 (rw c.as_bytes.ensures.value h.1) in
    let is : c.text.result.now ≡ c.args.text.now = c.text.ensures.text ∙ ap compact_text same ∙ sym h.2 in
    not_from_Decides (bytes_eq c.text.result.now c.args.text.now) (bytes_eq-Decides c.text.result.now c.args.text.now) (sym c.eq.ensures ∙ c.if-eq.false) is

pub returns-in-Err-Bad : goal.returns-in-Err-Bad
returns-in-Err-Bad c = λ h.
    let refused = c.in-Err-Bad.ensures.only h.0 (rw c.as_bytes.ensures.value h.1) in
    cc
