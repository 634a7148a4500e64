use Rattle.std.proofs.Common.{◌++◌, ◌∙◌, sym, ap, subst}
use Rattle.std.specs.Str.{IsUtf8}
use Rattle.json_text.specs.View.{tree_of}
use Rattle.json_text.specs.Compact.{compact_text}
use Rattle.json_text.proofs.WrittenUtf8.{compact_utf8}
use Rattle.rule_targets.proofs.reading.compact.Goals as goal

pub unreachable-requires : goal.unreachable-requires
unreachable-requires c =
    let written = c.as_slice.ensures ∙ c.in_ok-write.ensures.ok ∙ ap (λ x. x ++ compact_text (tree_of c.args.json.now)) c.new-out.ensures in
    c.in-Err.ensures.cases.0 (subst IsUtf8 (sym written) (compact_utf8 (tree_of c.args.json.now) c.requires))
