use Rattle.std.proofs.Common.{◌++◌, ◌∙◌, ap, sym, subst}
use Rattle.std.specs.Str.{IsUtf8}
use Rattle.json_text.specs.View.{tree_of}
use Rattle.json_text.specs.Compact.{compact_text}
use Rattle.json_text.proofs.WrittenUtf8.{compact_utf8}
use Rattle.input_transform.proofs.fill.text_of_value.Goals as goal

pub text_of_bytes-requires : goal.text_of_bytes-requires
text_of_bytes-requires c =
    let written = c.in-Ok.ensures.ok ∙ ap (λ x. x ++ compact_text (tree_of c.args.json.now)) c.new-out.ensures in
    subst IsUtf8 (sym written) (compact_utf8 (tree_of c.args.json.now) c.requires)
