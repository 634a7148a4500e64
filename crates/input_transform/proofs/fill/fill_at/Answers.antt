use Rattle.std.proofs.Common.{◌≡◌, sym, ap, ◌∙◌, subst, IsUtf8}
use Rattle.json_text.specs.View.{tree_of}
use Rattle.input_transform.specs.Names.{Scene}
use Rattle.input_transform.specs.Stored.{IsScene, pieces_text}
use Rattle.input_transform.specs.Fills.{IsWithinLimit}
use Rattle.input_transform.specs.Filling.{founds, lookups}
use Rattle.input_transform.proofs.FillLemmas.{stored_utf8, stored_filled}
use Rattle.input_transform.proofs.fill.fill_at.Goals as goal

pub text_of_bytes-requires : goal.text_of_bytes-requires
text_of_bytes-requires c =
    let scene : Scene = record { event = tree_of c.args.event.now; rule_arn = c.args.rule_arn.now; time = c.args.time.now } in
    let sound : IsScene scene = record {
      value = c.requires;
      rule_arn = c.utf8.rule_arn;
      rule_name = subst IsUtf8 c.rule_name-name.ensures c.rule_name-name.utf8;
      time = c.utf8.time;
    } in
    let paths = c.args.template.now.1 in
    let found : founds c.deref.result.now ≡ lookups scene.event paths =
    ap founds c.deref.ensures.value ∙ c.in_ok-found.ensures ∙ ap (lookups scene.event) c.paths.ensures.value in
    let whole = (c.in-Ok.ensures paths found).0 ∙ ap (pieces_text scene paths) c.pieces.ensures in
    subst IsUtf8 (sym whole) (stored_utf8 scene c.args.template.now c.paths.ensures.fill sound)

pub returns-in-Ok-clause-value : goal.returns-in-Ok-clause-value
returns-in-Ok-clause-value c =
    let scene : Scene = record { event = tree_of c.args.event.now; rule_arn = c.args.rule_arn.now; time = c.args.time.now } in
    let sound : IsScene scene = record {
      value = c.requires;
      rule_arn = c.utf8.rule_arn;
      rule_name = subst IsUtf8 c.rule_name-name.ensures c.rule_name-name.utf8;
      time = c.utf8.time;
    } in
    let paths = c.args.template.now.1 in
    let found : founds c.deref.result.now ≡ lookups scene.event paths =
    ap founds c.deref.ensures.value ∙ c.in_ok-found.ensures ∙ ap (lookups scene.event) c.paths.ensures.value in
    let whole = (c.in-Ok.ensures paths found).0 ∙ ap (pieces_text scene paths) c.pieces.ensures in
    stored_filled scene c.args.template.now c.text_of_bytes.result c.paths.ensures.fill sound
    (subst (λ x. IsWithinLimit (λ t. t) x c.text_of_bytes.result) whole c.text_of_bytes.ensures)
