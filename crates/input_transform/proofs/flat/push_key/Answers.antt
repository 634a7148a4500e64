use Rattle.std.proofs.Common.{◌++◌, ◌∷◌, [], ◌∙◌, ap, sym, flat_map, append_assoc}
use Rattle.std.proofs.lemmas.Result.{on_ok_weaker}
use Rattle.json_text.specs.Compact.{escape}
use Rattle.input_transform.specs.Letters.{shown}
use Rattle.input_transform.proofs.FlatLemmas.{quoted_closed}
use Rattle.input_transform.proofs.flat.push_key.Goals as goal

pub returns : goal.returns
returns c = on_ok_weaker c.push_bytes-2.result (λ h scene paths.
    let name = flat_map escape c.without_letter-name.result.now in
    h scene paths
    ∙ quoted_closed (shown scene paths c.args.out.now) (shown scene paths c.push_bytes.new.self) name (shown scene paths c.push_escaped.new.self) (34 ∷ 58 ∷ [])
    (c.in_ok-push_bytes.ensures scene paths) (c.in_ok-push_escaped.ensures scene paths)
    ∙ ap (λ x. shown scene paths c.args.out.now ++ 34 ∷ x) (sym (append_assoc name (34 ∷ []) (58 ∷ [])))
    ∙ ap (λ n. shown scene paths c.args.out.now ++ 34 ∷ ((flat_map escape n ++ 34 ∷ []) ++ 58 ∷ [])) c.without_letter-name.ensures) c.push_bytes-2.ensures
