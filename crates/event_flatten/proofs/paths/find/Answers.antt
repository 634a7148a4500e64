use Rattle.std.proofs.Common.{rules, of_calls}
use Rattle.std.proofs.lemmas.Fn.{always_returns_same}
use Rattle.event_flatten.specs.Path.{path_cmp}
use Rattle.event_flatten.proofs.PathLemmas.{path_rises, path_at, path_nowhere}
use Rattle.event_flatten.proofs.paths.find.Goals as goal

pub returns-in-Ok : goal.returns-in-Ok
returns-in-Ok c =
    let at = c.in-Ok.ensures.position (λ path. path_cmp path c.args.keys.now) (always_returns_same _ _ _ (λ a r f k. search (rules, of_calls))) in
    (c.in-Ok.ensures.bound, path_at c.args.keys.now c.args.paths.now c.in-Ok.number at)

pub returns-in-Err : goal.returns-in-Err
returns-in-Err c =
    let point = c.in-Err.ensures.position (λ path. path_cmp path c.args.keys.now) (always_returns_same _ _ _ (λ a r f k. search (rules, of_calls)))
    (path_rises c.args.keys.now c.args.paths.now c.requires) in
    path_nowhere c.args.keys.now c.args.paths.now _ point
