use Rattle.std.proofs.Common.{◌≡◌, ap, ap₂, refl, ◌∙◌, ◌++◌}
use Rattle.std.specs.List.{enumerate_from}
use Rattle.json_text.specs.View.{tree_of}
use Rattle.event_flatten.specs.Leaves.{numbered}
use Rattle.event_flatten.specs.Walk.{found_in}
use Rattle.event_flatten.proofs.LeafLemmas.{by_path_is, found_numbered}
use Rattle.event_flatten.proofs.FieldLemmas.{rises_map}
use Rattle.event_flatten.proofs.fields.Fields.of.Goals as goal

pub returns-clause-all : goal.returns-clause-all
returns-clause-all c =
    let event = tree_of c.args.event.now in
    let found : c.walk.new.found ≡ found_in (enumerate_from 0 c.args.paths.now) event =
    c.in_ok-walk.ensures ∙ ap₂ ◌++◌ c.new-found.ensures (ap (λ w. found_in w event) c.all.ensures) in
    by_path_is c.args.paths.now event _ c.requires.value (rises_map c.by_path-leaves.result.items _ refl c.by_path-leaves.ensures.sorted)
    (λ n. c.by_path-leaves.ensures.same n ∙ ap (numbered n) found)

pub returns-clause-each : goal.returns-clause-each
returns-clause-each c =
    let event = tree_of c.args.event.now in
    let found : c.walk.new.found ≡ found_in (enumerate_from 0 c.args.paths.now) event =
    c.in_ok-walk.ensures ∙ ap₂ ◌++◌ c.new-found.ensures (ap (λ w. found_in w event) c.all.ensures) in
    λ n d within. c.by_path-leaves.ensures.same n ∙ ap (numbered n) found ∙ found_numbered c.args.paths.now event n d c.requires.value within
