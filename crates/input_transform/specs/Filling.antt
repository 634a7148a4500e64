-- For private clauses alone: what a template is filled from, as the code has it.
use Rattle.std.specs.Prelude.{◌≡◌, List, map, Option, Some, None}
use Rattle.std.specs.Option.{option_map, option_copied}
use Rattle.json_text.specs.Tree.{Tree}
use Rattle.json_text.specs.View.{tree_of}
use Rattle.json_text.specs.declared.value.Json.{Json}
use Rattle.std.specs.Borrow.{Bor}
use Rattle.input_transform.specs.declared.path.Step.{Step}
use Rattle.input_transform.specs.declared.value.Filling.{Filling}
use Rattle.input_transform.specs.declared.value.Found.{Found}
use Rattle.input_transform.specs.declared.value.Found.TheVariants.{Missing, Lent, Made}
use Rattle.input_transform.specs.Path.{found_at}
use Rattle.input_transform.specs.Names.{Scene}

-- what was found, as trees
abbrev pub founds : List (Option (Bor Json)) → List (Option Tree)
founds = map (λ r. option_map tree_of (option_copied r))

-- what the paths find
abbrev pub lookups : Tree → List (List Step) → List (Option Tree)
lookups event = map (λ steps. found_at steps event)

abbrev pub scene_of : Filling → Scene
scene_of f = record { event = tree_of f.event.now; rule_arn = f.rule_arn.now; time = f.time.now }

-- what was found is what the paths find
abbrev pub IsFound : Filling → List (List Step) → Type 0
IsFound f paths = founds f.found.now ≡ lookups (tree_of f.event.now) paths

abbrev pub tree_in : Found → Option Tree
tree_in Missing = None
tree_in (Lent j) = Some (tree_of j.now)
tree_in (Made j) = Some (tree_of j)
