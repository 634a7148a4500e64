-- For private clauses alone: the lists whose cells are stack frames.
use Rattle.std.specs.Prelude.{◌+◌, ◌*◌, ℕ, suc, List, [], ◌∷◌, ◌++◌, map, Option, option_map, unwrap_or}
use Rattle.json_text.specs.Tree.{Tree}
use Rattle.json_text.specs.View.{tree_of}
use Rattle.json_text.specs.declared.value.Json.{Json}
use Rattle.pattern_meaning.specs.Pattern.{Field, tests, below, branches_of}
use Rattle.pattern_meaning.specs.PatternView.{test_of, pattern_of, fields_view}
use Rattle.pattern_meaning.specs.Meets.{Wants, nothing, fields_paths, branches_paths, fields_weight, branches_weight}
use Rattle.pattern_meaning.specs.declared.frames.Need.{Need}
use Rattle.pattern_meaning.specs.declared.frames.Need.TheVariants as need
use Rattle.pattern_meaning.specs.declared.frames.Wanted.{Wanted, fold-Wanted}
use Rattle.pattern_meaning.specs.declared.frames.Wanted.TheOpen.{Wanted-F}
use Rattle.pattern_meaning.specs.declared.frames.Path.{Path, fold-Path}
use Rattle.pattern_meaning.specs.declared.frames.Path.TheOpen.{Path-F}
use Rattle.pattern_meaning.specs.declared.frames.Known.{Known, fold-Known}
use Rattle.pattern_meaning.specs.declared.frames.Known.TheOpen.{Known-F}
use Rattle.pattern_meaning.specs.declared.frames.Todo.{Todo, fold-Todo}
use Rattle.pattern_meaning.specs.declared.frames.Todo.TheOpen.{Todo-F}
use Rattle.pattern_meaning.specs.declared.frames.Route.{Route, fold-Route}
use Rattle.pattern_meaning.specs.declared.frames.Route.TheOpen.{Route-F}

-- what a need represents
abbrev pub need_of : Need → Field
need_of (need.Tests ts) = tests (map test_of ts.now.items)
need_of (need.Pattern p) = below (pattern_of p.now)

abbrev pub wanted_step : Wanted-F Wants → Wants
wanted_step Wanted-F.End = []
wanted_step (Wanted-F.More key n rest) = (key.now, need_of n) ∷ rest.now

-- what is wanted, first cell first
abbrev pub wants_of : Wanted → Wants
wants_of = fold-Wanted Wants wanted_step

abbrev pub path_step : Path-F (List (List ℕ)) → List (List ℕ)
path_step Path-F.Root = []
path_step (Path-F.Key key up) = up.now ++ key.now ∷ []

-- a path, from the root
abbrev pub path_of : Path → List (List ℕ)
path_of = fold-Path (List (List ℕ)) path_step

abbrev pub known_step : Known-F (List (List (List ℕ))) → List (List (List ℕ))
known_step Known-F.End = []
known_step (Known-F.More at rest) = path_of at.now ∷ rest.now

-- the paths that are known
abbrev pub known_of : Known → List (List (List ℕ))
known_of = fold-Known (List (List (List ℕ))) known_step

abbrev pub todo_step : Todo-F (List (List (List ℕ))) → List (List (List ℕ))
todo_step Todo-F.End = []
todo_step (Todo-F.Fields fields at rest) = fields_paths (fields_view fields.now) (path_of at.now) ++ rest.now
todo_step (Todo-F.Branches branches at rest) = branches_paths (branches_of (map pattern_of branches.now)) (path_of at.now) ++ rest.now

-- the paths of `exists: false` in what is still to be looked through
abbrev pub todo_of : Todo → List (List (List ℕ))
todo_of = fold-Todo (List (List (List ℕ))) todo_step

abbrev pub todo_weight_step : Todo-F ℕ → ℕ
todo_weight_step Todo-F.End = 0
todo_weight_step (Todo-F.Fields fields at rest) = suc (2 * fields_weight (fields_view fields.now)) + rest.now
todo_weight_step (Todo-F.Branches branches at rest) = suc (3 * branches_weight (branches_of (map pattern_of branches.now))) + rest.now

-- how much is still to be looked through
abbrev pub todo_weight : Todo → ℕ
todo_weight = fold-Todo ℕ todo_weight_step

abbrev pub route_step : Route-F (List (List ℕ)) → List (List ℕ)
route_step Route-F.End = []
route_step (Route-F.Key key rest) = key.now ∷ rest.now

-- a path, from the root
abbrev pub route_of : Route → List (List ℕ)
route_of = fold-Route (List (List ℕ)) route_step

-- the value at a site, if there is one
abbrev pub value_of : Option Json → Tree
value_of value = unwrap_or (option_map tree_of value) nothing
