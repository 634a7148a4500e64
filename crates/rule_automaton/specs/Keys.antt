-- For private clauses alone: keys whose cells are stack frames.
use Rattle.std.specs.Prelude.{ℕ, List, [], ◌∷◌, ◌++◌}
use Rattle.rule_automaton.specs.declared.keys.Keys.{Keys, fold-Keys}
use Rattle.rule_automaton.specs.declared.keys.Keys.TheOpen.{Keys-F}

abbrev pub keys_step : Keys-F (List (List ℕ)) → List (List ℕ)
keys_step Keys-F.Root = []
keys_step (Keys-F.Key key up) = up.now ++ key.now ∷ []

-- the keys, from the root on
abbrev pub keys_of : Keys → List (List ℕ)
keys_of = fold-Keys (List (List ℕ)) keys_step
