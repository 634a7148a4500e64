use Rattle.std.proofs.Common.{◌≡◌, map, drop}
use Rattle.input_transform.specs.Names.{first_named, found}
use Rattle.input_transform.proofs.name.path_named.Given as goal

-- the name is among the paths that are left, if it is one
abbrev pub invariant-loop-place : goal.invariant-loop-place
invariant-loop-place l = first_named l.name (map (λ p. (p.0, found p.1)) (drop l.place l.paths)) ≡ first_named l.name (map (λ p. (p.0, found p.1)) l.paths)
