-- For private clauses alone: what a place of the walk wants.
use Rattle.std.specs.List.{enumerate_from}
use Rattle.event_flatten.specs.Walk.{Wants, rests}
use Rattle.event_flatten.specs.declared.wanted.Wanted.{Wanted}

-- the paths that are wanted, each with its number and the keys that are left
abbrev pub wants_of : Wanted → Wants
wants_of wanted = enumerate_from wanted.first (rests wanted.depth wanted.paths.now)
