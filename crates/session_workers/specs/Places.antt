-- Links that have places.
use Rattle.session_workers.specs.declared.places.Placed.{Placed}

-- for private clauses: a link without its places, and its clock
abbrev pub lent_of : {L R C : Type 0} → Placed L R × C → L × C
lent_of o = (o.0.link, o.1)
