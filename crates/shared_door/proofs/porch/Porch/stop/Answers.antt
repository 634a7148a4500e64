use Rattle.shared_door.proofs.porch.Porch.stop.Goals as goal

pub end_stopped-requires-clause-stops : goal.end_stopped-requires-clause-stops
end_stopped-requires-clause-stops g c κs lives = g.V.Served.stays _ _ c.meet.ensures.both c.requires.stops
