use Rattle.bus_server.proofs.once.stand_still.Given as goal

abbrev pub ghosts-still_by : goal.ghosts-still_by
ghosts-still_by g a = record { moment = a.moment }
