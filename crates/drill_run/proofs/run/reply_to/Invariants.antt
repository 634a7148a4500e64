use Rattle.drill_run.proofs.run.reply_to.Given as goal

abbrev pub ghosts-reply_by : goal.ghosts-reply_by
ghosts-reply_by g a = record { bytes = a.message.items }
