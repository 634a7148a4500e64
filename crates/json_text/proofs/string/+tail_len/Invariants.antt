use Rattle.json_text.proofs.string.+tail_len.Given as goal

abbrev pub decreases-tail_len : goal.decreases-tail_len
decreases-tail_len l = l.more
