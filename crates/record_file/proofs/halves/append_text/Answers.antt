use Rattle.std.proofs.Common.{inl}
use Rattle.record_file.proofs.halves.append_text.Goals as goal
use Rattle.record_file.proofs.AppendedLemmas.{opens}

pub returns-in-Ok-clause-calls : goal.returns-in-Ok-clause-calls
returns-in-Ok-clause-calls g c =
    opens (g.D.Disk.calls c.args.disk.now) (g.D.Disk.calls c.lay.new.disk) (g.D.Disk.calls c.open.new.disk) c.args.gate c.args.text.now c.open.result
    c.in-Ok.ensures.calls c.open.ensures.calls

pub returns-in-Err-clause-calls : goal.returns-in-Err-clause-calls
returns-in-Err-clause-calls g c = inl c.in-Err.ensures.calls
