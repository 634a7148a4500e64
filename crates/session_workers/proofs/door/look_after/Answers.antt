use Rattle.std.proofs.Common.{refl}
use Rattle.shared_door.proofs.Keeping.{prefix_self}
use Rattle.session_workers.proofs.JobsLemmas.{look_learns}
use Rattle.session_workers.proofs.door.look_after.Goals as goal

pub returns-in-Done-clause-more : goal.returns-in-Done-clause-more
returns-in-Done-clause-more g c = look_learns c.args.pass.now.seat c.look.new.pass.seat _ c.look.ensures.more c.look.ensures.looked

pub returns-in-NoMemory-clause-more : goal.returns-in-NoMemory-clause-more
returns-in-NoMemory-clause-more g c = (prefix_self c.args.pass.now.seat.me.0.seen, refl)
