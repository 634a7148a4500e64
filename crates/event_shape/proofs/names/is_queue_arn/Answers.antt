use Rattle.std.proofs.Common.{sym}
use Rattle.std.proofs.lemmas.Bool.{false_from_ne_true}
use Rattle.std.proofs.lemmas.Slice.Eq.{bytes_eq-Decides}
use Rattle.event_shape.specs.Names.{queue_arn}
use Rattle.event_shape.proofs.names.is_queue_arn.Goals as goal

pub returns-in-None : goal.returns-in-None
returns-in-None c =
    let h = bytes_eq-Decides c.args.arn.now (queue_arn c.args.queue.now) in
    let n = c.in-None.ensures c.args.queue.now in
    sym (false_from_ne_true _ (λ e. n (h.0 e)))
