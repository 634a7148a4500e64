use Rattle.std.proofs.Common.{◌++◌, [], Err, ap, sym, subst, ◌∙◌}
use Rattle.router_requests.specs.View.{batch_of}
use Rattle.router_core.specs.Admitted.{IsAdmitted}
use Rattle.duty_journal.proofs.Readable.{own_bytes, read_batch}
use Rattle.duty_journal.proofs.RecoveryLemmas.{not_redone}
use Rattle.duty_journal.proofs.recover.redo_record.Goals as goal

pub returns-in-Ok-replay_batch : goal.returns-in-Ok-replay_batch
returns-in-Ok-replay_batch c =
    let b = batch_of c.in-Some.batch in
    let read = read_batch c.payload.result.now c.in-Ok.found c.in-Some.batch c.in-Ok.ensures c.in-Some.is in
    let ready = c.in-Ok-replay_batch.ensures.ready in
    record {
      batch = b;
      payload = sym c.payload.ensures ∙ read.1;
      readable = read.0;
      admitted = ready.1;
      tables = c.apply.ensures b ready.0;
      found = c.admit.ensures.found;
      place = c.admit.ensures.place;
      size = c.admit.ensures.size;
      first = c.admit.ensures.first;
      scan = c.admit.ensures.scan;
    }

pub returns-in-Err-NotAdmitted : goal.returns-in-Err-NotAdmitted
returns-in-Err-NotAdmitted c =
    let read = read_batch c.payload.result.now c.in-Ok.found c.in-Some.batch c.in-Ok.ensures c.in-Some.is in
    not_redone _ _ _ _ _ c.damage_at.ensures
    (λ b readable admitted is.
    let same = own_bytes b (batch_of c.in-Some.batch) [] [] readable read.0 (ap (λ m. m ++ []) (sym is ∙ sym c.payload.ensures ∙ read.1)) in
    c.in-Err-NotAdmitted.ensures.refused (ap Err c.in-Err-NotAdmitted.field-0-is) (subst (IsAdmitted c.args.tables.now) same.0 admitted))
