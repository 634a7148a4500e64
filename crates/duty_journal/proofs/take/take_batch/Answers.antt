use Rattle.std.proofs.Common.{sym, ap, ◌∙◌, length, eqb, arith}
use Rattle.std.proofs.lemmas.Bool.{eqb-true}
use Rattle.std.proofs.lemmas.Bool.Decides.{not_from_Decides, Decides-eqb}
use Rattle.std.proofs.lemmas.List.{nil_from_length}
use Rattle.router_requests.specs.View.{batch_of}
use Rattle.entry_bytes.specs.Reading.{HasNone}
use Rattle.duty_journal.specs.Reading.{batch_at}
use Rattle.duty_journal.proofs.Finding.{HasValid, blamed}
use Rattle.duty_journal.proofs.Readable.{is_read, is_none, has_rest}
use Rattle.duty_journal.proofs.take.take_batch.Goals as goal

pub returns-then-is_empty : goal.returns-then-is_empty
returns-then-is_empty c = is_read c.args.bytes.now (batch_of c.in-Ok.batch) c.in-Ok.rest.now (λ i. omega (arith, c.type_inv.bytes i))
    c.in-Ok.ensures.0 c.in-Ok.ensures.1 (nil_from_length c.in-Ok.rest.now (eqb-true _ _ (sym c.is_empty.ensures ∙ c.if-is_empty.true)))

pub returns-else-is_empty : goal.returns-else-is_empty
returns-else-is_empty c = has_rest c.args.bytes.now (batch_of c.in-Ok.batch) c.in-Ok.rest.now c.in-Ok.ensures.0
    (λ e. not_from_Decides (eqb (length c.in-Ok.rest.now) 0) (Decides-eqb (length c.in-Ok.rest.now) 0) (sym c.is_empty.ensures ∙ c.if-is_empty.false) (ap length e))

pub returns-in-Err-NotSpelled : goal.returns-in-Err-NotSpelled
returns-in-Err-NotSpelled c = is_none c.args.bytes.now
    (blamed (HasNone HasValid (batch_at c.args.bytes.now)) c.in-Err-NotSpelled.field-0 c.in-Err-NotSpelled.field-0-is c.in-Err-NotSpelled.ensures)
