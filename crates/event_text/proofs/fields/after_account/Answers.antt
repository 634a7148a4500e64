use Rattle.std.proofs.Common.{sym, ap, ◌∙◌}
use Rattle.event_shape.specs.Names.{is_account}
use Rattle.event_text.proofs.fields.after_account.Goals as goal

pub returns-then-is_account : goal.returns-then-is_account
returns-then-is_account c = (
  c.in_ok-account.account.now,
  ap is_account (sym c.in-Ok.ensures.cases.0) ∙ sym c.is_account.ensures ∙ c.if-is_account.true,
  c.in_ok-account.ensures.text,
)
