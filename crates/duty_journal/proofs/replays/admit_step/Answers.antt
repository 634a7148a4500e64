use Rattle.std.proofs.Common.{◌≤◌, length, ap, sym, subst, ◌∙◌, arith}
use Rattle.std.specs.Prelude.{All}
use Rattle.std.specs.List.{list_all}
use Rattle.std.proofs.lemmas.Bool.{false≢true}
use Rattle.std.proofs.lemmas.Bool.Decides.{nat_tests}
use Rattle.json_text.specs.Limits.{most_text}
use Rattle.delivery_duties.specs.declared.duty.NewDuty.{NewDuty}
use Rattle.router_requests.specs.View.{stepped_of}
use Rattle.duty_journal.specs.Redo.{is_short}
use Rattle.duty_journal.proofs.AdmitLemmas.{all_short, short_all}
use Rattle.duty_journal.proofs.ReplayLemmas.{step_from}
use Rattle.duty_journal.proofs.replays.admit_step.Goals as goal

pub returns-then-not-are_short-clause-refused : goal.returns-then-not-are_short-clause-refused
returns-then-not-are_short-clause-refused c = λ same admitted.
    false≢true (sym c.if-not-are_short.true ∙ c.are_short.ensures ∙ ap (list_all is_short) c.deref.ensures.value
    ∙ all_short c.args.step.now.duties.items admitted.short)

pub returns-in-Ok-clause-ok : goal.returns-in-Ok-clause-ok
returns-in-Ok-clause-ok c = (
  step_from c.args.tables.now (stepped_of c.args.step.now) (c.is_next.ensures.0 c.if-not-is_next.false)
      (grind (arith, nat_tests, c.if-len-gt-MOST_DUTIES.false, c.len.ensures))
      (subst (All (λ (d : NewDuty). length d.text ≤ most_text)) c.deref.ensures.value
      (short_all c.deref.result.now (sym c.are_short.ensures ∙ c.if-not-are_short.false))),
  λ moment. c.in-Ok.ensures moment c.args.tables.now.set,
)
