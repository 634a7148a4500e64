use Rattle.std.proofs.Common.{◌≡◌, ℕ, ◌≤◌, Bool, true, List, length, ap, sym, subst, ◌∙◌, arith}
use Rattle.std.specs.Prelude.{All}
use Rattle.std.specs.List.{list_all}
use Rattle.std.proofs.lemmas.Bool.{false≢true}
use Rattle.std.proofs.lemmas.Bool.Decides.{nat_tests}
use Rattle.json_text.specs.Limits.{most_text}
use Rattle.event_shape.specs.Names.{is_bus_name}
use Rattle.name_rows.specs.Rows.{AreSorted}
use Rattle.rule_table.specs.RuleSet.{has_archive}
use Rattle.delivery_duties.specs.declared.duty.NewDuty.{NewDuty}
use Rattle.router_core.specs.Admitted.{IsTextAdmitted}
use Rattle.duty_journal.specs.Redo.{are_in_order, is_short}
use Rattle.duty_journal.proofs.AdmitLemmas.{all_short, all_tested, ordered_sorted, short_all, sorted_ordered, tested_all}
use Rattle.duty_journal.proofs.admit.admit_event.Goals as goal

pub returns-then-not-are_short-clause-refused : goal.returns-then-not-are_short-clause-refused
returns-then-not-are_short-clause-refused c = λ same next.
    false≢true (sym c.if-not-are_short.true ∙ c.are_short.ensures ∙ ap (list_all is_short) c.deref.ensures.value ∙ all_short c.args.event.now.duties.items next.short)

pub returns-then-not-are_in_order-clause-refused : goal.returns-then-not-are_in_order-clause-refused
returns-then-not-are_in_order-clause-refused c = λ same next.
    false≢true (sym c.if-not-are_in_order.true ∙ c.are_in_order.ensures ∙ ap are_in_order c.deref-2.ensures.value
    ∙ sorted_ordered c.args.event.now.archives.items next.archive_order)

pub returns-then-not-have_archives-clause-refused : goal.returns-then-not-have_archives-clause-refused
returns-then-not-have_archives-clause-refused c = λ same next.
    let there : List ℕ → Bool = λ name. has_archive name c.args.set.now in
    false≢true (sym c.if-not-have_archives.true ∙ c.have_archives.ensures ∙ ap (list_all there) c.deref-3.ensures.value
    ∙ all_tested there c.args.event.now.archives.items next.archives)

pub of_event-requires : goal.of_event-requires
of_event-requires c =
    let is = subst IsTextAdmitted c.as_str-2.ensures (c.in-Ok.ensures.0 c.if-not-yes.false) in
    (is.event, is.text)

pub returns-in-Ok-of_event-clause-ok : goal.returns-in-Ok-of_event-clause-ok
returns-in-Ok-of_event-clause-ok c = (
  record {
    number_is = grind (arith, nat_tests, c.if-event-number.false);
    bus = sym (c.is_bus_name.ensures ∙ ap is_bus_name c.as_str.ensures) ∙ c.if-not-is_bus_name.false;
    version = grind (arith, nat_tests, c.if-event-control_count.false, c.control_count.ensures.count);
    time = grind (arith, nat_tests, c.if-event-gt-LAST_MOMENT.false);
    text = subst IsTextAdmitted c.as_str-2.ensures (c.in-Ok.ensures.0 c.if-not-yes.false);
    archive_order = subst (AreSorted (λ name. name)) c.deref-2.ensures.value
        (ordered_sorted c.deref-2.result.now (sym c.are_in_order.ensures ∙ c.if-not-are_in_order.false));
    archives = subst (All (λ name. has_archive name c.args.set.now ≡ true)) c.deref-3.ensures.value
        (tested_all (λ name. has_archive name c.args.set.now) c.deref-3.result.now (sym c.have_archives.ensures ∙ c.if-not-have_archives.false));
    few = grind (arith, nat_tests, c.if-len-gt-MOST_DUTIES.false, c.len.ensures);
    short = subst (All (λ (d : NewDuty). length d.text ≤ most_text)) c.deref.ensures.value
        (short_all c.deref.result.now (sym c.are_short.ensures ∙ c.if-not-are_short.false));
  },
  c.in-Ok-of_event.ensures,
)
