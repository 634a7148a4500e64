use Rattle.std.proofs.Common.{ℕ, List, ap, sym, ◌∙◌, subst}
use Rattle.std.proofs.Math.Logic.{∥∥₁_map}
use Rattle.rule_automaton.specs.declared.rule.Rule.{Rule}
use Rattle.rule_automaton.specs.AnchorView.{parts_of}
use Rattle.rule_automaton.specs.Table.{AreSame, Entered, IsTableOf, with_number, entered_by_all}
use Rattle.rule_automaton.proofs.RuleLemmas.{with_entered, with_seen}
use Rattle.rule_automaton.proofs.automaton.Automaton.with.Goals as goal

pub invariant_of-result : goal.invariant_of-result
invariant_of-result c =
    let rules = c.args.self.now.rules.items in
    let copies = c.in_ok-rules.rules.items in
    let rule = c.in_ok-rule.rule in
    let parts = parts_of c.deref-2.result.now in
    let same = subst (λ (l : List Rule). AreSame l copies) c.deref-3.ensures.value c.in_ok-rules.ensures in
    let e = with_entered rules copies c.push.new.self.items rule c.args.number parts same c.in_ok-push.ensures.items (ap (λ (x : ℕ × List ℕ). x.0) c.in_ok-rule.ensures)
    (ap parts_of (c.deref-2.ensures.value ∙ ap (λ v. v.items) c.deref.ensures)) in
    record {
      entered = ∥∥₁_map c.args.self.now.entered (λ is. subst (λ (l : List Entered). IsTableOf l c.in_ok-table.table) (sym e)
          (c.in_ok-table.ensures (entered_by_all rules) (with_number c.args.number parts) is c.in_ok-more.ensures));
    }

pub returns : goal.returns
returns c =
    let rules = c.args.self.now.rules.items in
    let copies = c.in_ok-rules.rules.items in
    let same = subst (λ (l : List Rule). AreSame l copies) c.deref-3.ensures.value c.in_ok-rules.ensures in
    let x : ℕ × List ℕ = (c.args.number, c.args.pattern.now) in
    let pair : List ℕ → ℕ × List ℕ = λ p. (c.args.number, p) in
    with_seen rules copies c.push.new.self.items c.in_ok-rule.rule x same c.in_ok-push.ensures.items (c.in_ok-rule.ensures ∙ ap pair c.in_ok-pattern.ensures)
