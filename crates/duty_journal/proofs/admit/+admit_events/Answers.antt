use Rattle.std.proofs.Common.{◌≡◌, ℕ, ◌+◌, ◌-◌, ◌≤◌, ◌^◌, ◌++◌, cond, List, [], ◌∷◌, length, map, min, take, drop, ap, sym, subst, ◌∙◌, arith}
use Rattle.std.specs.Prelude.{OnOk}
use Rattle.rule_table.specs.RuleSet.{RuleSet}
use Rattle.router_requests.specs.Batch.{Entry}
use Rattle.router_core.specs.Ready.{ArePartsOf}
use Rattle.router_requests.specs.View.{accepted_of, entry_of}
use Rattle.router_core.specs.declared.ready.Part.{Part}
use Rattle.duty_journal.specs.Redo.{AreNextEvents}
use Rattle.duty_journal.proofs.RedoLemmas.{first_entry, no_error, step_ok}
use Rattle.duty_journal.proofs.admit.+admit_events.Goals as goal

-- the number after one that is not the last
follows : (n m : ℕ) → m ≡ min (n + 1) (2 ^ 64 - 1) → n + 1 ≤ 2 ^ 64 - 1 → m ≡ n + 1
follows n m is low = omega (arith, is, low)

pub returns-else-number-eq-LAST_NUMBER-clause-ok : goal.returns-else-number-eq-LAST_NUMBER-clause-ok
returns-else-number-eq-LAST_NUMBER-clause-ok n c =
    let entries = c.args.entries.now in
    let rest : List Entry = map entry_of (take (length entries - 1) (drop 1 entries)) in
    let is = first_entry entries c.first-item.result _ c.in-len1-up.len_at_least c.first-item.is ∙ ap (λ (e : Entry). e ∷ rest) c.in-Some.ensures in
    let ok = c.in_ok-part-in-Some.ensures.ok in
    let grown = c.push_back.ensures.items
    ∙ ap (λ b. cond b (c.args.parts.now.items ++ c.in_ok-part-in-Some.part ∷ []) c.args.parts.now.items)
    (no_error c.push_back.result (sym c.is_err.ensures.value ∙ c.if-is_err.false)) in
    let low : c.args.number + 1 ≤ 2 ^ 64 - 1 = grind (arith, c.if-number-eq-LAST_NUMBER.false, c.ranges.number.fits) in
    let next = follows c.args.number c.saturating_add.result c.saturating_add.ensures low in
    step_ok c.admit_events.result c.args.moment c.args.number c.args.set.now (map entry_of entries) rest (accepted_of c.in-Some.event.now) c.args.parts.now.items
    c.push_back.new.self.items c.admit_events.new.parts.items c.in_ok-part-in-Some.part is ok.0 ok.1 grown
    (subst (λ m. OnOk c.admit_events.result (AreNextEvents m c.args.set.now rest
    × ((x : List Part) × (c.admit_events.new.parts.items ≡ c.push_back.new.self.items ++ x) × ((set : RuleSet) → ArePartsOf c.args.moment set rest x))))
    next c.admit_events.ensures.ok)

pub returns-else-number-eq-LAST_NUMBER-clause-refused : goal.returns-else-number-eq-LAST_NUMBER-clause-refused
returns-else-number-eq-LAST_NUMBER-clause-refused n c = λ refused all.
    let entries = c.args.entries.now in
    let rest : List Entry = map entry_of (take (length entries - 1) (drop 1 entries)) in
    let is = first_entry entries c.first-item.result _ c.in-len1-up.len_at_least c.first-item.is ∙ ap (λ (e : Entry). e ∷ rest) c.in-Some.ensures in
    let low : c.args.number + 1 ≤ 2 ^ 64 - 1 = grind (arith, c.if-number-eq-LAST_NUMBER.false, c.ranges.number.fits) in
    let next = follows c.args.number c.saturating_add.result c.saturating_add.ensures low in
    let both = subst (AreNextEvents c.args.number c.args.set.now) is all in
    c.admit_events.ensures.refused refused (subst (λ m. AreNextEvents m c.args.set.now rest) (sym next) both.1)
