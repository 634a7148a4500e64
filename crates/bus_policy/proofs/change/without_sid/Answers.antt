use Rattle.std.proofs.Common.{◌≡◌, ◌+◌, drop, sym, ap, ◌∙◌, subst}
use Rattle.std.proofs.lemmas.List.{at_drop_all}
use Rattle.json_text.specs.View.{trees_of}
use Rattle.bus_policy.proofs.ItemLemmas.{items_before, before_none, left_of, left_out, copied}
use Rattle.bus_policy.proofs.change.without_sid.Goals as goal
use Rattle.bus_policy.proofs.change.without_sid.Goals.{then-not-has_sid+in_ok-copy+in_ok-push, else-not-has_sid}

pub loop-statement-preserved : goal.loop-statement-preserved
loop-statement-preserved c =
    let sid = c.args.sid.now in
    let xs = c.args.statements.now in
    let i = c.loop-statement.statement-index in
    let x = c.statement-item.result in
    let all = left_of sid xs in
    let done = c.loop-statement.copies.items in
    elim c.if-not-has_sid.branch [
      | then-not-has_sid+in_ok-copy+in_ok-push w ↦
          subst (λ v. items_before (trees_of v.items) (left_of sid (drop (i + 1) xs)) ≡ all) (sym w.copies-is)
          (copied sid done w.push.new.self.items xs i x w.in_ok-copy.field-0 all c.loop-statement-test.true
          c.statement-item.is (sym c.has_sid.ensures ∙ w.if-not-has_sid.true)
          w.in_ok-push.ensures.items w.in_ok-copy.ensures c.loop-statement.invariant)
      | else-not-has_sid w ↦
          subst (λ v. items_before (trees_of v.items) (left_of sid (drop (i + 1) xs)) ≡ all) (sym w.copies-is)
          (left_out sid (trees_of done) xs i x all c.loop-statement-test.true c.statement-item.is
          (sym c.has_sid.ensures ∙ w.if-not-has_sid.false) c.loop-statement.invariant)
    ]

pub returns : goal.returns
returns c =
    sym (before_none (trees_of c.loop-statement.copies.items))
    ∙ ap (items_before (trees_of c.loop-statement.copies.items))
    (sym (at_drop_all (left_of c.args.sid.now) c.args.statements.now c.loop-statement.statement-index
    c.loop-statement-test.false))
    ∙ c.loop-statement.invariant
