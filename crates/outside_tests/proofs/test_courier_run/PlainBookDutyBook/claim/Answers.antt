use Rattle.std.proofs.Common.{◌≡◌, refl, ◌∙◌, rules}
use Rattle.outside_tests.specs.declared.test_courier_run.PlainDuty.{PlainDuty}
use Rattle.outside_tests.specs.declared.test_courier_run.Did.TheVariants.{Looked, Claimed}
use Rattle.outside_tests.proofs.LogLemmas.{mapped}
use Rattle.outside_tests.proofs.test_courier_run.PlainBookDutyBook.claim.Goals as goal

pub returns-then-is_empty-clause-claimed : goal.returns-then-is_empty-clause-claimed
returns-then-is_empty-clause-claimed g c = let s = c.args.self.now in let none : s.duties.len ≡ 0 = search rules in (
  c.look.ensures.claimed ∙ c.requires.rests,
  ((s.duties.len, s.special), mapped _ s.log.items c.look.new.self.log.items (Looked s.duties.len s.special) c.look.ensures.log, none),
)

pub returns-then-self-eq102-clause-refused : goal.returns-then-self-eq102-clause-refused
returns-then-self-eq102-clause-refused g c = let s = c.args.self.now in let look = c.look-then-self-eq102 in
    let some : s.duties.len ≡ 0 → ⊥ = search rules in let full : s.special ≡ 102 = search rules in (
      look.ensures.claimed ∙ c.requires.rests,
      ((s.duties.len, s.special), mapped _ s.log.items look.new.self.log.items (Looked s.duties.len s.special) look.ensures.log, (some, full)),
    )

pub returns-then-self-eq98-clause-refused : goal.returns-then-self-eq98-clause-refused
returns-then-self-eq98-clause-refused g c = let s = c.args.self.now in let look = c.look-then-self-eq98 in
    let some : s.duties.len ≡ 0 → ⊥ = search rules in let broken : s.special ≡ 98 = search rules in (
      look.ensures.claimed ∙ c.requires.rests,
      ((s.duties.len, s.special), mapped _ s.log.items look.new.self.log.items (Looked s.duties.len s.special) look.ensures.log, (some, broken)),
    )

pub returns-clause-claimed : goal.returns-clause-claimed
returns-clause-claimed g c = let duty : PlainDuty = record c.remove-duty.result { moment = c.args.moment } in (
  (duty, c.note.ensures.claimed, refl),
  (Claimed duty, mapped _ c.args.self.now.log.items c.note.new.self.log.items (Claimed duty) c.note.ensures.log, (duty, refl, refl, refl)),
)
