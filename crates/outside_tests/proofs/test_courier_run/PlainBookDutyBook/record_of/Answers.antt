use Rattle.std.proofs.Common.{refl, inl, inr}
use Rattle.courier_run.specs.Steps.{limited_by, broken_before, broken_by}
use Rattle.outside_tests.specs.declared.test_courier_run.Did.TheVariants.{Recorded, Refused, Broke, Unkept}
use Rattle.outside_tests.proofs.LogLemmas.{mapped, mapped_twice}
use Rattle.outside_tests.proofs.test_courier_run.PlainBookDutyBook.record_of.Goals as goal

pub returns-then-self-eq114-clause-refused : goal.returns-then-self-eq114-clause-refused
returns-then-self-eq114-clause-refused g c = let held = c.args.held in
    (_, mapped _ c.args.self.now.log.items c.restore.new.self.log.items (Refused held) c.restore.ensures.log, limited_by (Refused held) (held, refl, inr (inl (refl, refl))))

pub returns-then-self-eq107-clause-refused : goal.returns-then-self-eq107-clause-refused
returns-then-self-eq107-clause-refused g c = let held = c.args.held in let outcome = c.args.outcome in (
  _,
  mapped_twice _ c.args.self.now.log.items c.note.new.self.log.items c.restore-then-self-eq107.new.self.log.items (Broke held outcome) (Unkept held)
      c.note.ensures.log c.restore-then-self-eq107.ensures.log,
  broken_by (Broke held outcome) (Unkept held) (held, refl, refl) (held, refl, inr (inr (refl, refl))),
)

pub returns-then-self-eq117-clause-refused : goal.returns-then-self-eq117-clause-refused
returns-then-self-eq117-clause-refused g c = let held = c.args.held in (
  _,
  mapped _ c.args.self.now.log.items c.restore-then-self-eq117.new.self.log.items (Unkept held) c.restore-then-self-eq117.ensures.log,
  broken_before (Unkept held) (held, refl, inr (inr (refl, refl))),
)

pub returns-clause-recorded : goal.returns-clause-recorded
returns-clause-recorded g c = let held = c.args.held in let recorded = c.recorded-outcome.result in let did = Recorded held recorded c.fate_of-fate.result in
    (did, mapped _ c.args.self.now.log.items c.note-2.new.self.log.items did c.note-2.ensures.log, (held, recorded, refl, refl, c.recorded-outcome.ensures))
