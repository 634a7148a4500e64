use Rattle.std.proofs.Common.{refl, inl}
use Rattle.outside_tests.specs.declared.test_courier_run.Did.TheVariants.{PutBack}
use Rattle.outside_tests.proofs.LogLemmas.{mapped}
use Rattle.outside_tests.proofs.test_courier_run.PlainBookDutyBook.put_back.Goals as goal

pub returns-clause-put_back : goal.returns-clause-put_back
returns-clause-put_back g c = let held = c.args.held in
    (PutBack held, mapped _ c.args.self.now.log.items c.restore.new.self.log.items (PutBack held) c.restore.ensures.log, (held, refl, inl (refl, refl)))
