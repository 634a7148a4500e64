use Rattle.turn_book.specs.Passes.{IsFree, IsSamePass}
use Rattle.outside_tests.proofs.test_turn_book.enter_often.Given as goal

abbrev pub invariant-loop : goal.invariant-loop
invariant-loop g l = IsSamePass l.initial.pass.seat l.pass.seat × IsFree l.pass.seat
