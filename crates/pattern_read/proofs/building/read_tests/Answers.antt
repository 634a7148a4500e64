use Rattle.std.proofs.Common.{rules, ◌≡◌, [], map}
use Rattle.std.proofs.lemmas.Result.{err_from_is_err_and}
use Rattle.pattern_meaning.specs.PatternView.{test_of}
use Rattle.pattern_meaning.proofs.PatternLemmas.{field_tests}
use Rattle.pattern_read.proofs.BuildLemmas.{tests_read, tests_refused}
use Rattle.pattern_read.proofs.building.read_tests.Goals as goal

pub returns-in_err-tests : goal.returns-in_err-tests
returns-in_err-tests c =
    let some : c.args.items.items ≡ [] → ⊥ = search rules in
    let p = err_from_is_err_and c.from_residual.result c.from_residual.ensures.1 in
    rw (p.1, p.2) (tests_refused c.args.items.items c.in_err-tests.field-0.0 some c.in_err-tests.ensures)

pub returns : goal.returns
returns c =
    let some : c.args.items.items ≡ [] → ⊥ = search rules in
    rw (field_tests c.in_ok-tests.tests) (tests_read c.args.items.items (map test_of c.in_ok-tests.tests.items) some c.in_ok-tests.ensures)
