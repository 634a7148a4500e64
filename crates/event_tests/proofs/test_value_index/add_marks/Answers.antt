use Rattle.std.proofs.Common.{◌<◌, List, length, ap, ◌∙◌, subst}
use Rattle.std.specs.List.{All}
use Rattle.value_index.specs.Hits.{Entry}
use Rattle.value_index.specs.Index.{entered}
use Rattle.event_tests.proofs.test_value_index.add_marks.Goals as goal

pub hits-requires-clause-marks : goal.hits-requires-clause-marks
hits-requires-clause-marks c =
    subst (λ (l : List Entry). All (λ (e : Entry). e.1 < length c.args.marks.now) l) (ap entered c.deref.ensures.value ∙ c.in_ok-tests.ensures)
    (subst (λ n. All (λ (e : Entry). e.1 < n) (entered c.deref.result.now)) c.places.ensures (c.have_places.ensures c.if-have_places.true))
