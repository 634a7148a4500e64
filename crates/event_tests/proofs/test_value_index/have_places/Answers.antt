use Rattle.std.proofs.Common.{◌<◌, ℕ, rules, length, get_or}
use Rattle.std.specs.Arc.{arc_value}
use Rattle.std.proofs.lemmas.List.Elements.{All-map}
use Rattle.pattern_meaning.specs.PatternView.{test_of}
use Rattle.value_index.specs.Hits.{Entry}
use Rattle.event_tests.proofs.test_value_index.have_places.Goals as goal

pub returns : goal.returns
returns c = λ yes. let each : (k : ℕ) (d : _) → k < length c.args.tests.now → (get_or c.args.tests.now k d).1 < c.args.places = search rules in
    All-map (λ (e : Entry). e.1 < c.args.places) (λ e. (test_of (arc_value e.0), e.1)) c.args.tests.now each
