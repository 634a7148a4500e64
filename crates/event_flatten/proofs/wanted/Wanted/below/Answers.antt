use Rattle.std.proofs.Common.{◌≡◌, ◌+◌, ◌-◌, true, false, length, take, drop, get_or, sym, ap, ◌∙◌, subst, arith, length-take, length-drop}
use Rattle.std.specs.Prelude.{All}
use Rattle.std.specs.List.{enumerate_from}
use Rattle.std.proofs.lemmas.List.{take_rest}
use Rattle.event_flatten.specs.Walk.{AscendsFrom, begins, rests}
use Rattle.event_flatten.proofs.PathLemmas.{ascends-drop, ascends_below, below_is, below_nothing}
use Rattle.event_flatten.proofs.wanted.Wanted.below.Goals.{in_default-via-in-Some+else-has, in_default-via-in_default}
use Rattle.event_flatten.proofs.wanted.Wanted.below.Goals as goal

pub returns-in_default : goal.returns-in_default
returns-in_default c =
    let key = c.args.key.now in
    let depth = c.args.self.depth in
    let paths = c.args.self.paths.now in
    let from = c.count_before-from.result in
    let same : take (length paths - from) (drop from paths) ≡ drop from paths = take_rest paths from in
    below_nothing key depth c.args.self.first from paths c.count_before-from.ensures.bound c.args.self.ascending
    c.count_before-from.ensures.before c.count_before-from.ensures.rest
    (elim c.in_default.branch [
      | in_default-via-in-Some+else-has w ↦ λ d some.
          sym (subst (λ x. false ≡ begins key (drop depth x)) (w.in-Some.ensures.item.4 (omega arith) d ∙ ap (λ r. get_or r 0 d) same) w.if-has.ensures.begins)
      | in_default-via-in_default w ↦ λ d some. absurd (omega (arith, w.in_default.ensures.item.3, ap length same))
    ])

pub invariant_of-result : goal.invariant_of-result
invariant_of-result c =
    let paths = c.args.self.paths.now in
    let from = c.count_before-from.result in
    let depth = c.args.self.depth in
    let count = c.count_same-count.result in
    let rest = take (length paths - from) (drop from paths) in
    let same : rest ≡ drop from paths = take_rest paths from in
    record {
      ascending = ascends_below c.args.key.now depth count rest
          (subst (AscendsFrom depth) (sym same) (ascends-drop depth from paths c.args.self.ascending)) c.count_same-count.ensures.same;
      in_range = omega (arith, c.args.self.in_range, c.count_before-from.ensures.bound, length-take count rest, ap length same, length-drop from paths);
    }

pub returns-in-Some : goal.returns-in-Some
returns-in-Some c =
    let key = c.args.key.now in
    let depth = c.args.self.depth in
    let paths = c.args.self.paths.now in
    let from = c.count_before-from.result in
    let count = c.count_same-count.result in
    let first = c.args.self.first in
    let same : take (length paths - from) (drop from paths) ≡ drop from paths = take_rest paths from in
    ap (λ r. enumerate_from (first + from) (rests (depth + 1) (take count r))) same
    ∙ sym (below_is key depth first from count paths c.count_before-from.ensures.bound c.count_before-from.ensures.before
    (subst (λ r. All (λ path. begins key (drop depth path) ≡ true) (take count r)) same c.count_same-count.ensures.same)
    (subst (λ r. All (λ path. begins key (drop depth path) ≡ false) (drop count r)) same c.count_same-count.ensures.rest))
