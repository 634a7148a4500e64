use Rattle.std.proofs.Common.{◌≡◌, ◌<◌, [], ◌∷◌, ◌++◌, length, get_or, ap, sym, ◌∙◌, subst, arith}
use Rattle.std.specs.Prelude.{Contains}
use Rattle.value_index.specs.Index.{entries_of}
use Rattle.std.proofs.lemmas.List.{get_or_default}
use Rattle.rule_automaton.proofs.TableLemmas.{kept_all, kept_push, kept_same}
use Rattle.rule_automaton.proofs.table.Table.paths_without.Goals as goal
use Rattle.rule_automaton.proofs.table.Table.paths_without.Goals.{then-branch+in_ok-path+in_ok-push, else-branch}

pub loop-place-preserved : goal.loop-place-preserved
loop-place-preserved c =
    let self = c.args.self.now in
    let n = c.loop-place.place in
    let number = c.args.number in
    let kept = c.loop-place.paths.items in
    let within : n < length self.paths = omega (arith, c.loop-place-test.true, c.len-place-end.ensures) in
    let inside : n < length self.indexes.items = omega (arith, within, self.same_length) in
    elim c.if-branch.branch [
      | then-branch+in_ok-path+in_ok-push w ↦
          let copy = w.in_ok-path.path in
          let grown : c.if-branch.paths.items ≡ kept ++ copy ∷ [] = ap (λ v. v.items) w.paths-is ∙ w.in_ok-push.ensures.items in
          let same : copy ≡ w.path.result.now = w.in_ok-path.ensures in
          let is : copy ≡ get_or self.paths n copy =
          same ∙ w.path.ensures ∙ get_or_default self.paths n w.path.result.now copy within in
          kept_push self number kept c.if-branch.paths.items n copy c.loop-place.invariant grown within is
      | else-branch w ↦
          kept_same self number kept c.if-branch.paths.items n c.index.result.now c.loop-place.invariant (ap (λ v. v.items) w.paths-is) inside c.index.ensures
          (λ e h. c.in_ok-has_others.ensures w.if-branch.false e (subst (λ i. Contains (entries_of i) e) (sym c.deref.ensures) h))
    ]

pub returns : goal.returns
returns c = λ all path e is h. (c.of.ensures.same path).1
    (kept_all all c.args.self.now c.args.number c.loop-place.paths.items c.loop-place.place is (omega (arith, c.loop-place-test.false, c.len-place-end.ensures))
    c.loop-place.invariant path e h)
