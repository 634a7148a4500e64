use Rattle.std.proofs.Common.{◌≡◌, ℕ, List, [], ◌∷◌, ◌++◌, sym, subst}
use Rattle.std.proofs.lemmas.Bool.{MatchBool-at_true, MatchBool-at_false}
use Rattle.step_run.specs.Act.{Act, ticks, looks, makes}
use Rattle.step_run.proofs.ActLemmas.{refused_by_book}
use Rattle.step_run.specs.Step.{IsRefusal, stepped, idle_at, refused_at}
use Rattle.step_run.proofs.run.next_step.Goals as goal

pub returns-then-made-clause-made : goal.returns-then-made-clause-made
returns-then-made-clause-made g c =
    let (reading, cut, gave) = c.read_clock-moment.ensures.reading in
    let (p, did, is) = MatchBool-at_true _ _ c.if-made.true c.in-Ok.ensures.stepped in
    let At : ℕ → Type 0 = λ m. g.B.StepBook.steps p m in
    (ticks reading ∷ makes p ∷ [], did, (p, stepped reading p (subst At cut is)), gave)

pub returns-else-made-clause-made : goal.returns-else-made-clause-made
returns-else-made-clause-made g c =
    let (reading, cut, gave) = c.read_clock-moment.ensures.reading in
    let (s, did, is) = MatchBool-at_false _ _ c.if-made.false c.in-Ok.ensures.stepped in
    let At : ℕ → Type 0 = λ m. g.B.StepBook.idle s m in
    (ticks reading ∷ looks s ∷ [], did, idle_at reading s (subst At cut is), gave)

pub returns-in-Err-clause-made : goal.returns-in-Err-clause-made
returns-in-Err-clause-made g c =
    let (reading, cut, gave) = c.read_clock-moment.ensures.reading in
    let (acts, did, refusal) = c.in-Err.ensures.refused in
    let At : ℕ → Type 0 =
    λ m. IsRefusal (λ p. g.B.StepBook.breaks p m) (λ s. g.B.StepBook.full s m) (λ s. g.B.StepBook.broken s m) acts c.in-Err.fault in
    let m = c.read_clock-moment.result in
    let (own, none) = refused_by_book (λ p. g.B.StepBook.breaks p m) (λ s. g.B.StepBook.full s m) (λ s. g.B.StepBook.broken s m) acts c.in-Err.fault refusal in
    let Did : List (Act g.B.StepBook.Placed g.B.StepBook.State g.B.StepBook.Other) → Type 0 = λ made. g.B.StepBook.did c.args.book.now c.step.new.self made in
    let Gave : List ℕ → Type 0 = λ more. g.C.Clock.gave c.read_clock-moment.new.clock ≡ g.C.Clock.gave c.args.clock.now ++ (reading ∷ more) in
    (ticks reading ∷ acts, subst Did (sym own) did, refused_at reading acts c.in-Err.fault (subst At cut refusal), subst Gave (sym none) gave)
