use Rattle.std.proofs.Common.{rules, ◌≡◌, ◌+◌, ◌<◌, ℕ, List, [], ◌∷◌, ◌++◌, length, Ok, Err, Some, None, refl, sym, ◌∙◌, ap, subst, append-nil, arith}
use Rattle.std.proofs.lemmas.List.{length_push}
use Rattle.step_run.specs.declared.fault.StepsFault.{StepsFault}
use Rattle.step_run.specs.Act.{Act, book_acts_in}
use Rattle.step_run.specs.Steps.{none, one_more, spent, stopped}
use Rattle.step_run.specs.Step.{none_left, refused}
use Rattle.step_run.proofs.ActLemmas.{book_acts-append, gave-append}
use Rattle.step_run.proofs.run.run_steps.Goals as goal

pub loop-made-init : goal.loop-made-init
loop-made-init g c =
    (search rules, refl, c.requires.sound, ([], [], g.B.StepBook.begins c.args.book.now, none, refl, sym (append-nil (g.C.Clock.gave c.args.clock.now))))

pub loop-made-preserved : goal.loop-made-preserved
loop-made-preserved g c =
    let (within, lender, sound, (acts, turns, did, steps, count, gave)) = c.loop-made.invariant in
    let (more, did_more, (p, step), gave_more) = c.in-Made.ensures.made in
    let Did : List (Act g.B.StepBook.Placed g.B.StepBook.State g.B.StepBook.Other) → Type 0 = λ own. g.B.StepBook.did c.args.book.now c.next_step.new.book own in (
      search rules,
      c.in-Made.ensures.lender ∙ lender,
      c.in-Made.ensures.sound,
      (
        acts ++ more,
        turns ++ p ∷ [],
        subst Did (sym (book_acts-append acts more)) (g.B.StepBook.joins _ _ _ (book_acts_in acts) (book_acts_in more) did did_more),
        one_more acts more turns p steps step,
        length_push turns p ∙ ap (λ n. n + 1) count,
        gave-append _ _ _ acts more gave gave_more,
      ),
    )

pub returns-clause-stepped : goal.returns-clause-stepped
returns-clause-stepped g c =
    let (within, lender, sound, (acts, turns, did, steps, count, gave)) = c.loop-made.invariant in
    let late = c.loop-made-test.false in
    let all : length turns ≡ c.args.budget = omega (arith, within, late, count) in
    (acts, did, record { turns = turns; stop = None; steps_made = spent acts turns steps all; is = ap Ok (sym count) }, gave)

pub returns-in-Idle-clause-stepped : goal.returns-in-Idle-clause-stepped
returns-in-Idle-clause-stepped g c =
    let (within, lender, sound, (acts, turns, did, steps, count, gave)) = c.loop-made.invariant in
    let (last, did_last, idle, gave_last) = c.in-Idle.ensures.made in
    let fewer : length turns < c.args.budget = omega (arith, c.loop-made-test.true, count) in
    let Did : List (Act g.B.StepBook.Placed g.B.StepBook.State g.B.StepBook.Other) → Type 0 = λ own. g.B.StepBook.did c.args.book.now c.next_step.new.book own in (
      acts ++ last,
      subst Did (sym (book_acts-append acts last)) (g.B.StepBook.joins _ _ _ (book_acts_in acts) (book_acts_in last) did did_last),
      record { turns = turns; stop = Some none_left; steps_made = stopped acts last turns none_left steps fewer idle; is = ap Ok (sym count) },
      gave-append _ _ _ acts last gave gave_last,
    )

pub returns-in-Stopped-clause-stepped : goal.returns-in-Stopped-clause-stepped
returns-in-Stopped-clause-stepped g c =
    let (within, lender, sound, (acts, turns, did, steps, count, gave)) = c.loop-made.invariant in
    let (last, did_last, stop, gave_last) = c.in-Stopped.ensures.made in
    let fault = c.in-Stopped.fault in
    let fewer : length turns < c.args.budget = omega (arith, c.loop-made-test.true, count) in
    let fail : ℕ → StepsFault = λ n. record { made = n; fault = fault } in
    let Did : List (Act g.B.StepBook.Placed g.B.StepBook.State g.B.StepBook.Other) → Type 0 = λ own. g.B.StepBook.did c.args.book.now c.next_step.new.book own in (
      acts ++ last,
      subst Did (sym (book_acts-append acts last)) (g.B.StepBook.joins _ _ _ (book_acts_in acts) (book_acts_in last) did did_last),
      record {
        turns = turns;
        stop = Some (refused fault);
        steps_made = stopped acts last turns (refused fault) steps fewer stop;
        is = ap (λ n. Err (fail n)) (sym count);
      },
      gave-append _ _ _ acts last gave gave_last,
    )
