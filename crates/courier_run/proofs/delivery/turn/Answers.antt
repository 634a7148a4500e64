use Rattle.std.proofs.Common.{rules, ◌≡◌, List, [], ◌++◌, refl, sym, ◌∙◌, subst, arith}
use Rattle.courier_run.specs.declared.turned.Turned.{Turned}
use Rattle.courier_run.specs.Act.{Act, book_acts_in}
use Rattle.courier_run.specs.Steps.{Stepping, none, one_more, spent, stopped}
use Rattle.courier_run.proofs.ActLemmas.{book_acts-append, Goes-none, Goes-append, parts_within}
use Rattle.courier_run.proofs.delivery.turn.Goals as goal

pub loop-turned-init : goal.loop-turned-init
loop-turned-init g c =
    let So : Turned → Type 0 = λ t. Stepping g.B.DutyBook.claims g.B.DutyBook.records g.B.DutyBook.puts_back g.B.DutyBook.breaks g.B.DutyBook.idle g.B.DutyBook.full g.B.DutyBook.broken [] t in
    (search rules, refl, c.requires.sound, c.requires.rests, ([], g.B.DutyBook.begins c.args.book.now, subst So (sym c.none-turned.ensures) none, Goes-none _))

pub count-requires-clause-parts : goal.count-requires-clause-parts
count-requires-clause-parts g c =
    let (within, lender, sound, rests, (acts, did, steps, goes)) = c.loop-turned.invariant in
    parts_within g.B.DutyBook.claims g.B.DutyBook.records g.B.DutyBook.puts_back g.B.DutyBook.breaks g.B.DutyBook.idle g.B.DutyBook.full g.B.DutyBook.broken acts c.loop-turned.turned steps

pub loop-turned-preserved : goal.loop-turned-preserved
loop-turned-preserved g c =
    let (within, lender, sound, rests, (acts, did, steps, goes)) = c.loop-turned.invariant in
    let (more, did_more, step, goes_more) = c.in-Recorded.ensures.made in
    let So : Turned → Type 0 = λ t. Stepping g.B.DutyBook.claims g.B.DutyBook.records g.B.DutyBook.puts_back g.B.DutyBook.breaks g.B.DutyBook.idle g.B.DutyBook.full g.B.DutyBook.broken (acts ++ more) t in
    let Did : List (Act g.B.DutyBook.Placed g.B.DutyBook.State) → Type 0 = λ own. g.B.DutyBook.did c.args.book.now c.attempt.new.book own in (
      search rules,
      c.in-Recorded.ensures.lender ∙ lender,
      c.in-Recorded.ensures.sound,
      c.in-Recorded.ensures.rests,
      (
        acts ++ more,
        subst Did (sym (book_acts-append acts more)) (g.B.DutyBook.joins _ _ _ (book_acts_in acts) (book_acts_in more) did did_more),
        subst So (sym c.count.ensures) (one_more acts more c.loop-turned.turned c.in-Recorded.fate steps step),
        Goes-append acts more _ _ _ goes goes_more,
      ),
    )

pub returns-clause-stepped : goal.returns-clause-stepped
returns-clause-stepped g c =
    let (within, lender, sound, rests, (acts, did, steps, goes)) = c.loop-turned.invariant in
    let late = c.loop-turned-test.false in
    (acts, did, spent acts c.loop-turned.turned steps (omega (arith, within, late)), goes)

pub returns-in-Stopped-clause-stepped : goal.returns-in-Stopped-clause-stepped
returns-in-Stopped-clause-stepped g c =
    let (within, lender, sound, rests, (acts, did, steps, goes)) = c.loop-turned.invariant in
    let (last, did_last, stop, goes_last) = c.in-Stopped.ensures.made in
    let Did : List (Act g.B.DutyBook.Placed g.B.DutyBook.State) → Type 0 = λ own. g.B.DutyBook.did c.args.book.now c.attempt.new.book own in (
      acts ++ last,
      subst Did (sym (book_acts-append acts last)) (g.B.DutyBook.joins _ _ _ (book_acts_in acts) (book_acts_in last) did did_last),
      stopped acts last c.loop-turned.turned c.in-Stopped.stop steps c.loop-turned-test.true stop,
      Goes-append acts last _ _ _ goes goes_last,
    )
