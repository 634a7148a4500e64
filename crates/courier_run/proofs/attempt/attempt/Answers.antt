use Rattle.std.proofs.Common.{◌≡◌, ℕ, List, [], ◌∷◌, sym, subst}
use Rattle.std.proofs.lemmas.Option.{MatchOption-at_some, MatchOption-at_none}
use Rattle.courier_run.specs.declared.stepped.Stop.{Stop}
use Rattle.courier_run.specs.Book.{HasCause}
use Rattle.courier_run.specs.Act.{Act, ticks, looks, makes, tries}
use Rattle.courier_run.specs.Steps.{attempted, idle_at, unsent_at, unrecorded, IsStop, IsUnrecorded}
use Rattle.courier_run.proofs.ActLemmas.{tried_goes, unsent_goes, looked_goes, refused_at, unrecorded_acts, unrecorded_goes}
use Rattle.courier_run.proofs.attempt.attempt.Goals as goal

pub returns-in-Ok-record_of-clause-made : goal.returns-in-Ok-record_of-clause-made
returns-in-Ok-record_of-clause-made g c =
    let (reading, cut, gave) = c.read_clock-moment.ensures.reading in
    let (held, (p, one, is)) = MatchOption-at_some _ _ c.in-Ok-Some.held c.in-Ok-Some.field-0-is c.in-Ok-Some.ensures.claimed in
    let (q, two, recorded) = c.in-Ok-record_of.ensures.recorded in
    let (answers, answered, tried) = c.in-Ok.ensures.tried in
    let claim = g.B.Held.HeldDuty.shows c.in-Ok-Some.held in
    let At : ℕ → Type 0 = λ m. g.B.DutyBook.claims p claim m in (
      ticks reading ∷ makes p ∷ tries claim c.in-Ok.outcome ∷ makes q ∷ [],
      g.B.DutyBook.joins c.args.book.now c.claim.new.self c.record_of.new.self (makes p ∷ []) (makes q ∷ []) one two,
      attempted reading p q claim c.in-Ok.outcome c.in-Ok-record_of.fate (subst At cut is) c.in-Ok.ensures.fits recorded,
      tried_goes _ _ _ _ _ _ reading p q claim c.in-Ok.outcome answers gave answered tried,
    )

pub returns-in-Err-record_of-clause-made : goal.returns-in-Err-record_of-clause-made
returns-in-Err-record_of-clause-made g c =
    let (reading, cut, gave) = c.read_clock-moment.ensures.reading in
    let (held, (p, one, is)) = MatchOption-at_some _ _ c.in-Ok-Some.held c.in-Ok-Some.field-0-is c.in-Ok-Some.ensures.claimed in
    let (ends, two, ended) = c.in-Err-record_of.ensures.refused in
    let (answers, answered, tried) = c.in-Ok.ensures.tried in
    let claim = g.B.Held.HeldDuty.shows c.in-Ok-Some.held in
    let At : ℕ → Type 0 = λ m. g.B.DutyBook.claims p claim m in
    let Did : List (Act g.B.DutyBook.Placed g.B.DutyBook.State) → Type 0 = λ own. g.B.DutyBook.did c.args.book.now c.record_of.new.self (makes p ∷ own) in
    let Said : Stop → Type 0 = λ stop. IsUnrecorded g.B.DutyBook.claims g.B.DutyBook.records g.B.DutyBook.puts_back g.B.DutyBook.breaks g.B.DutyBook.idle
    g.B.DutyBook.full g.B.DutyBook.broken claim c.in-Ok.outcome ends stop in
    let said : Said c.stop_of.result = subst Said (sym c.stop_of.ensures) ended in (
      ticks reading ∷ makes p ∷ tries claim c.in-Ok.outcome ∷ ends,
      subst Did (sym (unrecorded_acts g.B.DutyBook.claims g.B.DutyBook.records g.B.DutyBook.puts_back g.B.DutyBook.breaks g.B.DutyBook.idle g.B.DutyBook.full
          g.B.DutyBook.broken claim c.in-Ok.outcome ends c.stop_of.result said))
          (g.B.DutyBook.joins c.args.book.now c.claim.new.self c.record_of.new.self (makes p ∷ []) ends one two),
      unrecorded reading p claim c.in-Ok.outcome ends c.stop_of.result (subst At cut is) c.in-Ok.ensures.fits said,
      unrecorded_goes g.B.DutyBook.claims g.B.DutyBook.records g.B.DutyBook.puts_back g.B.DutyBook.breaks g.B.DutyBook.idle g.B.DutyBook.full
          g.B.DutyBook.broken _ _ _ _ _ _ reading p claim c.in-Ok.outcome answers ends c.stop_of.result said gave answered tried,
    )

pub returns-in-Err-outcome_of-clause-made : goal.returns-in-Err-outcome_of-clause-made
returns-in-Err-outcome_of-clause-made g c =
    let (reading, cut, gave) = c.read_clock-moment.ensures.reading in
    let (held, (p, one, is)) = MatchOption-at_some _ _ c.in-Ok-Some.held c.in-Ok-Some.field-0-is c.in-Ok-Some.ensures.claimed in
    let (q, two, back) = c.put_back.ensures.put_back in
    let (needs, answered, same) = c.in-Err-outcome_of.ensures.tried in
    let claim = g.B.Held.HeldDuty.shows c.in-Ok-Some.held in
    let At : ℕ → Type 0 = λ m. g.B.DutyBook.claims p claim m in (
      ticks reading ∷ makes p ∷ makes q ∷ [],
      g.B.DutyBook.joins c.args.book.now c.claim.new.self c.put_back.new.self (makes p ∷ []) (makes q ∷ []) one two,
      unsent_at reading p q claim (subst At cut is) needs back,
      unsent_goes _ _ _ _ _ _ reading p q gave answered same,
    )

pub returns-in-Ok-None-clause-made : goal.returns-in-Ok-None-clause-made
returns-in-Ok-None-clause-made g c =
    let (reading, cut, gave) = c.read_clock-moment.ensures.reading in
    let (rest, (s, looked, idle)) = MatchOption-at_none _ _ c.in-Ok-None.field-0-is c.in-Ok-None.ensures.claimed in
    let At : ℕ → Type 0 = λ m. g.B.DutyBook.idle s m in
    (ticks reading ∷ looks s ∷ [], looked, idle_at reading s (subst At cut idle), looked_goes _ _ _ _ reading s gave)

pub returns-in-Err-clause-made : goal.returns-in-Err-clause-made
returns-in-Err-clause-made g c =
    let (reading, cut, gave) = c.read_clock-moment.ensures.reading in
    let (rest, (s, looked, cause)) = c.in-Err.ensures.refused in
    let At : ℕ → Type 0 = λ m. HasCause (g.B.DutyBook.full s m) (g.B.DutyBook.broken s m) c.in-Err.fault in
    let Said : Stop → Type 0 = λ stop. IsStop g.B.DutyBook.claims g.B.DutyBook.records g.B.DutyBook.puts_back g.B.DutyBook.breaks g.B.DutyBook.idle
    g.B.DutyBook.full g.B.DutyBook.broken (ticks reading ∷ looks s ∷ []) stop in (
      ticks reading ∷ looks s ∷ [],
      looked,
      subst Said (sym c.stop_of-in-Err.ensures) (refused_at g.B.DutyBook.claims g.B.DutyBook.records g.B.DutyBook.puts_back g.B.DutyBook.breaks
          g.B.DutyBook.idle g.B.DutyBook.full g.B.DutyBook.broken reading s c.in-Err.fault (subst At cut cause)),
      looked_goes _ _ _ _ reading s gave,
    )
