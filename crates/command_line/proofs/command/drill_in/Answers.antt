use Rattle.std.proofs.Common.{ℕ, IsSomeAnd, codes}
use Rattle.std.proofs.lemmas.Result.{err_from_is_err_and}
use Rattle.clap.specs.Matches.{found_of}
use Rattle.clap.specs.Walk.{first_of, rows_of}
use Rattle.command_line.specs.Command.{CommandView}
use Rattle.command_line.specs.Number.{IsNumber}
use Rattle.command_line.specs.Reading.{IsRead}
use Rattle.command_line.proofs.ValueLemmas.{denies_more, drill_values}
use Rattle.command_line.proofs.command.drill_in.Goals as goal

pub returns-in_err-seed-clause-err : goal.returns-in_err-seed-clause-err
returns-in_err-seed-clause-err c =
    let rows = rows_of (found_of c.args.options.now) in
    let p = err_from_is_err_and c.from_residual.result c.from_residual.ensures.1 in
    rw (p.1, p.2) (denies_more
    ((seed : ℕ) × IsSomeAnd (first_of (codes "seed") rows) (λ word. IsNumber 0 2147483647 word seed))
    ((x : CommandView) × IsRead (codes "drill") rows x) c.in_err-seed.field-0.0 (λ h. (drill_values rows h.0 h.1).0) c.in_err-seed.ensures.err)

pub returns-in_err-events-clause-err : goal.returns-in_err-events-clause-err
returns-in_err-events-clause-err c =
    let rows = rows_of (found_of c.args.options.now) in
    let p = err_from_is_err_and c.from_residual-in_err-events.result c.from_residual-in_err-events.ensures.1 in
    rw (p.1, p.2) (denies_more
    ((events : ℕ) × IsSomeAnd (first_of (codes "events") rows) (λ word. IsNumber 1 100000 word events))
    ((x : CommandView) × IsRead (codes "drill") rows x) c.in_err-events.field-0.0 (λ h. (drill_values rows h.0 h.1).1) c.in_err-events.ensures.err)
