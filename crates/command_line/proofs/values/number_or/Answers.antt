use Rattle.std.proofs.Common.{◌≡◌, ℕ, Option, MatchOption}
use Rattle.clap.specs.Matches.{found_of}
use Rattle.clap.specs.Walk.{first_of, rows_of}
use Rattle.command_line.specs.Command.{IsOptional}
use Rattle.command_line.specs.Number.{IsNumber}
use Rattle.command_line.proofs.ValueLemmas.{denies_more, or_optional}
use Rattle.command_line.proofs.values.number_or.Goals as goal

pub returns-in-Err-clause-err : goal.returns-in-Err-clause-err
returns-in-Err-clause-err c =
    let value = first_of c.args.name.now (rows_of (found_of c.args.options.now)) in
    denies_more ((number : Option ℕ) × IsOptional c.args.least c.args.most value number)
    ((number : ℕ) × MatchOption value (number ≡ c.args.absent) (λ word. IsNumber c.args.least c.args.most word number)) c.in-Err.fault
    (λ h. or_optional c.args.least c.args.most c.args.absent value h.0 h.1) c.in-Err.ensures.err
