use Rattle.std.proofs.Common.{◌≡◌, ℕ, MatchOption, codes}
use Rattle.std.proofs.lemmas.Result.{err_from_is_err_and}
use Rattle.clap.specs.Matches.{found_of}
use Rattle.clap.specs.Walk.{first_of, rows_of}
use Rattle.command_line.specs.Command.{CommandView}
use Rattle.command_line.specs.Number.{IsNumber}
use Rattle.command_line.specs.Reading.{IsRead}
use Rattle.command_line.proofs.ValueLemmas.{denies_more, serve_values}
use Rattle.command_line.proofs.command.serve_in.Goals as goal

pub returns-in_err-port-clause-err : goal.returns-in_err-port-clause-err
returns-in_err-port-clause-err c =
    let rows = rows_of (found_of c.args.options.now) in
    let p = err_from_is_err_and c.from_residual.result c.from_residual.ensures.1 in
    rw (p.1, p.2) (denies_more
    ((port : ℕ) × MatchOption (first_of (codes "port") rows) (port ≡ 9100) (λ word. IsNumber 1 65535 word port))
    ((x : CommandView) × IsRead (codes "serve") rows x) c.in_err-port.field-0.0 (λ h. (serve_values rows h.0 h.1).0) c.in_err-port.ensures.err)

pub returns-in_err-workers-clause-err : goal.returns-in_err-workers-clause-err
returns-in_err-workers-clause-err c =
    let rows = rows_of (found_of c.args.options.now) in
    let p = err_from_is_err_and c.from_residual-in_err-workers.result c.from_residual-in_err-workers.ensures.1 in
    rw (p.1, p.2) (denies_more
    ((workers : ℕ) × MatchOption (first_of (codes "workers") rows) (workers ≡ 64) (λ word. IsNumber 1 1024 word workers))
    ((x : CommandView) × IsRead (codes "serve") rows x) c.in_err-workers.field-0.0 (λ h. (serve_values rows h.0 h.1).1) c.in_err-workers.ensures.err)
