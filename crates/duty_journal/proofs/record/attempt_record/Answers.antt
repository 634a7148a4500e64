use Rattle.duty_journal.proofs.RecordLemmas.{record_is}
use Rattle.duty_journal.proofs.record.attempt_record.Goals as goal

pub returns : goal.returns
returns c = record_is c.args.moment c.args.duty c.outcome_numbers-kind.result.0 c.outcome_numbers-kind.result.1 c.args.outcome
    c.to_be_bytes-m.result c.to_be_bytes-d.result c.to_be_bytes-c.result c.outcome_numbers-kind.ensures.bytes
    c.to_be_bytes-m.ensures c.to_be_bytes-d.ensures c.to_be_bytes-c.ensures
