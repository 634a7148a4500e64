use Rattle.std.proofs.Common.{sym, ap, ◌∙◌}
use Rattle.input_transform.specs.Names.{after_slash}
use Rattle.duty_journal.proofs.NamedLemmas.{named_after, named_first}
use Rattle.duty_journal.proofs.Readable.{admitted_readable}
use Rattle.duty_journal.proofs.laws.rows_name_their_rules.Goals as goal

pub returns : goal.returns
returns c = record {
  readable = admitted_readable;
  first = named_first;
  after = λ t b admitted named. named_after b t admitted named;
  row = λ rule target duty named is. ap (λ row. row.rule_name) is ∙ named ∙ ap after_slash (sym (ap (λ row. row.rule_arn) is));
}
