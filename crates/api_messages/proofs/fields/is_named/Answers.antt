use Rattle.api_messages.specs.Fields.{is_named}
use Rattle.api_messages.proofs.FieldLemmas.{test_is_bytes_eq}
use Rattle.api_messages.proofs.fields.is_named.Goals as goal

pub returns : goal.returns
unfolding is_named
returns c = test_is_bytes_eq _ _ _ c.eq_ignore_ascii_case.ensures.test
