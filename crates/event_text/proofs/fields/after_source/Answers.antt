use Rattle.std.proofs.Common.{codes}
use Rattle.std.proofs.lemmas.Option.{IfSome_then}
use Rattle.event_text.proofs.TextLemmas.{not_begun}
use Rattle.event_text.proofs.EventLemmas.{free_source}
use Rattle.event_text.proofs.fields.after_source.Goals as goal

pub returns : goal.returns
returns c =
    let bytes = c.args.bytes.now in
    let other = not_begun bytes (codes "aws.") c.starts_with.result c.starts_with.ensures.value c.if-starts_with.false in
    IfSome_then c.after_some_string.result c.after_some_string.ensures (λ rest p. (p.0, p.1, free_source p.0 bytes rest.now p.2 other, p.2))
