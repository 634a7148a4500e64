use Rattle.std.proofs.Common.{◌++◌, ◌∷◌, [], drop, take, ap, sym, subst, ◌∙◌}
use Rattle.record_file.specs.Records.{IsText}
use Rattle.duty_journal.specs.Batch.{batch_bytes}
use Rattle.duty_journal.proofs.JournalLemmas.{attempt_text}
use Rattle.duty_journal.proofs.journal.Journal.append_attempt.Goals as goal

pub append_payloads-requires-clause-text : goal.append_payloads-requires-clause-text
append_payloads-requires-clause-text g c κs lives =
    let next = c.requires.next in
    let parts = attempt_text c.args.text.now (batch_bytes next.1) c.told-text next.2 in
    subst (λ ps. IsText ps c.args.text.now)
    (sym (c.hear.ensures ∙ ap (λ ps. ps ++ take 22 (drop 8 c.args.text.now) ∷ []) c.new-payloads.ensures ∙ ap (λ p. p ∷ []) parts.0)) parts.1

pub returns : goal.returns
returns g c = λ start b is recordable.
    let parts = attempt_text c.args.text.now (batch_bytes b) c.told-text is in
    c.append_payloads.ensures start (b ∷ [])
    (c.hear.ensures ∙ ap (λ ps. ps ++ take 22 (drop 8 c.args.text.now) ∷ []) c.new-payloads.ensures ∙ ap (λ p. p ∷ []) parts.0) recordable
