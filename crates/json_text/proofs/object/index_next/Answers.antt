use Rattle.std.proofs.{Common.◌∙◌, Common.ap, Common.sym, Common.cond, Common.Some, Common.length, Common.zero-add, lemmas.Result.on_ok_weaker}
use Rattle.std.{proofs.lemmas.Bool.false≢true, specs.Str.bytes_eq}
use Rattle.json_text.{specs.Objects.slot_from, proofs.KeptLemmas.slot_from-push}
use Rattle.json_text.proofs.object.index_next.Goals as goal

pub returns-clause-ok : goal.returns-clause-ok
returns-clause-ok c = let key = c.args.key.now in let ms = c.args.members.now in on_ok_weaker c.insert_key.result (λ known json made q.
    known q ∙ ap (λ o. cond (bytes_eq key q) (Some (length ms)) o) (c.requires.indexed (λ none. false≢true (c.if-is_empty.ensures.1 none)) q)
    ∙ sym (slot_from-push 0 q key json ms c.requires.new ∙ ap (λ n. cond (bytes_eq key q) (Some n) (slot_from 0 q ms)) (zero-add (length ms))))
    c.insert_key.ensures.ok
