use Rattle.std.proofs.{Common.◌∙◌, Common.ap, Common.cond, Common.Some, Common.string_bytes, lemmas.Map.Text.btree_map_updates_text}
use Rattle.std.specs.{Str.bytes_eq, BTreeMap.get_by_text}
use Rattle.json_text.proofs.object.insert_key.Goals as goal

pub returns-clause-ok : goal.returns-clause-ok
returns-clause-ok c q =
    btree_map_updates_text (string_bytes c.in_ok-name.name) c.args.slots.now c.insert.new.self (Some c.args.slot) c.in_ok-insert.ensures.updates q
    ∙ ap (λ k. cond (bytes_eq k q) (Some c.args.slot) (get_by_text c.args.slots.now q)) c.in_ok-name.ensures.ok
