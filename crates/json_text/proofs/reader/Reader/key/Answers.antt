use Rattle.std.proofs.Common.{length, ◌<◌, if◌then◌else◌, Some, None, reverse, ◌∙◌, ◌∷◌, [], refl, sym, ap, arith, subst}
use Rattle.std.proofs.lemmas.List.{length-drop}
use Rattle.json_text.specs.{Reading.in_key, Reading.value, Reading.next_key, Reading.colon, Reading.in_object, Reading.fields_of, View.pairs_of}
use Rattle.json_text.specs.Kept.{repeat_at, KeepsAll, repeat_of, read_at, FailsSo, keys_after}
use Rattle.json_text.specs.{declared.state.Kept.TheVariants.Object as kept_object, Node.first_repeat_after, Node.first_of}
use Rattle.json_text.proofs.KeptLemmas.{first_of-assoc, keeps_more, key_waits, key_repeats}
use Rattle.json_text.proofs.{StepLemmas.colon_other, StepLemmas.colon_skips, StepLemmas.led, TokenRuns.string_takes, TokenRuns.string_faults}
use Rattle.json_text.proofs.reader.Reader.key.Goals as goal

pub returns-in-Err-clause-goes : goal.returns-in-Err-clause-goes
returns-in-Err-clause-goes c ms outer kept r holds = string_faults c.args.self.now.levels (next_key ms outer)
    (in_key c.args.place.at ms outer) c.args.place c.in-Err.fault refl c.requires c.in-Err.ensures.err

pub returns-then-not-starts_with-clause-goes : goal.returns-then-not-starts_with-clause-goes
returns-then-not-starts_with-clause-goes c ms outer kept r holds = let read = c.in-Ok.ensures.ok in let after = colon ms c.args.place.at c.in-Ok.read.0 outer in
    subst (FailsSo (read_at c.args.self.now.levels c.args.place (next_key ms outer))) (sym c.not_json.ensures)
    (string_takes c.args.self.now.levels c.args.place.at (next_key ms outer) (in_key c.args.place.at ms outer) c.args.place.rest.now c.in-Ok.read.0 read.0
    c.in-Ok.read.1.at c.in-Ok.read.1.rest.now c.requires refl read.1 read.2 read.3
    ∙ c.without_space-there.ensures.same c.args.self.now.levels after (colon_skips c.args.self.now.levels ms c.args.place.at c.in-Ok.read.0 outer)
    ∙ colon_other c.args.self.now.levels c.without_space-there.result.at ms c.args.place.at c.in-Ok.read.0 outer c.without_space-there.result.rest.now
    c.without_space-there.ensures.no_space c.if-not-starts_with.ensures)

pub returns-clause-goes : goal.returns-clause-goes
returns-clause-goes c ms outer kept r holds = let read = c.in-Ok.ensures.ok in
    let same = ap (λ o. pairs_of o.members.items) c.deref_mut.ensures.value ∙ holds in let place = c.args.place.at in let key = c.in-Ok.read.0 in
    let after = colon ms place key outer in let next = value (in_object ms place key ∷ outer) in
    let kept = subst (λ ks. KeepsAll (reverse ks) (in_object ms place key ∷ outer)) (sym c.in_ok-push.ensures.items)
    (keeps_more c.args.self.now.waiting.items (kept_object _) outer (in_object ms place key) kept (key_waits (pairs_of c.deref_mut.result.now.members.items)
    (pairs_of c.reserve.new.self.members.items) key c.in_ok-slot.slot c.in_ok-slot.is_repeated ms c.in_ok-slot.ensures.place same)) in
    let repeat = c.first_repeat_of-self.ensures ∙ ap (λ o. first_of o (if c.in_ok-slot.is_repeated then Some place else None)) r
    ∙ ap (first_of (first_of (repeat_of outer) (first_repeat_after [] (fields_of ms)))) (sym (key_repeats (pairs_of c.deref_mut.result.now.members.items)
    (pairs_of c.reserve.new.self.members.items) key c.in_ok-slot.slot place c.in_ok-slot.is_repeated ms c.in_ok-slot.ensures.place same))
    ∙ first_of-assoc (repeat_of outer) (first_repeat_after [] (fields_of ms)) (repeat_at (keys_after [] ms) place key) in
    let read_so = string_takes c.args.self.now.levels place (next_key ms outer)
    (in_key place ms outer) c.args.place.rest.now key read.0 c.in-Ok.read.1.at c.in-Ok.read.1.rest.now c.requires refl read.1 read.2 read.3
    ∙ c.without_space-there.ensures.same c.args.self.now.levels after (colon_skips c.args.self.now.levels ms place key outer)
    ∙ led c.args.self.now.levels after next 58 c.without_space-there.result c.after.result c.if-not-starts_with.ensures
    refl c.after.ensures.at c.after.ensures.rest in let shorter : length c.after.result.rest.now < length c.args.place.rest.now =
    omega (arith, ap length c.after.ensures.rest, length-drop 1 c.without_space-there.result.rest.now, c.without_space-there.ensures.later, read.4) in
    (next, (in_object ms place key ∷ outer, refl, kept, repeat), read_so, shorter)
