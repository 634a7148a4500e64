use Rattle.std.proofs.Common.{◌∙◌, refl, sym, ap, subst, reverse, []}
use Rattle.json_text.specs.{Reading.value, Reading.read_from, Kept.KeepsAll, Kept.IsState}
use Rattle.json_text.proofs.StepLemmas.{value_skips, unfinished, finished}
use Rattle.json_text.proofs.reader.read_all.Goals as goal

pub loop-byte-init : goal.loop-byte-init
loop-byte-init c = let kept = subst (λ ks. KeepsAll (reverse ks) []) (sym c.new.ensures.items) tt in
    let same = c.without_space-place.ensures.same c.args.levels (value []) (value_skips c.args.levels []) in
    record { at_state = (value [], ([], refl, kept, refl), same); no_space = c.without_space-place.ensures.no_space; levels = refl }

pub returns-in-End-clause-ok : goal.returns-in-End-clause-ok
returns-in-End-clause-ok c = let at = c.loop-byte.invariant.at_state in
    let end = subst (λ next. IsState next c.loop-byte.reader.waiting.items c.loop-byte.reader.repeat at.0) c.in-End.is at.1 in
    let read = at.2 ∙ ap (read_from c.args.levels c.loop-byte.place.at at.0) c.in_default.ensures
    ∙ finished end.0 at.0 c.args.levels c.loop-byte.place.at end.1 in (end.0, read, end.2, end.3)

pub returns : goal.returns
returns c = let at = c.loop-byte.invariant.at_state in
    let err = at.2 ∙ ap (read_from c.args.levels c.loop-byte.place.at at.0) c.in_default.ensures ∙ unfinished c.loop-byte.next
    c.loop-byte.reader.waiting.items c.loop-byte.reader.repeat at.0 c.args.levels c.loop-byte.place.at at.1 c.in_default-next.not-End in
    record { ok = tt; err = err }
