use Rattle.std.proofs.Common.{◌≡◌, ◌∷◌, ◌++◌, [], ◌∙◌, ap, sym, subst, arith}
use Rattle.json_text.specs.{declared.value.Json.TheVariants.Null, Objects.HasHashes, Objects.IsIndex, View.pairs_of}
use Rattle.json_text.proofs.KeptLemmas.{pushed, pairs_of-push, HasHashes-push}
use Rattle.json_text.proofs.object.ObjectBuilder.push.Goals as goal

pub invariant_of-self-2 : goal.invariant_of-self-2
invariant_of-self-2 c = let all : c.push.new.self.items ≡ c.try_reserve.new.self.items ++ (c.args.key, Null) ∷ [] =
    pushed c.push.result _ _ c.push.new.self.items (c.push.ensures.succeeds (omega (arith, c.in_ok-try_reserve.ensures.ok))) c.push.ensures.items in
    let hashed = subst (HasHashes _) (sym (all ∙ ap (λ ms. ms ++ (c.args.key, Null) ∷ []) c.try_reserve.ensures.items))
    (HasHashes-push c.args.self.now.hashes c.args.hash c.args.key Null c.args.self.now.members.items c.requires.hash c.requires.small c.requires.new
    c.args.self.now.hashed) in
    let indexed = subst (IsIndex c.index_next.new.slots) (sym (all ∙ ap (λ ms. ms ++ (c.args.key, Null) ∷ []) (sym c.deref.ensures.value)
    ∙ ap (λ k. c.deref.result.now ++ (k, Null) ∷ []) (sym c.as_str.ensures))) (c.in_ok-index_next.ensures.ok Null) in
    record { hashed = hashed; indexed = indexed }

pub returns-clause-pushed : goal.returns-clause-pushed
returns-clause-pushed c = ap pairs_of (c.in-Ok.ensures.items ∙ ap (λ ms. ms ++ (c.args.key, Null) ∷ []) c.try_reserve.ensures.items)
    ∙ pairs_of-push c.args.key c.args.self.now.members.items
