use Rattle.std.proofs.Common.{rules, ◌≡◌, List, [], ◌∷◌, ◌++◌, None, refl, sym, ap, ◌∙◌}
use Rattle.json_text.specs.Tree.{members_of}
use Rattle.json_text.specs.View.{pairs_of}
use Rattle.json_text.specs.declared.value.Json.{Json}
use Rattle.std.proofs.Common.{ℕ}
use Rattle.pattern_read.specs.Kind.{named_in}
use Rattle.pattern_read.proofs.kind.named_in.Goals as goal

-- two members name no test
two_members : (xs : List (List ℕ × Json)) (m : List ℕ × Json) → (xs ≡ [] → ⊥) → named_in (members_of (pairs_of (xs ++ m ∷ []))) ≡ None
two_members [] m some = absurd (some refl)
two_members (x ∷ []) m some = refl
two_members (x ∷ y ∷ xs) m some = refl

pub returns-then-not-is_empty : goal.returns-then-not-is_empty
returns-then-not-is_empty c =
    let some : c.pop.new.self.items ≡ [] → ⊥ = search rules in
    sym (ap (λ ms. named_in (members_of (pairs_of ms))) c.in-Some.ensures.items ∙ two_members c.pop.new.self.items _ some)
