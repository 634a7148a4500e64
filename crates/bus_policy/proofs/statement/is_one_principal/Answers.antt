use Rattle.std.proofs.Common.{◌≡◌, ◌≤◌, ℕ, false, List, [], ◌∷◌, length, refl, arith}
use Rattle.json_text.specs.Tree.{members_of}
use Rattle.json_text.specs.View.{pairs_of}
use Rattle.json_text.specs.declared.value.Json.{Json}
use Rattle.bus_policy.specs.Grammar.{is_one_principal}
use Rattle.bus_policy.proofs.statement.is_one_principal.Goals as goal

two : (ms : List (List ℕ × Json)) → 2 ≤ length ms → false ≡ is_one_principal (members_of (pairs_of ms))
two [] h = refl
two (m ∷ []) h = absurd (omega arith)
two (m ∷ n ∷ ms) h = refl

pub returns-in_default-2 : goal.returns-in_default-2
returns-in_default-2 c = two c.args.members.now c.in_default.len_at_least
