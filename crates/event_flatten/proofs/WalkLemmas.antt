-- The walk of an object after one more member: `members_step`.
use Rattle.std.proofs.Common.{◌≡◌, ℕ, ◌+◌, ◌<◌, List, ◌∷◌, ◌++◌, length, get_or, drop, sym, ap, ◌∙◌, append_assoc}
use Rattle.std.proofs.lemmas.List.{drop_more}
use Rattle.json_text.specs.declared.value.Json.{Json}
use Rattle.json_text.specs.Tree.{Tree, members_of}
use Rattle.json_text.specs.View.{tree_of, pairs_of}
use Rattle.event_flatten.specs.Walk.{Wants, below, found_in, found_in_members}

pub members_step : (found next all : List (ℕ × Tree)) (ws : Wants) (members : List (List ℕ × Json)) (i : ℕ) (m : List ℕ × Json)
    → i < length members → m ≡ get_or members i m
    → found ++ found_in_members ws (members_of (pairs_of (drop i members))) ≡ all
    → next ≡ found ++ found_in (below m.0 ws) (tree_of m.1)
    → next ++ found_in_members ws (members_of (pairs_of (drop (i + 1) members))) ≡ all
members_step found next all ws members i m within is before here =
    let part = found_in (below m.0 ws) (tree_of m.1) in
    let rest = found_in_members ws (members_of (pairs_of (drop (i + 1) members))) in
    let split : drop i members ≡ m ∷ drop (i + 1) members = drop_more members i m within ∙ ap (λ x. x ∷ drop (i + 1) members) (sym is) in
    ap (λ x. x ++ rest) here ∙ append_assoc found part rest
    ∙ sym (ap (λ x. found ++ found_in_members ws (members_of (pairs_of x))) split) ∙ before
