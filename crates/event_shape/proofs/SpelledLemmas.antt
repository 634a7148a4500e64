-- An event's text is a JSON text of at most 100 levels: `event_spelled`.
use Rattle.std.proofs.Common.{◌≡◌, ℕ, ◌≤◌, None, List, [], ◌∷◌, map, sym, subst, refl, arith}
use Rattle.json_text.specs.Tree.{text, items_of}
use Rattle.json_text.specs.Node.{Node, value_of}
use Rattle.json_text.specs.Grammar.{IsText}
use Rattle.json_text.specs.Compact.{compact_text, tree_levels, items_levels}
use Rattle.json_text.proofs.SpelledBack.{compact_spelled}
use Rattle.event_shape.specs.Event.{Event, event_tree, IsEventText}
use Rattle.event_shape.proofs.ValidLemmas.{event_value}

deeper : (a b : ℕ) (bytes : List ℕ) (n : Node) → a ≤ b → IsText a bytes n → IsText b bytes n
deeper a b bytes n le is = record { spelled = is.spelled; within = let w = is.within in omega (arith, w, le) }

texts_flat : (ts : List (List ℕ)) → items_levels (items_of (map text ts)) ≡ 0
texts_flat [] = refl
texts_flat (t ∷ ts) = let rest = texts_flat ts in rw rest refl

tree_flat : (e : Event) → tree_levels e.detail ≤ 99 → tree_levels (event_tree e None) ≤ 100
tree_flat e h = let flat = texts_flat e.resources in rw flat (omega (arith, h))

pub event_spelled : (bytes : List ℕ) (e : Event) → IsEventText bytes e → (n : Node) × IsText 100 bytes n × (value_of n ≡ event_tree e None)
event_spelled bytes e p =
    let (m, at) = p.is_event in
    let (n, spelled, value, once) = compact_spelled (event_tree e None) (event_value e None p.is_event tt) in
    let within = deeper (tree_levels (event_tree e None)) 100 (compact_text (event_tree e None)) n (tree_flat e at.content.detail_levels) spelled in
    (n, subst (λ b. IsText 100 b n) (sym p.written) within, value)
