-- The text of an event, piece by piece: `opened`, `event_written`.
use Rattle.std.proofs.Common.{◌≡◌, ℕ, ◌-◌, Option, List, [], ◌∷◌, ◌++◌, length, take, drop, sym, ap, ◌∙◌, refl, arith, codes, append_assoc, length-append}
use Rattle.std.proofs.lemmas.List.{take_at}
use Rattle.json_text.specs.Tree.{Tree, text, object, members_of}
use Rattle.json_text.specs.Compact.{compact_text, members_text, more_members_text, quoted}
use Rattle.event_shape.specs.Event.{Event, event_members, event_tree, replay_member}

-- the text of an object without its last byte
pub opened : (old new : List ℕ) (ms : List (List ℕ × Tree)) → new ≡ old ++ compact_text (object (members_of ms))
    → take (length new - 1) new ≡ old ++ 123 ∷ members_text (members_of ms)
opened old new ms e =
    let front = old ++ 123 ∷ members_text (members_of ms) in
    let whole : new ≡ front ++ 125 ∷ [] = e ∙ sym (append_assoc old (123 ∷ members_text (members_of ms)) (125 ∷ [])) in
    let long : length front ≡ length new - 1 = omega (arith, ap length whole, length-append front (125 ∷ [])) in
    ap (take (length new - 1)) whole ∙ take_at front (125 ∷ []) (length new - 1) long

more_after : (ms ns : List (List ℕ × Tree))
    → more_members_text (members_of (ms ++ ns)) ≡ more_members_text (members_of ms) ++ more_members_text (members_of ns)
more_after [] ns = refl
more_after (m ∷ ms) ns =
    let tail = ap (λ x. 44 ∷ (quoted m.0 ++ 58 ∷ (compact_text m.1 ++ x))) (more_after ms ns) in
    let value = append_assoc (compact_text m.1) (more_members_text (members_of ms)) (more_members_text (members_of ns)) in
    let inner = ap (λ x. 44 ∷ (quoted m.0 ++ 58 ∷ x)) (sym value) in
    let whole = append_assoc (quoted m.0) (58 ∷ (compact_text m.1 ++ more_members_text (members_of ms))) (more_members_text (members_of ns)) in
    let outer = ap (λ x. 44 ∷ x) (sym whole) in
    tail ∙ inner ∙ outer

members_after : (m : List ℕ × Tree) (ms ns : List (List ℕ × Tree))
    → members_text (members_of (m ∷ (ms ++ ns))) ≡ members_text (members_of (m ∷ ms)) ++ more_members_text (members_of ns)
members_after m ms ns =
    let tail = ap (λ x. quoted m.0 ++ 58 ∷ (compact_text m.1 ++ x)) (more_after ms ns) in
    let value = append_assoc (compact_text m.1) (more_members_text (members_of ms)) (more_members_text (members_of ns)) in
    let inner = ap (λ x. quoted m.0 ++ 58 ∷ x) (sym value) in
    let outer = sym (append_assoc (quoted m.0) (58 ∷ (compact_text m.1 ++ more_members_text (members_of ms))) (more_members_text (members_of ns))) in
    tail ∙ inner ∙ outer

-- the pieces in their order
pub event_written : (e : Event) (replay : Option (List ℕ)) (o1 o2 o3 o4 o5 : List ℕ) → o1 ≡ 123 ∷ members_text (members_of (take 8 (event_members e)))
    → o2 ≡ o1 ++ codes ",\"detail\":" → o3 ≡ o2 ++ compact_text e.detail
    → o4 ≡ o3 ++ more_members_text (members_of (replay_member replay)) → o5 ≡ o4 ++ 125 ∷ []
    → o5 ≡ compact_text (event_tree e replay)
event_written e replay o1 o2 o3 o4 o5 e1 e2 e3 e4 e5 =
    let front = members_text (members_of (take 8 (event_members e))) in
    let key = codes ",\"detail\":" in
    let detail = compact_text e.detail in
    let rest = more_members_text (members_of (replay_member replay)) in
    let pieces : o5 ≡ (((123 ∷ front ++ key) ++ detail) ++ rest) ++ 125 ∷ [] = rw (e5, e4, e3, e2, e1) refl in
    let all : members_text (members_of (event_members e ++ replay_member replay)) ≡ front ++ (key ++ (detail ++ rest)) =
    members_after (codes "version", text (codes "0")) (drop 1 (take 8 (event_members e))) ((codes "detail", e.detail) ∷ replay_member replay) in
    let joined : ((front ++ key) ++ detail) ++ rest ≡ front ++ (key ++ (detail ++ rest)) =
    append_assoc (front ++ key) detail rest ∙ append_assoc front key (detail ++ rest) in
    pieces ∙ ap (λ x. 123 ∷ (x ++ 125 ∷ [])) (joined ∙ sym all)
