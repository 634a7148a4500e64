-- A policy's text does not grow when statements are removed: `left_no_longer`.
use Rattle.std.proofs.Common.{◌≡◌, ◌≤◌, ℕ, List, [], ◌∷◌, ◌++◌, length, codes, sym, subst, arith}
use Rattle.std.specs.Prelude.{unwrap_or}
use Rattle.std.proofs.lemmas.Bool.{cond_both}
use Rattle.json_text.specs.Tree.{Tree, Items, no_items, item}
use Rattle.json_text.specs.Compact.{compact_text, items_text, more_items_text, quoted}
use Rattle.json_text.specs.Access.{member_of}
use Rattle.bus_policy.specs.Parts.{statements_of, has_sid}
use Rattle.bus_policy.specs.Stored.{default_version, policy_with, stored_of, IsStored}
use Rattle.bus_policy.specs.Change.{without_sid, without_statement}

-- one list is no longer than another
abbrev Short : List ℕ → List ℕ → Type 0
Short xs ys = length xs ≤ length ys

through : (xs ys zs : List ℕ) → Short xs ys → Short ys zs → Short xs zs
through xs ys zs h g = omega arith

with_front : (front xs ys : List ℕ) → Short xs ys → Short (front ++ xs) (front ++ ys)
with_front [] xs ys h = h
with_front (b ∷ front) xs ys h = let rest : Short (front ++ xs) (front ++ ys) = with_front front xs ys h in omega arith

after_front : (front xs : List ℕ) → Short xs (front ++ xs)
after_front [] xs = omega arith
after_front (b ∷ front) xs = let rest : Short xs (front ++ xs) = after_front front xs in omega arith

none_short : (xs : List ℕ) → Short [] xs
none_short xs = omega arith

with_end : (xs ys end : List ℕ) → Short xs ys → Short (xs ++ end) (ys ++ end)
with_end [] ys end h = after_front ys end
with_end (x ∷ xs) [] end h = absurd (omega arith)
with_end (x ∷ xs) (y ∷ ys) end h =
    let fewer : Short xs ys = omega arith in
    let rest : Short (xs ++ end) (ys ++ end) = with_end xs ys end fewer in omega arith

-- the first statement has no comma before it
first_short : (ss : Items) → Short (items_text ss) (more_items_text ss)
first_short no_items = none_short []
first_short (item t ss) = after_front (44 ∷ []) (compact_text t ++ more_items_text ss)

more_left : (sid : List ℕ) (ss : Items) → Short (more_items_text (without_sid sid ss)) (more_items_text ss)
more_left sid no_items = none_short []
more_left sid (item t ss) =
    let left = more_items_text (without_sid sid ss) in
    let all = more_items_text ss in
    cond_both (has_sid sid t) (without_sid sid ss) (item t (without_sid sid ss)) (λ x. Short (more_items_text x) (more_items_text (item t ss)))
    (λ _. through left all (44 ∷ compact_text t ++ all) (more_left sid ss) (after_front (44 ∷ compact_text t) all))
    (λ _. with_front (44 ∷ compact_text t) left all (more_left sid ss))

items_left : (sid : List ℕ) (ss : Items) → Short (items_text (without_sid sid ss)) (items_text ss)
items_left sid no_items = none_short []
items_left sid (item t ss) =
    let left = more_items_text (without_sid sid ss) in
    let all = more_items_text ss in
    cond_both (has_sid sid t) (without_sid sid ss) (item t (without_sid sid ss)) (λ x. Short (items_text x) (items_text (item t ss)))
    (λ _. through (items_text (without_sid sid ss)) left (compact_text t ++ all) (first_short (without_sid sid ss))
    (through left all (compact_text t ++ all) (more_left sid ss) (after_front (compact_text t) all)))
    (λ _. with_front (compact_text t) left all (more_left sid ss))

-- the members of a policy, from the comma before `Statement`; `xs` are its statements' texts
abbrev statement_text : List ℕ → List ℕ
statement_text xs = 44 ∷ quoted (codes "Statement") ++ 58 ∷ ((91 ∷ xs ++ 93 ∷ []) ++ [])

abbrev version_text : Tree → List ℕ → List ℕ
version_text version xs = quoted (codes "Version") ++ 58 ∷ (compact_text version ++ statement_text xs)

statement_short : (xs ys : List ℕ) → Short xs ys → Short (statement_text xs) (statement_text ys)
statement_short xs ys h =
    let closed = with_end xs ys (93 ∷ []) h in
    let listed = with_front (91 ∷ []) (xs ++ 93 ∷ []) (ys ++ 93 ∷ []) closed in
    let ended = with_end (91 ∷ xs ++ 93 ∷ []) (91 ∷ ys ++ 93 ∷ []) [] listed in
    with_front (44 ∷ quoted (codes "Statement") ++ 58 ∷ []) ((91 ∷ xs ++ 93 ∷ []) ++ []) ((91 ∷ ys ++ 93 ∷ []) ++ []) ended

-- of two policies with one version
policy_short : (version : Tree) (ss rest : Items) → Short (items_text ss) (items_text rest)
    → Short (compact_text (policy_with version ss)) (compact_text (policy_with version rest))
policy_short version ss rest h =
    let xs = items_text ss in
    let ys = items_text rest in
    let after = with_front (compact_text version) (statement_text xs) (statement_text ys) (statement_short xs ys h) in
    let members = with_front (quoted (codes "Version") ++ 58 ∷ []) (compact_text version ++ statement_text xs) (compact_text version ++ statement_text ys) after in
    let ended = with_end (version_text version xs) (version_text version ys) (125 ∷ []) members in
    with_front (123 ∷ []) (version_text version xs ++ 125 ∷ []) (version_text version ys ++ 125 ∷ []) ended

-- what is left of a policy without the statement of a Sid
pub left_no_longer : (policy : Tree) (sid : List ℕ) (rest : Tree) → IsStored policy → rest ≡ without_statement policy sid
    → length (compact_text rest) ≤ length (compact_text policy)
left_no_longer policy sid rest k e =
    let version = unwrap_or (member_of (codes "Version") policy) default_version in
    let shorter : Short (compact_text (without_statement policy sid)) (compact_text (stored_of policy)) =
    policy_short version (without_sid sid (statements_of policy)) (statements_of policy) (items_left sid (statements_of policy)) in
    subst (λ t. Short (compact_text rest) (compact_text t)) k.stored
    (subst (λ t. Short (compact_text t) (compact_text (stored_of policy))) (sym e) shorter)
