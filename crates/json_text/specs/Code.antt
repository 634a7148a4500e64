-- A tree as a list of numbers that gives it back, by which a contract can see a struct as a value that has a tree in it.
use Rattle.std.specs.Prelude.{◌≡◌, ◌≤◌, ℕ, zero, suc, true, false, List, [], ◌∷◌, ◌++◌, ◌==◌, if◌then◌else◌, length, take, drop, slice_index, refl}
use Rattle.std.specs.Coded.{Coded, code_by, coded_list, coded_ℕ}
use Rattle.std.proofs.Common.{arith, length-append, append_assoc, append-nil, take_at, drop_at, ap, sym, ◌∙◌}
use Rattle.json_text.specs.Tree.{Tree, null, truth, number, text, list, object, Items, no_items, item, Members, no_members, member}

-- each kind by its number, a text by its length and its bytes, a list by its items, each with a 1 before it, and a 0
abbrev mutual
  pub tree_numbers : Tree → List ℕ
  tree_numbers null = 0 ∷ []
  tree_numbers (truth b) = 1 ∷ (if b then 1 else 0) ∷ []
  tree_numbers (number spelling) = 2 ∷ length spelling ∷ spelling
  tree_numbers (text t) = 3 ∷ length t ∷ t
  tree_numbers (list inside) = 4 ∷ items_numbers inside
  tree_numbers (object inside) = 5 ∷ members_numbers inside

  pub items_numbers : Items → List ℕ
  items_numbers no_items = 0 ∷ []
  items_numbers (item t rest) = 1 ∷ (tree_numbers t ++ items_numbers rest)

  pub members_numbers : Members → List ℕ
  members_numbers no_members = 0 ∷ []
  members_numbers (member key t rest) = 1 ∷ length key ∷ (key ++ (tree_numbers t ++ members_numbers rest))

-- the text and the numbers after it
abbrev pub text_from : List ℕ → List ℕ × List ℕ
text_from ns = (take (slice_index ns 0) (drop 1 ns), drop (slice_index ns 0) (drop 1 ns))

-- the tree and the numbers after it, in at most this number of steps
abbrev mutual
  pub tree_from : ℕ → List ℕ → Tree × List ℕ
  tree_from zero ns = (null, ns)
  tree_from (suc steps) [] = (null, [])
  tree_from (suc steps) (kind ∷ ns) =
      if kind == 1 then (truth (slice_index ns 0 == 1), drop 1 ns)
      else (if kind == 2 then (number (text_from ns).0, (text_from ns).1)
      else (if kind == 3 then (text (text_from ns).0, (text_from ns).1)
      else (if kind == 4 then (list (items_from steps ns).0, (items_from steps ns).1)
      else (if kind == 5 then (object (members_from steps ns).0, (members_from steps ns).1)
      else (null, ns)))))

  pub items_from : ℕ → List ℕ → Items × List ℕ
  items_from zero ns = (no_items, ns)
  items_from (suc steps) [] = (no_items, [])
  items_from (suc steps) (more ∷ ns) =
      if more == 1 then (item (tree_from steps ns).0 (items_from steps (tree_from steps ns).1).0, (items_from steps (tree_from steps ns).1).1)
      else (no_items, ns)

  pub members_from : ℕ → List ℕ → Members × List ℕ
  members_from zero ns = (no_members, ns)
  members_from (suc steps) [] = (no_members, [])
  members_from (suc steps) (more ∷ ns) =
      if more == 1 then (
        member (text_from ns).0 (tree_from steps (text_from ns).1).0 (members_from steps (tree_from steps (text_from ns).1).1).0,
        (members_from steps (tree_from steps (text_from ns).1).1).1,
      )
      else (no_members, ns)

text_back : (t rest : List ℕ) → text_from (length t ∷ (t ++ rest)) ≡ (t, rest)
text_back t rest = rw (take_at t rest (length t) refl, drop_at t rest (length t) refl) refl

mutual
  tree_back : (t : Tree) (steps : ℕ) (rest : List ℕ) → length (tree_numbers t) ≤ steps → tree_from steps (tree_numbers t ++ rest) ≡ (t, rest)
  tree_back null zero rest h = absurd (omega arith)
  tree_back null (suc steps) rest h = refl
  tree_back (truth b) zero rest h = absurd (omega arith)
  tree_back (truth true) (suc steps) rest h = refl
  tree_back (truth false) (suc steps) rest h = refl
  tree_back (number t) zero rest h = absurd (omega arith)
  tree_back (number t) (suc steps) rest h = ap (λ p. (number p.0, p.1)) (text_back t rest)
  tree_back (text t) zero rest h = absurd (omega arith)
  tree_back (text t) (suc steps) rest h = ap (λ p. (text p.0, p.1)) (text_back t rest)
  tree_back (list inside) zero rest h = absurd (omega arith)
  tree_back (list inside) (suc steps) rest h = ap (λ p. (list p.0, p.1)) (items_back inside steps rest (omega arith))
  tree_back (object inside) zero rest h = absurd (omega arith)
  tree_back (object inside) (suc steps) rest h = ap (λ p. (object p.0, p.1)) (members_back inside steps rest (omega arith))

  items_back : (items : Items) (steps : ℕ) (rest : List ℕ) → length (items_numbers items) ≤ steps
      → items_from steps (items_numbers items ++ rest) ≡ (items, rest)
  items_back no_items zero rest h = absurd (omega arith)
  items_back no_items (suc steps) rest h = refl
  items_back (item t items) zero rest h = absurd (omega arith)
  items_back (item t items) (suc steps) rest h =
      let long = length-append (tree_numbers t) (items_numbers items) in
      let first = tree_back t steps (items_numbers items ++ rest) (omega (arith, long)) in
      let others = items_back items steps rest (omega (arith, long)) in
      rw (append_assoc (tree_numbers t) (items_numbers items) rest, first, others) refl

  members_back : (ms : Members) (steps : ℕ) (rest : List ℕ) → length (members_numbers ms) ≤ steps → members_from steps (members_numbers ms ++ rest) ≡ (ms, rest)
  members_back no_members zero rest h = absurd (omega arith)
  members_back no_members (suc steps) rest h = refl
  members_back (member key t inside) zero rest h = absurd (omega arith)
  members_back (member key t inside) (suc steps) rest h =
      let after = tree_numbers t ++ members_numbers inside in
      let long = length-append (tree_numbers t) (members_numbers inside) in
      let longer = length-append key after in
      let first = tree_back t steps (members_numbers inside ++ rest) (omega (arith, long, longer)) in
      let others = members_back inside steps rest (omega (arith, long, longer)) in
      rw (
        append_assoc key after rest,
        take_at key (after ++ rest) (length key) refl,
        drop_at key (after ++ rest) (length key) refl,
        append_assoc (tree_numbers t) (members_numbers inside) rest,
        first,
        others,
      ) refl

abbrev pub tree_of_numbers : List ℕ → Tree
tree_of_numbers ns = (tree_from (length ns) ns).0

pub tree_given_back : (t : Tree) → tree_of_numbers (tree_numbers t) ≡ t
tree_given_back t = ap (λ ns. (tree_from (length (tree_numbers t)) ns).0) (sym (append-nil (tree_numbers t)))
    ∙ ap (λ p. p.0) (tree_back t (length (tree_numbers t)) [] (omega arith))

-- A tree as a list of numbers from which it can be computed back. Proofs use it to compare values that contain a tree.
-- Shown by: proofs alone.
abbrev pub tree_code : Coded Tree
tree_code = code_by (List ℕ) (coded_list coded_ℕ) tree_numbers tree_of_numbers tree_given_back
