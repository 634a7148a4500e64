-- Each production of the grammar, read in both directions: what `Value` and the others say by cases on the bytes is what the
-- grammar says of a front of them. `value_spells` is for values; a list and an object are the same sequence of other elements.
use Rattle.std.proofs.Common.{◌≡◌, ℕ, suc, ◌+◌, ◌-◌, ◌≤◌, max, true, false, List, [], ◌∷◌, ◌++◌, length, refl, sym, ap, ◌∙◌, subst, inl, inr, arith}
use Rattle.std.proofs.Common.{append_assoc, length-append, codes}
use Rattle.json_text.specs.Node.{Node, null_node, truth_node, list_node, object_node, number_node, text_node, Nodes, no_nodes, node, Fields, no_fields, field}
use Rattle.json_text.specs.Node.{levels_of, levels_of_nodes, levels_of_fields}
use Rattle.json_text.specs.Grammar.{IsSpace, Padded, SpellsField, SpellsValue, SpellsItems, SpellsMoreItems, SpellsMembers, SpellsMoreMembers}
use Rattle.json_text.proofs.Following.{Byte, Space, Literal, Key, Value, Items, MoreItems, Members, MoreMembers}

-- bytes of P, and then bytes of K
pub record Front (P K : List ℕ → Type 0) (bytes : List ℕ) : Type 0 where
  pub front : List ℕ
  pub back : List ℕ
  pub joined : bytes ≡ front ++ back
  pub first : P front
  pub second : K back

parted : {P K : List ℕ → Type 0} {bytes : List ℕ} (front back : List ℕ) → bytes ≡ front ++ back → P front → K back → Front P K bytes
parted front back e p k = record { front = front; back = back; joined = e; first = p; second = k }

space_front : (K : List ℕ → Type 0) (bytes : List ℕ) → Space K bytes → Front IsSpace K bytes
space_front K [] h = parted ([]) ([]) refl tt h
space_front K (b ∷ bs) (inl h) = parted ([]) (b ∷ bs) refl tt h
space_front K (b ∷ bs) (inr h) = let r = space_front K bs h.1 in parted (b ∷ r.front) r.back (ap (λ x. b ∷ x) r.joined) (h.0, r.first) r.second

pub no_space : (K : List ℕ → Type 0) (bytes : List ℕ) → K bytes → Space K bytes
no_space K [] h = h
no_space K (b ∷ bs) h = inl h

space_from : (K : List ℕ → Type 0) (front back : List ℕ) → IsSpace front → K back → Space K (front ++ back)
space_from K [] back s h = no_space K back h
space_from K (b ∷ front) back s h = inr (s.0, space_from K front back s.1 h)

byte_back : (c : ℕ) (K : List ℕ → Type 0) (bytes : List ℕ) → Byte c K bytes → (back : List ℕ) × (bytes ≡ c ∷ back) × K back
byte_back c K [] h = absurd h
byte_back c K (b ∷ bs) h = (bs, ap (λ x. x ∷ bs) h.0, h.1)

literal_back : (word : List ℕ) (K : List ℕ → Type 0) (bytes : List ℕ) → Literal word K bytes → (back : List ℕ) × (bytes ≡ word ++ back) × K back
literal_back [] K bytes h = (bytes, refl, h)
literal_back (c ∷ cs) K [] h = absurd h
literal_back (c ∷ cs) K (b ∷ bs) h = let r = literal_back cs K bs h.1 in (r.0, ap (λ x. x ∷ bs) h.0 ∙ ap (λ x. c ∷ x) r.1, r.2)

literal_from : (word : List ℕ) (K : List ℕ → Type 0) (back : List ℕ) → K back → Literal word K (word ++ back)
literal_from [] K back h = h
literal_from (c ∷ cs) K back h = (refl, literal_from cs K back h)

module _ (size : ℕ) where
  place_after : (at : ℕ) (bytes front back : List ℕ) → at + length bytes ≡ size → bytes ≡ front ++ back → (at + length front) + length back ≡ size
  place_after at bytes front back e j = omega (arith, e, ap length j, length-append front back)

  after_byte : (at c : ℕ) (bytes back : List ℕ) → at + length bytes ≡ size → bytes ≡ c ∷ back → (at + 1) + length back ≡ size
  after_byte at c bytes back e j = omega (arith, e, ap length j)

  -- X, and then K, is V of a front with W, and then K
  pub record Reads (X : (List ℕ → Type 0) → List ℕ → Type 0) (V : ℕ → List ℕ → Type 0) (W : Type 0) : Type 1 where
    pub to : (at : ℕ) (K : List ℕ → Type 0) (bytes : List ℕ) → at + length bytes ≡ size → X K bytes → Front (λ front. V at front × W) K bytes
    pub from : (at : ℕ) (K : List ℕ → Type 0) (front back : List ℕ) → at + length (front ++ back) ≡ size → V at front → W → K back → X K (front ++ back)

  reads : {X : (List ℕ → Type 0) → List ℕ → Type 0} {V : ℕ → List ℕ → Type 0} {W : Type 0}
      → ((at : ℕ) (K : List ℕ → Type 0) (bytes : List ℕ) → at + length bytes ≡ size → X K bytes → Front (λ front. V at front × W) K bytes)
      → ((at : ℕ) (K : List ℕ → Type 0) (front back : List ℕ) → at + length (front ++ back) ≡ size → V at front → W → K back → X K (front ++ back))
      → Reads X V W
  reads f g = record { to = f; from = g }

  padded_joined : (bytes before a inside b after c : List ℕ) → bytes ≡ before ++ a → a ≡ inside ++ b → b ≡ after ++ c
      → bytes ≡ (before ++ (inside ++ after)) ++ c
  padded_joined bytes before a inside b after c e f g = e ∙ ap (λ t. before ++ t) (f ∙ ap (λ t. inside ++ t) g) ∙ simp append_assoc

  -- white space on both sides
  padded : (X : (List ℕ → Type 0) → List ℕ → Type 0) (V : ℕ → List ℕ → Type 0) (W : Type 0) → Reads X V W → Reads (λ K. Space (X (Space K))) (Padded V) W
  padded X V W x = reads (λ at K bytes e h. let s = space_front (X (Space K)) bytes h in
      let v = x.to (at + length s.front) (Space K) s.back (place_after at bytes s.front s.back e s.joined) s.second in let t = space_front K v.back v.second in
      parted (s.front ++ (v.front ++ t.front)) t.back (padded_joined bytes s.front s.back v.front v.back t.front t.back s.joined v.joined t.joined)
      ((s.front, v.front, t.front, refl, s.first, v.first.0, t.first), v.first.1) t.second) (λ at K front back e (before, inside, after, is, s, v, t) w k.
      let all : front ++ back ≡ before ++ (inside ++ (after ++ back)) = ap (λ x. x ++ back) is ∙ simp append_assoc in
      subst (Space (X (Space K))) (sym all) (space_from (X (Space K)) before (inside ++ (after ++ back)) s
      (x.from (at + length before) (Space K) inside (after ++ back) (place_after at (front ++ back) before (inside ++ (after ++ back)) e all) v w
      (space_from K after back t k))))

  -- a byte on both sides
  enclosed : (X : (List ℕ → Type 0) → List ℕ → Type 0) (V : ℕ → List ℕ → Type 0) (W : Type 0) (a c : ℕ) → Reads X V W
      → Reads (λ K. Byte a (X (Byte c K))) (λ at front. (inside : List ℕ) × (front ≡ a ∷ (inside ++ c ∷ [])) × V (at + 1) inside) W
  enclosed X V W a c x = reads (λ at K bytes e h. let b = byte_back a (X (Byte c K)) bytes h in
      let v = x.to (at + 1) (Byte c K) b.0 (after_byte at a bytes b.0 e b.1) b.2 in let d = byte_back c K v.back v.second in
      parted (a ∷ (v.front ++ c ∷ [])) d.0 (b.1 ∙ ap (λ t. a ∷ t) (v.joined ∙ ap (λ t. v.front ++ t) d.1 ∙ sym (append_assoc v.front (c ∷ []) d.0)))
      ((v.front, refl, v.first.0), v.first.1) d.2) (λ at K front back e (inside, is, v) w k.
      let all : front ++ back ≡ a ∷ (inside ++ (c ∷ back)) = ap (λ x. x ++ back) is ∙ ap (λ t. a ∷ t) (append_assoc inside (c ∷ []) back) in
      subst (Byte a (X (Byte c K))) (sym all)
      (refl, x.from (at + 1) (Byte c K) inside (c ∷ back) (after_byte at a (front ++ back) (inside ++ (c ∷ back)) e all) v w (refl, k)))

  field_at : (at : ℕ) (bytes before name gap back : List ℕ) → at + length bytes ≡ size → bytes ≡ before ++ (name ++ (gap ++ 58 ∷ back))
      → (at + length before + length name + length gap + 1) + length back ≡ size
  field_at at bytes before name gap back e j = omega (arith, e, simp length-append at (ap length j))

  -- a member: its key, its colon and its value
  module _ (X : (List ℕ → Type 0) → List ℕ → Type 0) (V : ℕ → List ℕ → Type 0) (W : Type 0) (place : ℕ) (key : List ℕ) (x : Reads X V W) where
    abbrev Member : (List ℕ → Type 0) → List ℕ → Type 0
    Member K = Space (Key size place key (Space (Byte 58 (X K))))

    member_to : (at : ℕ) (K : List ℕ → Type 0) (bytes : List ℕ) → at + length bytes ≡ size → Member K bytes
        → Front (λ front. SpellsField V at front place key × W) K bytes
    member_to at K bytes e h = let s = space_front (Key size place key (Space (Byte 58 (X K)))) bytes h in let (inside, rest, is, spelled, k) = s.second.1 in
        let name = 34 ∷ (inside ++ 34 ∷ []) in let g = space_front (Byte 58 (X K)) rest k in let c = byte_back 58 (X K) g.back g.second in
        let here : place ≡ at + length s.front = omega (arith, place_after at bytes s.front s.back e s.joined, s.second.0) in
        let all : bytes ≡ s.front ++ (name ++ (g.front ++ 58 ∷ c.0)) =
        s.joined ∙ ap (λ t. s.front ++ t) (is ∙ ap (λ t. 34 ∷ (inside ++ 34 ∷ t)) (g.joined ∙ ap (λ t. g.front ++ t) c.1)) ∙ simp append_assoc in
        let v = x.to (at + length s.front + length name + length g.front + 1) K c.0 (field_at at bytes s.front name g.front c.0 e all) c.2 in
        parted (s.front ++ (name ++ (g.front ++ 58 ∷ v.front))) v.back (all ∙ ap (λ t. s.front ++ (name ++ (g.front ++ 58 ∷ t))) v.joined ∙ simp append_assoc)
        ((s.front, name, g.front, v.front, refl, s.first, here, (inside, refl, spelled), g.first, v.first.0), v.first.1) v.second

    member_from : (at : ℕ) (K : List ℕ → Type 0) (front back : List ℕ) → at + length (front ++ back) ≡ size → SpellsField V at front place key → W → K back
        → Member K (front ++ back)
    member_from at K front back e (before, name, gap, rest, is, s, here, (inside, quoted, spelled), t, v) w k = let left = gap ++ 58 ∷ (rest ++ back) in
        let all : front ++ back ≡ before ++ (name ++ left) = ap (λ x. x ++ back) is ∙ simp append_assoc in
        let same : name ++ left ≡ 34 ∷ (inside ++ 34 ∷ left) = ap (λ n. n ++ left) quoted ∙ ap (λ t. 34 ∷ t) (append_assoc inside (34 ∷ []) left) in
        let there = field_at at (front ++ back) before name gap (rest ++ back) e all in
        let value = space_from (Byte 58 (X K)) gap (58 ∷ (rest ++ back)) t (refl, x.from _ K rest back there v w k) in
        let sum : place + length (name ++ left) ≡ size = omega (arith, here, place_after at (front ++ back) before (name ++ left) e all) in
        subst (Member K) (sym all) (space_from (Key size place key (Space (Byte 58 (X K)))) before (name ++ left) s (sum, (inside, left, same, spelled, value)))

    member : Reads Member (λ at front. SpellsField V at front place key) W
    member = record { to = member_to; from = member_from }

  -- an element and more of them
  abbrev Pair : (V U : ℕ → List ℕ → Type 0) → ℕ → List ℕ → Type 0
  Pair V U at front = (first rest : List ℕ) × (front ≡ first ++ rest) × V at first × U (at + length first) rest

  sequence : (X Y : (List ℕ → Type 0) → List ℕ → Type 0) (V U : ℕ → List ℕ → Type 0) (W Z : Type 0) → Reads X V W → Reads Y U Z
      → Reads (λ K. X (Y K)) (Pair V U) (W × Z)
  sequence X Y V U W Z x y = reads (λ at K bytes e h. let v = x.to at (Y K) bytes e h in
      let u = y.to (at + length v.front) K v.back (place_after at bytes v.front v.back e v.joined) v.second in
      parted (v.front ++ u.front) u.back (v.joined ∙ ap (λ t. v.front ++ t) u.joined ∙ sym (append_assoc v.front u.front u.back))
      ((v.front, u.front, refl, v.first.0, u.first.0), (v.first.1, u.first.1)) u.second) (λ at K front back e (first, rest, is, v, u) w k.
      let all : front ++ back ≡ first ++ (rest ++ back) = ap (λ x. x ++ back) is ∙ append_assoc first rest back in
      subst (X (Y K)) (sym all) (x.from at (Y K) first (rest ++ back) (sym (ap (λ t. at + length t) all) ∙ e) v w.0
      (y.from (at + length first) K rest back (place_after at (front ++ back) first (rest ++ back) e all) u w.1 k)))

  -- the same after a comma
  more : (X : (List ℕ → Type 0) → List ℕ → Type 0) (V U : ℕ → List ℕ → Type 0) (W : Type 0) → Reads X (Pair V U) W
      → Reads (λ K. Byte 44 (X K)) (λ at front. (first rest : List ℕ) × (front ≡ 44 ∷ (first ++ rest)) × V (at + 1) first × U (at + 1 + length first) rest) W
  more X V U W x = reads (λ at K bytes e h. let b = byte_back 44 (X K) bytes h in let v = x.to (at + 1) K b.0 (after_byte at 44 bytes b.0 e b.1) b.2 in
      let (first, rest, is, p, q) = v.first.0 in
      parted (44 ∷ v.front) v.back (b.1 ∙ ap (λ t. 44 ∷ t) v.joined) ((first, rest, ap (λ t. 44 ∷ t) is, p, q), v.first.1) v.second)
      (λ at K front back e (first, rest, is, v, u) w k. let all : front ++ back ≡ 44 ∷ ((first ++ rest) ++ back) = ap (λ x. x ++ back) is in
      subst (Byte 44 (X K)) (sym all)
      (refl, x.from (at + 1) K (first ++ rest) back (after_byte at 44 (front ++ back) ((first ++ rest) ++ back) e all) (first, rest, refl, v, u) w k))

  -- the levels of the parts are those of the whole
  levels_so : (X : (List ℕ → Type 0) → List ℕ → Type 0) (V : ℕ → List ℕ → Type 0) (W Z : Type 0) → (W → Z) → (Z → W) → Reads X V W → Reads X V Z
  levels_so X V W Z f g x = reads (λ at K bytes e h. let v = x.to at K bytes e h in
      parted v.front v.back v.joined (v.first.0, f v.first.1) v.second) (λ at K front back e v z k. x.from at K front back e v (g z) k)

  -- one level deeper
  deeper : (X : ℕ → (List ℕ → Type 0) → List ℕ → Type 0) (V : ℕ → List ℕ → Type 0) (l w : ℕ) → ((m : ℕ) → Reads (X m) V (w ≤ m))
      → Reads (λ K bytes. (m : ℕ) × (l ≡ suc m) × X m K bytes) V (suc w ≤ l)
  deeper X V l w x = reads (λ at K bytes e (m, is, h). let v = (x m).to at K bytes e h in
      parted v.front v.back v.joined (v.first.0, omega (arith, is, v.first.1)) v.second)
      (λ at K front back e v z k. (l - 1, omega (arith, z), (x (l - 1)).from at K front back e v (omega (arith, z)) k))

  literal : (word : List ℕ) (W : Type 0) → W → Reads (Literal word) (λ at front. front ≡ word) W
  literal word W w = reads (λ at K bytes e h. let (back, is, k) = literal_back word K bytes h in parted word back is (refl, w) k)
      (λ at K front back e v w k. subst (Literal word K) (sym (ap (λ x. x ++ back) v)) (literal_from word K back k))

  spaces : (W : Type 0) → W → Reads (λ K. Space K) (λ at front. IsSpace front) W
  spaces W w = reads (λ at K bytes e h. let s = space_front K bytes h in
      parted s.front s.back s.joined (s.first, w) s.second) (λ at K front back e v w k. space_from K front back v k)

  nothing : (W : Type 0) → W → Reads (λ K. K) (λ at front. front ≡ []) W
  nothing W w = reads (λ at K bytes e h. parted ([]) bytes refl (refl, w) h) (λ at K front back e v w k. subst K (sym (ap (λ x. x ++ back) v)) k)

  max_left : (a b l : ℕ) → max a b ≤ l → (a ≤ l) × (b ≤ l)
  max_left a b l h = (omega arith, omega arith)

  max_both : (a b l : ℕ) → (a ≤ l) × (b ≤ l) → max a b ≤ l
  max_both a b l (h, k) = omega arith

  abbrev Spells : Node → ℕ → List ℕ → Type 0
  Spells n at bytes = SpellsValue at bytes n

  mutual
    -- a value is spelled within l levels
    value_reads : (n : Node) (l : ℕ) → Reads (Value size n l) (Spells n) (levels_of n ≤ l)
    value_reads null_node l = literal (codes "null") (0 ≤ l) (omega arith)
    value_reads (truth_node true) l = literal (codes "true") (0 ≤ l) (omega arith)
    value_reads (truth_node false) l = literal (codes "false") (0 ≤ l) (omega arith)
    value_reads (number_node spelling) l = reads (λ at K bytes e (back, is, number, k). parted spelling back is ((refl, number), omega arith) k)
        (λ at K front back e v w k. (back, ap (λ x. x ++ back) v.0, v.1, k))
    value_reads (text_node t) l = reads (λ at K bytes e (inside, back, is, spelled, k).
        parted (34 ∷ (inside ++ 34 ∷ [])) back (is ∙ ap (λ t. 34 ∷ t) (sym (append_assoc inside (34 ∷ []) back))) ((inside, refl, spelled), omega arith) k)
        (λ at K front back e
        (inside, is, spelled) w k. (inside, back, ap (λ x. x ++ back) is ∙ ap (λ t. 34 ∷ t) (append_assoc inside (34 ∷ []) back), spelled, k))
    value_reads (list_node ns) l = deeper (λ m K. Byte 91 (Space (Items size ns m (Byte 93 K)))) (Spells (list_node ns)) l (levels_of_nodes ns)
        (λ m. enclosed (λ K. Space (Items size ns m K)) (λ at bytes. SpellsItems at bytes ns) (levels_of_nodes ns ≤ m) 91 93 (items_read ns m))
    value_reads (object_node fs) l = deeper (λ m K. Byte 123 (Space (Members size fs m (Byte 125 K)))) (Spells (object_node fs)) l (levels_of_fields fs)
        (λ m. enclosed (λ K. Space (Members size fs m K)) (λ at bytes. SpellsMembers at bytes fs) (levels_of_fields fs ≤ m) 123 125 (members_read fs m))

    items_read : (ns : Nodes) (l : ℕ) → Reads (λ K. Space (Items size ns l K)) (λ at bytes. SpellsItems at bytes ns) (levels_of_nodes ns ≤ l)
    items_read no_nodes l = spaces (levels_of_nodes no_nodes ≤ l) (omega arith)
    items_read (node n ns) l = levels_so _ _ _ _ (max_both _ _ l) (max_left _ _ l)
        (sequence _ _ _ _ _ _ (padded _ _ _ (value_reads n l)) (more_items_read ns l))

    more_items_read : (ns : Nodes) (l : ℕ) → Reads (λ K. MoreItems size ns l K) (λ at bytes. SpellsMoreItems at bytes ns) (levels_of_nodes ns ≤ l)
    more_items_read no_nodes l = nothing (levels_of_nodes no_nodes ≤ l) (omega arith)
    more_items_read (node n ns) l = levels_so _ _ _ _ (max_both _ _ l) (max_left _ _ l)
        (more _ (Padded (Spells n)) (λ at bytes. SpellsMoreItems at bytes ns) _ (sequence _ _ _ _ _ _ (padded _ _ _ (value_reads n l)) (more_items_read ns l)))

    members_read : (fs : Fields) (l : ℕ) → Reads (λ K. Space (Members size fs l K)) (λ at bytes. SpellsMembers at bytes fs) (levels_of_fields fs ≤ l)
    members_read no_fields l = spaces (levels_of_fields no_fields ≤ l) (omega arith)
    members_read (field place key n fs) l = levels_so _ _ _ _ (max_both _ _ l) (max_left _ _ l)
        (sequence _ _ _ _ _ _ (member _ _ _ place key (padded _ _ _ (value_reads n l))) (more_members_read fs l))

    more_members_read : (fs : Fields) (l : ℕ) → Reads (λ K. MoreMembers size fs l K) (λ at bytes. SpellsMoreMembers at bytes fs) (levels_of_fields fs ≤ l)
    more_members_read no_fields l = nothing (levels_of_fields no_fields ≤ l) (omega arith)
    more_members_read (field place key n fs) l = levels_so _ _ _ _ (max_both _ _ l) (max_left _ _ l)
        (more _ (λ at front. SpellsField (Padded (Spells n)) at front place key) (λ at bytes. SpellsMoreMembers at bytes fs) _
        (sequence _ _ _ _ _ _ (member _ _ _ place key (padded _ _ _ (value_reads n l))) (more_members_read fs l)))

  -- white space, a value, white space
  pub text_reads : (n : Node) (l : ℕ) → Reads (λ K. Space (Value size n l (Space K))) (Padded (Spells n)) (levels_of n ≤ l)
  text_reads n l = padded _ _ _ (value_reads n l)
