-- What may still come: the bytes that take a state to the end of a text with a node, by cases on the bytes. `Following` says it of each state.
use Rattle.std.proofs.Common.{◌≡◌, ℕ, suc, ◌+◌, ◌-◌, true, false, List, [], ◌∷◌, ◌++◌, length, Some, ◌⊎◌, codes}
use Rattle.json_text.specs.{Number.IsNumber, Characters.SpellsCharacters, Grammar.is_space}
use Rattle.json_text.specs.Node.{Node, null_node, truth_node, list_node, object_node, number_node, text_node, Nodes, no_nodes, node, Fields, no_fields, field}
use Rattle.json_text.specs.Reading.{Member, Waiting, in_list, in_object, then_nodes, then_fields, State, value, first_item, after_item, first_key, next_key}
use Rattle.json_text.specs.Reading.{colon, after_member, whole, word, digits, string, Hole, in_value, in_key, StringPart, StringStep, goes_on, ends, stops}
use Rattle.json_text.specs.Reading.{string_step, NumberPart, number_step, may_end}

-- one byte, and then K
abbrev pub Byte : ℕ → (List ℕ → Type 0) → List ℕ → Type 0
Byte c K [] = ⊥
Byte c K (b ∷ bs) = (b ≡ c) × K bs

-- white space, and then K
abbrev pub Space : (List ℕ → Type 0) → List ℕ → Type 0
Space K [] = K []
Space K (b ∷ bs) = K (b ∷ bs) ⊎ ((is_space b ≡ true) × Space K bs)

-- these bytes, and then K
abbrev pub Literal : List ℕ → (List ℕ → Type 0) → List ℕ → Type 0
Literal [] K bytes = K bytes
Literal (c ∷ cs) K bytes = Byte c (Literal cs K) bytes

-- the rest of a number with this spelling so far, and then K of the whole spelling
abbrev pub Digits : NumberPart → List ℕ → (List ℕ → List ℕ → Type 0) → List ℕ → Type 0
Digits part spelling K [] = (may_end part ≡ true) × K spelling []
Digits part spelling K (b ∷ bs) = ((may_end part ≡ true) × K spelling (b ∷ bs))
    ⊎ ((p : NumberPart) × (number_step part b ≡ Some p) × Digits p (spelling ++ b ∷ []) K bs)

abbrev pub StringOn : StringStep → (StringPart → List ℕ → Type 0) → Type 0 → Type 0
StringOn (goes_on p t) within end = within p t
StringOn ends within end = end
StringOn stops within end = ⊥

-- the rest of a string with this text so far, its quotation mark, and then K of the whole text
abbrev pub Characters : StringPart → List ℕ → (List ℕ → List ℕ → Type 0) → List ℕ → Type 0
Characters part text K [] = ⊥
Characters part text K (b ∷ bs) = StringOn (string_step part text b) (λ p t. Characters p t K bs) (K text bs)

-- a whole string, and then K
abbrev pub Quoted : List ℕ → (List ℕ → Type 0) → List ℕ → Type 0
Quoted text K bytes = (inside back : List ℕ) × (bytes ≡ 34 ∷ (inside ++ 34 ∷ back)) × SpellsCharacters inside text × K back

-- what is still to come in each list and object that waits
abbrev pub Future : List Waiting → Type 0
Future [] = Unit {0}
Future (in_list ns ∷ outer) = Nodes × Future outer
Future (in_object ms place key ∷ outer) = Fields × Future outer

-- size: the number of bytes of the whole text, by which a place is known from the bytes that are left
module _ (size : ℕ) where
  abbrev pub Key : ℕ → List ℕ → (List ℕ → Type 0) → List ℕ → Type 0
  Key place key K bytes = (place + length bytes ≡ size) × Quoted key K bytes

  -- a node within l levels, and then K
  abbrev mutual
    pub Value : Node → ℕ → (List ℕ → Type 0) → List ℕ → Type 0
    Value null_node l K bytes = Literal (codes "null") K bytes
    Value (truth_node true) l K bytes = Literal (codes "true") K bytes
    Value (truth_node false) l K bytes = Literal (codes "false") K bytes
    Value (number_node spelling) l K bytes = (back : List ℕ) × (bytes ≡ spelling ++ back) × IsNumber spelling × K back
    Value (text_node t) l K bytes = Quoted t K bytes
    Value (list_node ns) l K bytes = (m : ℕ) × (l ≡ suc m) × Byte 91 (Space (Items ns m (Byte 93 K))) bytes
    Value (object_node fs) l K bytes = (m : ℕ) × (l ≡ suc m) × Byte 123 (Space (Members fs m (Byte 125 K))) bytes

    pub Items : Nodes → ℕ → (List ℕ → Type 0) → List ℕ → Type 0
    Items no_nodes l K bytes = K bytes
    Items (node n ns) l K bytes = Value n l (Space (MoreItems ns l K)) bytes

    pub MoreItems : Nodes → ℕ → (List ℕ → Type 0) → List ℕ → Type 0
    MoreItems no_nodes l K bytes = K bytes
    MoreItems (node n ns) l K bytes = Byte 44 (Space (Value n l (Space (MoreItems ns l K)))) bytes

    pub Members : Fields → ℕ → (List ℕ → Type 0) → List ℕ → Type 0
    Members no_fields l K bytes = K bytes
    Members (field place key n fs) l K bytes = Key place key (Space (Byte 58 (Space (Value n l (Space (MoreMembers fs l K)))))) bytes

    pub MoreMembers : Fields → ℕ → (List ℕ → Type 0) → List ℕ → Type 0
    MoreMembers no_fields l K bytes = K bytes
    MoreMembers (field place key n fs) l K bytes = Byte 44 (Space (Key place key (Space (Byte 58 (Space (Value n l (Space (MoreMembers fs l K)))))))) bytes

  module _ (levels : ℕ) (whole_node : Node) where
    -- how many levels a value inside these may have
    abbrev pub left : List Waiting → ℕ
    left outer = levels - length outer

    -- after a value that is whole
    abbrev pub After : (outer : List Waiting) → Future outer → Node → List ℕ → Type 0
    After [] future n bytes = (bytes ≡ []) × (whole_node ≡ n)
    After (in_list ns ∷ outer) future n bytes =
        MoreItems future.0 (levels - suc (length outer)) (Byte 93 (Space (After outer future.1 (list_node (then_nodes (ns ++ n ∷ []) future.0))))) bytes
    After (in_object ms place key ∷ outer) future n bytes = MoreMembers future.0 (levels - suc (length outer))
        (Byte 125 (Space (After outer future.1 (object_node (then_fields (ms ++ record { place = place; key = key; of = n } ∷ []) future.0))))) bytes

    abbrev pub Ended : List Waiting → Node → List ℕ → Type 0
    Ended outer n bytes = (future : Future outer) × Space (After outer future n) bytes

    abbrev pub Colon : List Member → ℕ → List Waiting → List ℕ → List ℕ → Type 0
    Colon ms place outer key bytes = (n : Node) × (future : Future (in_object ms place key ∷ outer))
        × Space (Byte 58 (Space (Value n (levels - suc (length outer)) (Space (After (in_object ms place key ∷ outer) future n))))) bytes

    abbrev pub Filled : Hole → List ℕ → List ℕ → Type 0
    Filled (in_value outer) t bytes = Ended outer (text_node t) bytes
    Filled (in_key place ms outer) key bytes = Colon ms place outer key bytes

    abbrev pub Following : State → List ℕ → Type 0
    Following (value outer) bytes = (n : Node) × (future : Future outer) × Space (Value n (left outer) (Space (After outer future n))) bytes
    Following (first_item outer) bytes = (ns : Nodes) × (future : Future outer)
        × Space (Items ns (levels - suc (length outer)) (Byte 93 (Space (After outer future (list_node ns))))) bytes
    Following (after_item ns outer) bytes = (future : Nodes × Future outer)
        × Space (MoreItems future.0 (levels - suc (length outer)) (Byte 93 (Space (After outer future.1 (list_node (then_nodes ns future.0)))))) bytes
    Following (first_key outer) bytes = (fs : Fields) × (future : Future outer)
        × Space (Members fs (levels - suc (length outer)) (Byte 125 (Space (After outer future (object_node fs))))) bytes
    Following (next_key ms outer) bytes = (place : ℕ) × (key : List ℕ) × (n : Node) × (future : Future (in_object ms place key ∷ outer))
        × Space (Key place key (Space (Byte 58 (Space (Value n (levels - suc (length outer)) (Space (After (in_object ms place key ∷ outer) future n)))))))
        bytes
    Following (colon ms place key outer) bytes = Colon ms place outer key bytes
    Following (after_member ms outer) bytes = (future : Fields × Future outer)
        × Space (MoreMembers future.0 (levels - suc (length outer)) (Byte 125 (Space (After outer future.1 (object_node (then_fields ms future.0)))))) bytes
    Following (whole n) bytes = Ended [] n bytes
    Following (word c rest n outer) bytes = (future : Future outer) × Literal (c ∷ rest) (Space (After outer future n)) bytes
    Following (digits part spelling outer) bytes = Digits part spelling (λ s. Ended outer (number_node s)) bytes
    Following (string part text hole) bytes = Characters part text (Filled hole) bytes
