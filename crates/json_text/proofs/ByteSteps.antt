-- One byte of a text, read in both directions: `follows_step` leads from what follows the byte to what follows with it, and
-- `step_follows` back. At the end of the bytes: `follows_end` and `end_follows`.
use Rattle.std.proofs.Common.{◌≡◌, ℕ, suc, ◌+◌, ◌-◌, ◌<◌, true, false, List, [], ◌∷◌, ◌++◌, length, Option, Some, None, Result, Ok, Err, refl, sym, ap, ◌∙◌}
use Rattle.std.proofs.Common.{subst, inl, inr, arith, eqb-true, ltb-true, lt-ltb, eq-eqb, ◌==◌, ◌||◌, Bool, cond, nat_lt}
use Rattle.std.proofs.{lemmas.Bool.cond-true, lemmas.Bool.cond-false, lemmas.Bool.or_left, lemmas.Bool.Decides.nat_tests}
use Rattle.json_text.proofs.Following.{Byte, Space, Literal, Characters, StringOn, Future, Key, Value, Items, MoreItems, Members, MoreMembers, After, Ended}
use Rattle.json_text.proofs.NumberReads.{choose, digits_spelled, digits_from, Accepts, Starts, with_minus, with_zero, with_digit, starts, minus_number}
use Rattle.json_text.proofs.{Following.Colon, Following.Filled, Following.Following, NumberReads.zero_number, NumberReads.int_number}
use Rattle.json_text.proofs.CharacterReads.{characters_spelled, characters_from}
use Rattle.json_text.specs.Reading.{Stop, Member, Waiting, in_list, in_object, then_nodes, then_fields, nodes_of, fields_of, State, value, first_item}
use Rattle.json_text.specs.Reading.{after_item, first_key, next_key, colon, after_member, whole, word, digits, string, Hole, in_value, in_key, fill, StringStep}
use Rattle.json_text.specs.Reading.{goes_on, ends, stops, string_step, string_goes, between, NumberPart, number_step, may_end, minus, zero_int, int, point}
use Rattle.json_text.specs.Reading.{fraction, exponent, exponent_sign, exponent_digits, put, opened, value_step, word_step, after_step, digits_step, step}
use Rattle.json_text.specs.Reading.{end_of}
use Rattle.json_text.specs.Node.{Node, null_node, truth_node, list_node, object_node, number_node, text_node, Nodes, no_nodes, node, Fields, no_fields, field}
use Rattle.json_text.specs.{Number.IsNumber, Number.is_digit_above_zero, Grammar.is_space}

heads : (b c : ℕ) (bs cs : List ℕ) → b ∷ bs ≡ c ∷ cs → (b ≡ c) × (bs ≡ cs)
heads b c bs cs e = (cc, cc)

then_node : (ns : List Node) (n : Node) (xs : Nodes) → then_nodes (ns ++ n ∷ []) xs ≡ then_nodes ns (node n xs)
then_node [] n xs = refl
then_node (m ∷ ns) n xs = ap (λ x. node m x) (then_node ns n xs)

then_field : (ms : List Member) (place : ℕ) (key : List ℕ) (n : Node) (xs : Fields)
    → then_fields (ms ++ record { place = place; key = key; of = n } ∷ []) xs ≡ then_fields ms (field place key n xs)
then_field [] place key n xs = refl
then_field (m ∷ ms) place key n xs = ap (λ x. field m.place m.key m.of x) (then_field ms place key n xs)

-- a byte after a value, and that no number goes on with
abbrev is_end : ℕ → Bool
is_end b = is_space b || ((b == 44) || ((b == 93) || (b == 125)))

no_digit : (part : NumberPart) (b : ℕ) → is_end b ≡ true → number_step part b ≡ None
no_digit minus b h = grind (arith, nat_tests)
no_digit zero_int b h = grind (arith, nat_tests)
no_digit int b h = grind (arith, nat_tests)
no_digit point b h = grind (arith, nat_tests)
no_digit fraction b h = grind (arith, nat_tests)
no_digit exponent b h = grind (arith, nat_tests)
no_digit exponent_sign b h = grind (arith, nat_tests)
no_digit exponent_digits b h = grind (arith, nat_tests)

digit_tests : (b : ℕ) → is_digit_above_zero b ≡ true → (is_space b ≡ false) × ((b == 93) ≡ false)
digit_tests b d = (grind (arith, nat_tests), grind (arith, nat_tests))

digit_value : (levels : ℕ) (outer : List Waiting) (b : ℕ) → is_digit_above_zero b ≡ true → value_step levels outer b ≡ Ok (digits int (b ∷ []) outer)
digit_value levels outer b d = grind (arith, nat_tests)

module _ (size levels : ℕ) (r : Node) where
  abbrev Follows : State → List ℕ → Type 0
  Follows = Following size levels r

  abbrev Done : List Waiting → Node → List ℕ → Type 0
  Done = Ended size levels r

  abbrev Waits : (outer : List Waiting) → Future outer → Node → List ℕ → Type 0
  Waits = After size levels r

  -- what follows a byte that does this
  abbrev pub On : List ℕ → Result State Stop → Type 0
  On bs (Ok next) = Follows next bs
  On bs (Err why) = ⊥

  on_if : {P : Type 0} (v : Bool) (bs : List ℕ) (x y : Result State Stop) → On bs (cond v x y) → (v ≡ true → On bs x → P) → (v ≡ false → On bs y → P) → P
  on_if true bs x y h f g = f refl h
  on_if false bs x y h f g = g refl h

  yes : (bs : List ℕ) (v : Bool) (x y : Result State Stop) → v ≡ true → On bs x → On bs (cond v x y)
  yes bs v x y t h = subst (On bs) (sym (cond-true v x y t)) h

  other : (bs : List ℕ) (v : Bool) (x y : Result State Stop) → v ≡ false → On bs y → On bs (cond v x y)
  other bs v x y t h = subst (On bs) (sym (cond-false v x y t)) h

  at_byte : (bs : List ℕ) (f : ℕ → Result State Stop) (b c : ℕ) → b ≡ c → On bs (f c) → On bs (f b)
  at_byte bs f b c e h = subst (λ b. On bs (f b)) (sym e) h

  -- a value is whole: what waits for it goes on
  pub put_same : (n : Node) (outer : List Waiting) (bytes : List ℕ)
      → (Follows (put n outer) bytes → Done outer n bytes) × (Done outer n bytes → Follows (put n outer) bytes)
  put_same n [] bytes = (λ h. h, λ h. h)
  put_same n (in_list ns ∷ outer) bytes = (λ h. h, λ h. h)
  put_same n (in_object ms place key ∷ outer) bytes = (λ h. h, λ h. h)

  -- what a comma leads to, where all is the whole list or object
  abbrev NextItem : (outer : List Waiting) → Node → Nodes × Future outer → Nodes → List ℕ → Type 0
  NextItem outer n future all = let l = levels - suc (length outer) in
      Space (Value size n l (Space (MoreItems size future.0 l (Byte 93 (Space (Waits outer future.1 (list_node all)))))))

  abbrev NextMember : (outer : List Waiting) → ℕ → List ℕ → Node → Fields × Future outer → Fields → List ℕ → Type 0
  NextMember outer place key n future all = let l = levels - suc (length outer) in Space (Key size place key
      (Space (Byte 58 (Space (Value size n l (Space (MoreMembers size future.0 l (Byte 125 (Space (Waits outer future.1 (object_node all)))))))))))

  -- from what follows a byte to what follows with it
  abbrev ValueFollows : List Waiting → List ℕ → Type 0
  ValueFollows outer bytes = (n : Node) × (future : Future outer) × Value size n (levels - length outer) (Space (Waits outer future n)) bytes

  string_value : (outer : List Waiting) (b : ℕ) (bs : List ℕ) → b ≡ 34 → Follows (string between [] (in_value outer)) bs → ValueFollows outer (b ∷ bs)
  string_value outer b bs e h = let (inside, t, back, is, spelled, (future, k)) = characters_spelled (λ t. Done outer (text_node t)) bs h in
      (text_node t, future, (inside, back, ap (λ c. c ∷ bs) e ∙ ap (λ t. 34 ∷ t) is, spelled, k))

  number_value : (part : NumberPart) (outer : List Waiting) (b c : ℕ) (bs : List ℕ) → b ≡ c → ((t : List ℕ) → Accepts part t → IsNumber (c ∷ t))
      → Follows (digits part (b ∷ []) outer) bs → ValueFollows outer (b ∷ bs)
  number_value part outer b c bs is f h = let (tail, back, e, accepts, (future, k)) = digits_spelled part (b ∷ []) (λ s. Done outer (number_node s)) bs h in
      (number_node (b ∷ tail), future, (back, ap (λ t. b ∷ t) e, subst (λ c. IsNumber (c ∷ tail)) (sym is) (f tail accepts), k))

  list_value : (outer : List Waiting) (b : ℕ) (bs : List ℕ) → b ≡ 91 → On bs (opened levels outer (first_item outer)) → ValueFollows outer (b ∷ bs)
  list_value outer b bs e h = on_if (nat_lt (length outer) levels) bs _ _ h (λ t (ns, future, i). let deep : length outer < levels = ltb-true _ _ t in
      (list_node ns, future, (levels - suc (length outer), omega arith, (e, i)))) (λ _ h. absurd h)

  object_value : (outer : List Waiting) (b : ℕ) (bs : List ℕ) → b ≡ 123 → On bs (opened levels outer (first_key outer)) → ValueFollows outer (b ∷ bs)
  object_value outer b bs e h = on_if (nat_lt (length outer) levels) bs _ _ h (λ t (fs, future, i). let deep : length outer < levels = ltb-true _ _ t in
      (object_node fs, future, (levels - suc (length outer), omega arith, (e, i)))) (λ _ h. absurd h)

  value_follows : (outer : List Waiting) (b : ℕ) (bs : List ℕ) → On bs (value_step levels outer b) → ValueFollows outer (b ∷ bs)
  value_follows outer b bs h = on_if (b == 34) bs _ _ h (λ t k. string_value outer b bs (eqb-true b 34 t) k) (λ _ h.
      on_if (b == 91) bs _ _ h (λ t k. list_value outer b bs (eqb-true b 91 t) k) (λ _ h.
      on_if (b == 123) bs _ _ h (λ t k. object_value outer b bs (eqb-true b 123 t) k) (λ _ h.
      on_if (b == 45) bs _ _ h (λ t k. number_value minus outer b 45 bs (eqb-true b 45 t) (λ a x. minus_number a x) k) (λ _ h.
      on_if (b == 48) bs _ _ h (λ t k. number_value zero_int outer b 48 bs (eqb-true b 48 t) (λ a x. zero_number a x) k) (λ _ h.
      on_if (is_digit_above_zero b) bs _ _ h (λ t k. number_value int outer b b bs refl (λ a x. int_number b a t x) k) (λ _ h.
      on_if (b == 110) bs _ _ h (λ t (future, k). (null_node, future, (eqb-true b 110 t, k))) (λ _ h.
      on_if (b == 116) bs _ _ h (λ t (future, k). (truth_node true, future, (eqb-true b 116 t, k))) (λ _ h.
      on_if (b == 102) bs _ _ h (λ t (future, k). (truth_node false, future, (eqb-true b 102 t, k))) (λ _ h. absurd h)))))))))

  item_follows : (ns : List Node) (outer : List Waiting) (b : ℕ) (bs : List ℕ) → On bs (after_step (after_item ns outer) b)
      → Follows (after_item ns outer) (b ∷ bs)
  item_follows ns outer b bs h = on_if (is_space b) bs _ _ h (λ t (future, k). (future, inr (t, k))) (λ _ h.
      on_if (b == 44) bs _ _ h (λ t (n, future, k). let same = subst (λ all. NextItem outer n future all bs) (then_node ns n future.0) k in
      ((node n future.0, future.1), inl (eqb-true b 44 t, same))) (λ _ h.
      on_if (b == 93) bs _ _ h (λ t h. let (future, k) = (put_same (list_node (nodes_of ns)) outer bs).0 h in ((no_nodes, future), inl (eqb-true b 93 t, k)))
      (λ _ h. absurd h)))

  member_follows : (ms : List Member) (outer : List Waiting) (b : ℕ) (bs : List ℕ) → On bs (after_step (after_member ms outer) b)
      → Follows (after_member ms outer) (b ∷ bs)
  member_follows ms outer b bs h = on_if (is_space b) bs _ _ h (λ t (future, k). (future, inr (t, k))) (λ _ h.
      on_if (b == 44) bs _ _ h (λ t (place, key, n, future, k).
      let same = subst (λ all. NextMember outer place key n future all bs) (then_field ms place key n future.0) k in
      ((field place key n future.0, future.1), inl (eqb-true b 44 t, same))) (λ _ h.
      on_if (b == 125) bs _ _ h (λ t h. let (future, k) = (put_same (object_node (fields_of ms)) outer bs).0 h in
      ((no_fields, future), inl (eqb-true b 125 t, k))) (λ _ h. absurd h)))

  put_step_follows : (n : Node) (outer : List Waiting) (b : ℕ) (bs : List ℕ) → On bs (after_step (put n outer) b) → Done outer n (b ∷ bs)
  put_step_follows n [] b bs h = on_if (is_space b) bs _ _ h (λ t (future, k). (future, inr (t, k))) (λ _ h. absurd h)
  put_step_follows n (in_list ns ∷ outer) b bs h = item_follows (ns ++ n ∷ []) outer b bs h
  put_step_follows n (in_object ms place key ∷ outer) b bs h = member_follows (ms ++ record { place = place; key = key; of = n } ∷ []) outer b bs h

  -- a key's quotation mark
  key_follows : (ms : List Member) (outer : List Waiting) (at b : ℕ) (bs : List ℕ) → at + suc (length bs) ≡ size → (b == 34) ≡ true
      → Follows (string between [] (in_key at ms outer)) bs → (key : List ℕ) × (n : Node) × (future : Future (in_object ms at key ∷ outer)) × Key size at key
      (Space (Byte 58 (Space (Value size n (levels - suc (length outer)) (Space (Waits (in_object ms at key ∷ outer) future n)))))) (b ∷ bs)
  key_follows ms outer at b bs s t h = let (inside, key, back, is, spelled, (n, future, k)) = characters_spelled (Colon size levels r ms at outer) bs h in
      (key, n, future, (s, (inside, back, ap (λ c. c ∷ bs) (eqb-true b 34 t) ∙ ap (λ t. 34 ∷ t) is, spelled, k)))

  word_same : (c : ℕ) (rest : List ℕ) (n : Node) (outer : List Waiting) (bs : List ℕ)
      → (Follows (word_step c rest n outer) bs → (future : Future outer) × Literal rest (Space (Waits outer future n)) bs)
      × ((future : Future outer) → Literal rest (Space (Waits outer future n)) bs → Follows (word_step c rest n outer) bs)
  word_same c [] n outer bs = ((put_same n outer bs).0, λ future h. (put_same n outer bs).1 (future, h))
  word_same c (d ∷ rest) n outer bs = (λ h. h, λ future h. (future, h))

  digits_follow : (o : Option NumberPart) (part : NumberPart) (spelling : List ℕ) (outer : List Waiting) (b : ℕ) (bs : List ℕ)
      → number_step part b ≡ o → On bs (digits_step o part spelling outer b) → Follows (digits part spelling outer) (b ∷ bs)
  digits_follow (Some p) part spelling outer b bs o h = inr (p, o, h)
  digits_follow None part spelling outer b bs o h =
      on_if (may_end part) bs _ _ h (λ t h. inl (t, put_step_follows (number_node spelling) outer b bs h)) (λ _ h. absurd h)

  fill_same : (hole : Hole) (text bs : List ℕ) → (Follows (fill hole text) bs → Filled size levels r hole text bs)
      × (Filled size levels r hole text bs → Follows (fill hole text) bs)
  fill_same (in_value outer) text bs = put_same (text_node text) outer bs
  fill_same (in_key place ms outer) text bs = (λ h. h, λ h. h)

  string_follows : (hole : Hole) (text bs : List ℕ) (s : StringStep) → On bs (string_goes s (λ p t. string p t hole) (fill hole text))
      → StringOn s (λ p t. Characters p t (Filled size levels r hole) bs) (Filled size levels r hole text bs)
  string_follows hole text bs (goes_on p t) h = h
  string_follows hole text bs ends h = (fill_same hole text bs).0 h
  string_follows hole text bs stops h = h

  pub follows_step : (state : State) (at b : ℕ) (bs : List ℕ) → at + suc (length bs) ≡ size → On bs (step levels at state b) → Follows state (b ∷ bs)
  follows_step (value outer) at b bs s h = on_if (is_space b) bs _ _ h (λ t (n, future, k). (n, future, inr (t, k)))
      (λ _ h. let (n, future, k) = value_follows outer b bs h in (n, future, inl k))
  follows_step (first_item outer) at b bs s h = on_if (is_space b) bs _ _ h (λ t (ns, future, k). (ns, future, inr (t, k))) (λ _ h.
      on_if (b == 93) bs _ _ h (λ t h. let (future, k) = (put_same (list_node no_nodes) outer bs).0 h in (no_nodes, future, inl (eqb-true b 93 t, k))) (λ _ h.
      let (n, future, k) = value_follows (in_list [] ∷ outer) b bs h in (node n future.0, future.1, inl k)))
  follows_step (after_item ns outer) at b bs s h = item_follows ns outer b bs h
  follows_step (first_key outer) at b bs s h = on_if (is_space b) bs _ _ h (λ t (fs, future, k). (fs, future, inr (t, k))) (λ _ h.
      on_if (b == 34) bs _ _ h (λ t h. let (key, n, future, k) = key_follows [] outer at b bs s t h in (field at key n future.0, future.1, inl k)) (λ _ h.
      on_if (b == 125) bs _ _ h (λ t h. let (future, k) = (put_same (object_node no_fields) outer bs).0 h in (no_fields, future, inl (eqb-true b 125 t, k)))
      (λ _ h. absurd h)))
  follows_step (next_key ms outer) at b bs s h = on_if (is_space b) bs _ _ h (λ t (place, key, n, future, k). (place, key, n, future, inr (t, k))) (λ _ h.
      on_if (b == 34) bs _ _ h (λ t h. let (key, n, future, k) = key_follows ms outer at b bs s t h in (at, key, n, future, inl k)) (λ _ h. absurd h))
  follows_step (colon ms place key outer) at b bs s h = on_if (is_space b) bs _ _ h (λ t (n, future, k). (n, future, inr (t, k))) (λ _ h.
      on_if (b == 58) bs _ _ h (λ t (n, future, k). (n, future, inl (eqb-true b 58 t, k))) (λ _ h. absurd h))
  follows_step (after_member ms outer) at b bs s h = member_follows ms outer b bs h
  follows_step (whole n) at b bs s h = on_if (is_space b) bs _ _ h (λ t (future, k). (future, inr (t, k))) (λ _ h. absurd h)
  follows_step (word c rest n outer) at b bs s h =
      on_if (b == c) bs _ _ h (λ t h. let (future, k) = (word_same c rest n outer bs).0 h in (future, (eqb-true b c t, k))) (λ _ h. absurd h)
  follows_step (digits part spelling outer) at b bs s h = digits_follow (number_step part b) part spelling outer b bs refl h
  follows_step (string part text hole) at b bs s h = string_follows hole text bs (string_step part text b) h

  -- the same back
  abbrev ValueGoes : List Waiting → ℕ → List ℕ → Type 0
  ValueGoes outer b bs = (is_space b ≡ false) × ((b == 93) ≡ false) × On bs (value_step levels outer b)

  value_at : (outer : List Waiting) (b c : ℕ) (bs : List ℕ) → b ≡ c → is_space c ≡ false → (c == 93) ≡ false → On bs (value_step levels outer c)
      → ValueGoes outer b bs
  value_at outer b c bs e s t g = (ap is_space e ∙ s, ap (λ x. x == 93) e ∙ t, at_byte bs (value_step levels outer) b c e g)

  number_goes : (outer : List Waiting) (part : NumberPart) (b : ℕ) (tail back bs : List ℕ) (future : Future outer) → bs ≡ tail ++ back → Accepts part tail
      → Space (Waits outer future (number_node (b ∷ tail))) back → Follows (digits part (b ∷ []) outer) bs
  number_goes outer part b tail back bs future e a k = subst (λ bs. Follows (digits part (b ∷ []) outer) bs) (sym e)
      (digits_from part (b ∷ []) (λ s. Done outer (number_node s)) tail back a (future, k))

  numbers_go : (outer : List Waiting) (spelling : List ℕ) (b : ℕ) (bs back : List ℕ) (future : Future outer) → Starts spelling → b ∷ bs ≡ spelling ++ back
      → Space (Waits outer future (number_node spelling)) back → ValueGoes outer b bs
  numbers_go outer _ b bs back future (with_minus t a) e k = let (f, g) = heads b 45 bs (t ++ back) e in
      value_at outer b 45 bs f refl refl (number_goes outer minus 45 t back bs future g a k)
  numbers_go outer _ b bs back future (with_zero t a) e k = let (f, g) = heads b 48 bs (t ++ back) e in
      value_at outer b 48 bs f refl refl (number_goes outer zero_int 48 t back bs future g a k)
  numbers_go outer _ b bs back future (with_digit c t d a) e k = let (f, g) = heads b c bs (t ++ back) e in let (s, n) = digit_tests c d in
      value_at outer b c bs f s n (subst (On bs) (sym (digit_value levels outer c d)) (number_goes outer int c t back bs future g a k))

  opens : (outer : List Waiting) (s : State) (m : ℕ) → levels - length outer ≡ suc m → (opened levels outer s ≡ Ok s) × (m ≡ levels - suc (length outer))
  opens outer s m e = (cond-true _ _ _ (lt-ltb (length outer) levels (omega (arith, e))), omega (arith, e))

  value_goes : (n : Node) (outer : List Waiting) (future : Future outer) (b : ℕ) (bs : List ℕ)
      → Value size n (levels - length outer) (Space (Waits outer future n)) (b ∷ bs) → ValueGoes outer b bs
  value_goes null_node outer future b bs h = value_at outer b 110 bs h.0 refl refl (future, h.1)
  value_goes (truth_node true) outer future b bs h = value_at outer b 116 bs h.0 refl refl (future, h.1)
  value_goes (truth_node false) outer future b bs h = value_at outer b 102 bs h.0 refl refl (future, h.1)
  value_goes (number_node spelling) outer future b bs (back, is, number, k) = numbers_go outer spelling b bs back future (starts spelling number) is k
  value_goes (text_node t) outer future b bs (inside, back, is, spelled, k) = let (f, g) = heads b 34 bs (inside ++ 34 ∷ back) is in
      value_at outer b 34 bs f refl refl (subst (λ bs. Follows (string between [] (in_value outer)) bs) (sym g)
      (characters_from (λ t. Done outer (text_node t)) [] back spelled (future, k)))
  value_goes (list_node ns) outer future b bs (m, e, (f, k)) = let (o, same) = opens outer (first_item outer) m e in
      value_at outer b 91 bs f refl refl (subst (On bs) (sym o)
      (ns, future, subst (λ l. Space (Items size ns l (Byte 93 (Space (Waits outer future (list_node ns))))) bs) same k))
  value_goes (object_node fs) outer future b bs (m, e, (f, k)) = let (o, same) = opens outer (first_key outer) m e in
      value_at outer b 123 bs f refl refl (subst (On bs) (sym o)
      (fs, future, subst (λ l. Space (Members size fs l (Byte 125 (Space (Waits outer future (object_node fs))))) bs) same k))

  key_goes : (ms : List Member) (outer : List Waiting) (at place b : ℕ) (key bs : List ℕ) (n : Node) (future : Future (in_object ms place key ∷ outer))
      → at + suc (length bs) ≡ size
      → Key size place key (Space (Byte 58 (Space (Value size n (levels - suc (length outer)) (Space (Waits (in_object ms place key ∷ outer) future n))))))
      (b ∷ bs) → (b ≡ 34) × Follows (string between [] (in_key at ms outer)) bs
  key_goes ms outer at place b key bs n future s (p, (inside, back, is, spelled, k)) = let (f, g) = heads b 34 bs (inside ++ 34 ∷ back) is in
      let there = subst (λ bs. Follows (string between [] (in_key place ms outer)) bs) (sym g)
      (characters_from (Colon size levels r ms place outer) [] back spelled (n, future, k)) in
      (f, subst (λ p. Follows (string between [] (in_key p ms outer)) bs) (omega (arith, s, p)) there)

  item_goes : (ns : List Node) (outer : List Waiting) (b : ℕ) (bs : List ℕ) → Follows (after_item ns outer) (b ∷ bs)
      → On bs (after_step (after_item ns outer) b)
  item_goes ns outer b bs (future, inr (t, k)) = yes _ _ _ _ t (future, k)
  item_goes ns outer b bs ((no_nodes, future), inl (e, k)) =
      at_byte bs (after_step (after_item ns outer)) b 93 e ((put_same (list_node (nodes_of ns)) outer bs).1 (future, k))
  item_goes ns outer b bs ((node n xs, future), inl (e, k)) = at_byte bs (after_step (after_item ns outer)) b 44 e
      (n, (xs, future), subst (λ all. NextItem outer n (xs, future) all bs) (sym (then_node ns n xs)) k)

  member_goes : (ms : List Member) (outer : List Waiting) (b : ℕ) (bs : List ℕ) → Follows (after_member ms outer) (b ∷ bs)
      → On bs (after_step (after_member ms outer) b)
  member_goes ms outer b bs (future, inr (t, k)) = yes _ _ _ _ t (future, k)
  member_goes ms outer b bs ((no_fields, future), inl (e, k)) =
      at_byte bs (after_step (after_member ms outer)) b 125 e ((put_same (object_node (fields_of ms)) outer bs).1 (future, k))
  member_goes ms outer b bs ((field place key n xs, future), inl (e, k)) = at_byte bs (after_step (after_member ms outer)) b 44 e
      (place, key, n, (xs, future), subst (λ all. NextMember outer place key n (xs, future) all bs) (sym (then_field ms place key n xs)) k)

  whole_goes : (n : Node) (b : ℕ) (bs : List ℕ) → Follows (whole n) (b ∷ bs) → On bs (after_step (whole n) b)
  whole_goes n b bs (future, inr (t, k)) = yes _ _ _ _ t (future, k)
  whole_goes n b bs (future, inl (e, k)) = cc

  -- a number ends before what waits goes on
  ended_goes : (n : Node) (outer : List Waiting) (b : ℕ) (bs : List ℕ) → Follows (put n outer) (b ∷ bs) → On bs (after_step (put n outer) b)
  ended_goes n [] b bs h = whole_goes n b bs h
  ended_goes n (in_list ns ∷ outer) b bs h = item_goes (ns ++ n ∷ []) outer b bs h
  ended_goes n (in_object ms place key ∷ outer) b bs h = member_goes (ms ++ record { place = place; key = key; of = n } ∷ []) outer b bs h

  items_end : (xs : Nodes) (l b : ℕ) (bs : List ℕ) (K : List ℕ → Type 0) → MoreItems size xs l (Byte 93 K) (b ∷ bs) → is_end b ≡ true
  items_end no_nodes l b bs K h = ap is_end h.0
  items_end (node n xs) l b bs K h = ap is_end h.0

  members_end : (xs : Fields) (l b : ℕ) (bs : List ℕ) (K : List ℕ → Type 0) → MoreMembers size xs l (Byte 125 K) (b ∷ bs) → is_end b ≡ true
  members_end no_fields l b bs K h = ap is_end h.0
  members_end (field place key n xs) l b bs K h = ap is_end h.0

  ends_number : (outer : List Waiting) (future : Future outer) (n : Node) (b : ℕ) (bs : List ℕ) → Space (Waits outer future n) (b ∷ bs) → is_end b ≡ true
  ends_number outer future n b bs (inr h) = or_left (is_space b) _ h.0
  ends_number [] future n b bs (inl h) = cc
  ends_number (in_list ns ∷ outer) future n b bs (inl h) = items_end future.0 _ b bs _ h
  ends_number (in_object ms place key ∷ outer) future n b bs (inl h) = members_end future.0 _ b bs _ h

  digits_go : (part : NumberPart) (spelling : List ℕ) (outer : List Waiting) (b : ℕ) (bs : List ℕ) → Follows (digits part spelling outer) (b ∷ bs)
      → On bs (digits_step (number_step part b) part spelling outer b)
  digits_go part spelling outer b bs (inl (m, (future, k))) =
      subst (λ o. On bs (digits_step o part spelling outer b)) (sym (no_digit part b (ends_number outer future (number_node spelling) b bs k)))
      (yes _ _ _ _ m (ended_goes (number_node spelling) outer b bs ((put_same (number_node spelling) outer (b ∷ bs)).1 (future, k))))
  digits_go part spelling outer b bs (inr (p, e, k)) = subst (λ o. On bs (digits_step o part spelling outer b)) (sym e) k

  string_go : (hole : Hole) (text bs : List ℕ) (s : StringStep)
      → StringOn s (λ p t. Characters p t (Filled size levels r hole) bs) (Filled size levels r hole text bs)
      → On bs (string_goes s (λ p t. string p t hole) (fill hole text))
  string_go hole text bs (goes_on p t) h = h
  string_go hole text bs ends h = (fill_same hole text bs).1 h
  string_go hole text bs stops h = h

  pub step_follows : (state : State) (at b : ℕ) (bs : List ℕ) → at + suc (length bs) ≡ size → Follows state (b ∷ bs) → On bs (step levels at state b)
  step_follows (value outer) at b bs s (n, future, inr (t, k)) = yes _ _ _ _ t (n, future, k)
  step_follows (value outer) at b bs s (n, future, inl k) = let (t, _, g) = value_goes n outer future b bs k in other _ _ _ _ t g
  step_follows (first_item outer) at b bs s (ns, future, inr (t, k)) = yes _ _ _ _ t (ns, future, k)
  step_follows (first_item outer) at b bs s (no_nodes, future, inl (e, k)) =
      at_byte bs (step levels at (first_item outer)) b 93 e ((put_same (list_node no_nodes) outer bs).1 (future, k))
  step_follows (first_item outer) at b bs s (node n xs, future, inl k) =
      let (t, u, g) = value_goes n (in_list [] ∷ outer) (xs, future) b bs k in other _ _ _ _ t (other _ _ _ _ u g)
  step_follows (after_item ns outer) at b bs s h = item_goes ns outer b bs h
  step_follows (first_key outer) at b bs s (fs, future, inr (t, k)) = yes _ _ _ _ t (fs, future, k)
  step_follows (first_key outer) at b bs s (no_fields, future, inl (e, k)) =
      at_byte bs (step levels at (first_key outer)) b 125 e ((put_same (object_node no_fields) outer bs).1 (future, k))
  step_follows (first_key outer) at b bs s (field place key n xs, future, inl k) = let (e, g) = key_goes [] outer at place b key bs n (xs, future) s k in
      at_byte bs (step levels at (first_key outer)) b 34 e g
  step_follows (next_key ms outer) at b bs s (place, key, n, future, inr (t, k)) = yes _ _ _ _ t (place, key, n, future, k)
  step_follows (next_key ms outer) at b bs s (place, key, n, future, inl k) = let (e, g) = key_goes ms outer at place b key bs n future s k in
      at_byte bs (step levels at (next_key ms outer)) b 34 e g
  step_follows (colon ms place key outer) at b bs s (n, future, inr (t, k)) = yes _ _ _ _ t (n, future, k)
  step_follows (colon ms place key outer) at b bs s (n, future, inl (e, k)) = at_byte bs (step levels at (colon ms place key outer)) b 58 e (n, future, k)
  step_follows (after_member ms outer) at b bs s h = member_goes ms outer b bs h
  step_follows (whole n) at b bs s h = whole_goes n b bs h
  step_follows (word c rest n outer) at b bs s (future, (e, k)) = yes _ _ _ _ (eq-eqb b c e) ((word_same c rest n outer bs).1 future k)
  step_follows (digits part spelling outer) at b bs s h = digits_go part spelling outer b bs h
  step_follows (string part text hole) at b bs s h = string_go hole text bs (string_step part text b) h

  -- the end of the bytes
  no_value : (n : Node) (l : ℕ) (K : List ℕ → Type 0) → Value size n l K [] → ⊥
  no_value null_node l K h = h
  no_value (truth_node true) l K h = h
  no_value (truth_node false) l K h = h
  no_value (number_node spelling) l K (back, is, number, k) = no_number (starts spelling number) is
    where
      no_number : {s : List ℕ} → Starts s → [] ≡ s ++ back → ⊥
      no_number (with_minus t a) e = cc
      no_number (with_zero t a) e = cc
      no_number (with_digit c t d a) e = cc
  no_value (text_node t) l K (inside, back, is, spelled, k) = cc
  no_value (list_node ns) l K h = h.2
  no_value (object_node fs) l K h = h.2

  no_after : (outer : List Waiting) (future : Future outer) (n : Node) → After size levels r outer future n [] → (outer ≡ []) × (r ≡ n)
  no_after [] future n h = (refl, h.1)
  no_after (in_list ns ∷ outer) (no_nodes, future) n h = absurd h
  no_after (in_list ns ∷ outer) (node x xs, future) n h = absurd h
  no_after (in_object ms place key ∷ outer) (no_fields, future) n h = absurd h
  no_after (in_object ms place key ∷ outer) (field p k x xs, future) n h = absurd h

  pub end_follows : (state : State) → Follows state [] → end_of state ≡ Some r
  end_follows (value outer) (n, future, h) = absurd (no_value n _ _ h)
  end_follows (first_item outer) (no_nodes, future, h) = absurd h
  end_follows (first_item outer) (node n xs, future, h) = absurd (no_value n _ _ h)
  end_follows (after_item ns outer) ((no_nodes, future), h) = absurd h
  end_follows (after_item ns outer) ((node n xs, future), h) = absurd h
  end_follows (first_key outer) (no_fields, future, h) = absurd h
  end_follows (first_key outer) (field place key n xs, future, (p, (inside, back, is, spelled, k))) = cc
  end_follows (next_key ms outer) (place, key, n, future, (p, (inside, back, is, spelled, k))) = cc
  end_follows (colon ms place key outer) (n, future, h) = absurd h
  end_follows (after_member ms outer) ((no_fields, future), h) = absurd h
  end_follows (after_member ms outer) ((field place key n xs, future), h) = absurd h
  end_follows (whole n) (future, h) = ap (λ n. Some n) (sym h.1)
  end_follows (word c rest n outer) (future, h) = absurd h
  end_follows (digits part spelling outer) (m, (future, h)) = let (e, same) = no_after outer future (number_node spelling) h in
      subst (λ o. end_of (digits part spelling o) ≡ Some r) (sym e) (cond-true _ _ _ m ∙ ap (λ n. Some n) (sym same))
  end_follows (string part text hole) h = absurd h

  some_same : (n : Node) → Some n ≡ Some r → r ≡ n
  some_same n e = cc

  pub follows_end : (state : State) → end_of state ≡ Some r → Follows state []
  follows_end (value outer) e = cc
  follows_end (first_item outer) e = cc
  follows_end (after_item ns outer) e = cc
  follows_end (first_key outer) e = cc
  follows_end (next_key ms outer) e = cc
  follows_end (colon ms place key outer) e = cc
  follows_end (after_member ms outer) e = cc
  follows_end (whole n) e = (tt, (refl, some_same n e))
  follows_end (word c rest n outer) e = cc
  follows_end (digits part spelling []) e = choose (may_end part) _ _ _ (λ t e. (t, (tt, (refl, some_same (number_node spelling) e)))) (λ _ e. cc) e
  follows_end (digits part spelling (w ∷ outer)) e = cc
  follows_end (string part text hole) e = cc
