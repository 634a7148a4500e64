-- Messages of a queue: the next one (`numbered_next`), and those up to a number (`through_front`, `through_taken`, `after_dropped`,
-- `through_count`, `numbered_after`).
use Rattle.std.proofs.Common.{◌≡◌, ℕ, ◌+◌, ◌<◌, ◌≤◌, Bool, true, false, not, cond, List, [], ◌∷◌, ◌++◌, length, take, drop, refl, sym, ap, ◌∙◌, subst, arith, length-append}
use Rattle.std.specs.Prelude.{All, filter, nat_le}
use Rattle.std.proofs.lemmas.Bool.{leb-false}
use Rattle.std.proofs.lemmas.Bool.Decides.{nat_tests}
use Rattle.std.specs.List.{take_while}
use Rattle.std.proofs.lemmas.List.Sums.{take_while-cons}
use Rattle.std.proofs.lemmas.List.Elements.{All-nil, All-head, All-tail, All-push, All-weaker, All-filter}
use Rattle.delivery_queues.specs.declared.stored.StoredMessage.{StoredMessage}
use Rattle.delivery_queues.specs.Queues.{Queue, messages_after, messages_through}
use Rattle.delivery_queues.specs.Sound.{AreRising, IsNumbered}

pub single : {X : Type 0} (xs : List X) → length xs ≡ 1 → (x : X) × (xs ≡ x ∷ [])
single [] h = absurd (omega (arith, h))
single (x ∷ []) h = (x, refl)
single (x ∷ y ∷ ys) h = absurd (omega (arith, h))

abbrev Below : StoredMessage → StoredMessage → Type 0
Below m other = m.number < other.number

rising_push : (m : StoredMessage) (xs : List StoredMessage) → AreRising xs → All (λ o. o.number < m.number) xs → AreRising (xs ++ m ∷ [])
rising_push m [] r a = (All-nil (Below m), tt)
rising_push m (x ∷ xs) r a = (
  All-push (Below x) xs m r.0 (All-head (λ (o : StoredMessage). o.number < m.number) x xs a),
  rising_push m xs r.1 (All-tail (λ (o : StoredMessage). o.number < m.number) x xs a),
)

pub numbered_next : (q : Queue) (letter numbered messages : List StoredMessage) → IsNumbered q → length letter ≡ 1
    → ((m : StoredMessage) → letter ≡ m ∷ [] → numbered ≡ record m { number = q.sent + 1 } ∷ []) → messages ≡ q.messages ++ numbered
    → IsNumbered (record { name = q.name; sent = q.sent + 1; messages = messages })
numbered_next q letter numbered messages h one is e =
    let k = single letter one in
    let m : StoredMessage = record k.0 { number = q.sent + 1 } in
    let all : messages ≡ q.messages ++ m ∷ [] = e ∙ ap (λ ms. q.messages ++ ms) (is k.0 k.1) in
    let F : List StoredMessage → Type 0 = λ ms. IsNumbered (record { name = q.name; sent = q.sent + 1; messages = ms }) in
    let last : All (λ (o : StoredMessage). o.number ≤ q.sent) q.messages = h.by_last in
    let made : F (q.messages ++ m ∷ []) = record {
      rising = rising_push m q.messages h.rising
          (All-weaker (λ (o : StoredMessage). o.number ≤ q.sent) (λ o. o.number < m.number) (λ o le. omega (arith, le)) q.messages last);
      by_last = All-push (λ (o : StoredMessage). o.number ≤ q.sent + 1) q.messages m
          (All-weaker (λ (o : StoredMessage). o.number ≤ q.sent) (λ o. o.number ≤ q.sent + 1) (λ o le. omega (arith, le)) q.messages last) (omega arith);
      few = omega (arith, h.few, length-append q.messages (m ∷ []));
    } in
    subst F (sym all) made

greater_test : (a b : ℕ) → b < a → nat_le a b ≡ false
greater_test a b h = grind (arith, nat_tests)

after_greater : (through : ℕ) (xs : List StoredMessage) → All (λ o. through < o.number) xs → messages_after through xs ≡ xs
after_greater through [] a = refl
after_greater through (m ∷ ms) a =
    let P : StoredMessage → Type 0 = λ o. through < o.number in
    let above = All-head P m ms a in
    let test : nat_le m.number through ≡ false = greater_test m.number through above in
    rw test (ap (λ ys. m ∷ ys) (after_greater through ms (All-tail P m ms a)))

none_through : (through : ℕ) (xs : List StoredMessage) → All (λ o. through < o.number) xs → messages_through through xs ≡ []
none_through through [] a = refl
none_through through (m ∷ ms) a =
    let P : StoredMessage → Type 0 = λ o. through < o.number in
    let test : nat_le m.number through ≡ false = greater_test m.number through (All-head P m ms a) in
    rw test (none_through through ms (All-tail P m ms a))

-- the messages up to the number come first
pub through_front : (through : ℕ) (xs : List StoredMessage) → AreRising xs
    → length (take_while (λ m. nat_le m.number through) xs) ≡ length (messages_through through xs)
through_front through [] r = refl
through_front through (m ∷ ms) r =
    let test : StoredMessage → Bool = λ o. nat_le o.number through in
    ap (length {A = StoredMessage}) (take_while-cons test m ms)
    ∙ (elim (nat_le m.number through) as (λ b. nat_le m.number through ≡ b
    → length (cond b (m ∷ take_while test ms) []) ≡ length (cond b (m ∷ messages_through through ms) (messages_through through ms))) [
      | true ↦ λ _. omega (arith, through_front through ms r.1)
      | false ↦ λ e.
          let above : through < m.number = leb-false m.number through e in
          sym (ap (length {A = StoredMessage})
          (none_through through ms (All-weaker (Below m) (λ o. through < o.number) (λ o lt. omega (arith, above, lt)) ms r.0)))
    ]) refl

-- the number of the first message is greater, and so are those after it
rising_above : (through : ℕ) (m : StoredMessage) (ms : List StoredMessage) → AreRising (m ∷ ms) → nat_le m.number through ≡ false
    → All (λ o. through < o.number) ms
rising_above through m ms r e =
    let above : through < m.number = leb-false m.number through e in
    All-weaker (Below m) (λ o. through < o.number) (λ o lt. omega (arith, above, lt)) ms r.0

pub through_taken : (through : ℕ) (xs : List StoredMessage) → AreRising xs → take (length (messages_through through xs)) xs ≡ messages_through through xs
through_taken through [] r = refl
through_taken through (m ∷ ms) r =
    let T : List StoredMessage = messages_through through ms in
    (elim (nat_le m.number through) as (λ b. nat_le m.number through ≡ b → take (length (cond b (m ∷ T) T)) (m ∷ ms) ≡ cond b (m ∷ T) T) [
      | true ↦ λ _. ap (λ ys. m ∷ ys) (through_taken through ms r.1)
      | false ↦ λ e. let none : T ≡ [] = none_through through ms (rising_above through m ms r e) in rw none refl
    ]) refl

pub after_dropped : (through : ℕ) (xs : List StoredMessage) → AreRising xs → drop (length (messages_through through xs)) xs ≡ messages_after through xs
after_dropped through [] r = refl
after_dropped through (m ∷ ms) r =
    let T : List StoredMessage = messages_through through ms in
    let A : List StoredMessage = messages_after through ms in
    (elim (nat_le m.number through) as (λ b. nat_le m.number through ≡ b → drop (length (cond b (m ∷ T) T)) (m ∷ ms) ≡ cond (not b) (m ∷ A) A) [
      | true ↦ λ _. after_dropped through ms r.1
      | false ↦ λ e.
          let above = rising_above through m ms r e in
          let none : T ≡ [] = none_through through ms above in
          ap (λ ys. drop (length ys) (m ∷ ms)) none ∙ ap (λ ys. m ∷ ys) (sym (after_greater through ms above))
    ]) refl

-- both parts together
pub through_count : (through : ℕ) (xs : List StoredMessage) → length (messages_through through xs) + length (messages_after through xs) ≡ length xs
through_count through [] = refl
through_count through (m ∷ ms) =
    elim (nat_le m.number through) as (λ b. length (cond b (m ∷ messages_through through ms) (messages_through through ms))
    + length (cond (not b) (m ∷ messages_after through ms) (messages_after through ms)) ≡ length (m ∷ ms)) [
      | true ↦ omega (arith, through_count through ms)
      | false ↦ omega (arith, through_count through ms)
    ]

rising_filter : (p : StoredMessage → Bool) (xs : List StoredMessage) → AreRising xs → AreRising (filter p xs)
rising_filter p [] r = tt
rising_filter p (m ∷ ms) r =
    elim (p m) as (λ b. AreRising (cond b (m ∷ filter p ms) (filter p ms))) [
      | true ↦ (All-filter p (Below m) ms r.0, rising_filter p ms r.1)
      | false ↦ rising_filter p ms r.1
    ]

pub numbered_after : (through : ℕ) (q : Queue) (messages : List StoredMessage) → IsNumbered q → messages ≡ messages_after through q.messages
    → IsNumbered (record q { messages = messages })
numbered_after through q messages h e =
    let F : List StoredMessage → Type 0 = λ ms. IsNumbered (record q { messages = ms }) in
    let left : F (messages_after through q.messages) = record {
      rising = rising_filter (λ (m : StoredMessage). not (nat_le m.number through)) q.messages h.rising;
      by_last = All-filter (λ (m : StoredMessage). not (nat_le m.number through)) (λ (o : StoredMessage). o.number ≤ q.sent) q.messages h.by_last;
      few = omega (arith, h.few, through_count through q.messages);
    } in
    subst F (sym e) left
