-- Messages by their places: of the rules with a number `numbered_at`, of those before the events `queue_at`, `rule_at`, `targets_at`.
-- What is left after one more: `first_left`, `event_left`; when nothing is: `none_left`.
use Rattle.std.proofs.Common.{◌≡◌, ◌≢◌, ◌%◌, ap₂, ◌∙◌, ◌<◌, ◌≤◌, ◌+◌, ◌-◌, ℕ, zero, suc, refl, sym, ap, List, [], ◌∷◌, ◌++◌, length, map, drop, Some, slice_get, arith, add-one}
use Rattle.json_text.specs.Tree.{Tree}
use Rattle.drill_requests.specs.Draws.{next, draw}
use Rattle.drill_requests.specs.Messages.{create_queue, name_rule, rules, put_rule, put_targets, set_up_messages, put_events, event_messages}

-- what is first of a list from a place on, and what follows it
first_of : {X : Type 0} (xs ys : List X) (i : ℕ) (x : X) → slice_get xs i ≡ Some x → drop i xs ++ ys ≡ x ∷ (drop (suc i) xs ++ ys)
first_of [] ys i x h = cc
first_of (y ∷ xs) ys zero x h = let e : y ≡ x = cc in ap (λ z. z ∷ (xs ++ ys)) e
first_of (y ∷ xs) ys (suc i) x h = first_of xs ys i x h

pub first_left : {X : Type 0} (xs ys : List X) (i : ℕ) (x : X) → slice_get xs i ≡ Some x → drop i xs ++ ys ≡ x ∷ (drop (i + 1) xs ++ ys)
first_left xs ys i x h = first_of xs ys i x h ∙ ap (λ k. x ∷ (drop k xs ++ ys)) (sym (add-one i))

-- a place in the first of two lists, and in the second
in_front : {X : Type 0} (xs ys : List X) (i : ℕ) (x : X) → slice_get xs i ≡ Some x → slice_get (xs ++ ys) i ≡ Some x
in_front [] ys i x h = cc
in_front (y ∷ xs) ys zero x h = h
in_front (y ∷ xs) ys (suc i) x h = in_front xs ys i x h

pub numbered_at : (f : List ℕ × Tree → List ℕ) (i : ℕ) → i < 10 → slice_get (map f rules) i ≡ Some (f (name_rule i))
unfolding rules
numbered_at f zero h = refl
numbered_at f (suc zero) h = refl
numbered_at f (suc (suc zero)) h = refl
numbered_at f (suc (suc (suc zero))) h = refl
numbered_at f (suc (suc (suc (suc zero)))) h = refl
numbered_at f (suc (suc (suc (suc (suc zero))))) h = refl
numbered_at f (suc (suc (suc (suc (suc (suc zero)))))) h = refl
numbered_at f (suc (suc (suc (suc (suc (suc (suc zero))))))) h = refl
numbered_at f (suc (suc (suc (suc (suc (suc (suc (suc zero)))))))) h = refl
numbered_at f (suc (suc (suc (suc (suc (suc (suc (suc (suc zero))))))))) h = refl
numbered_at f (suc (suc (suc (suc (suc (suc (suc (suc (suc (suc i)))))))))) h = absurd (omega arith)

pub queue_at : (place : ℕ) (bytes : List ℕ) → place ≡ 0 → bytes ≡ create_queue → slice_get set_up_messages place ≡ Some bytes
unfolding set_up_messages
queue_at place bytes at is = ap (slice_get set_up_messages) at ∙ ap Some (sym is)

pub rule_at : (place : ℕ) (bytes : List ℕ) → 1 ≤ place → slice_get (map put_rule rules) (place - 1) ≡ Some bytes → slice_get set_up_messages place ≡ Some bytes
unfolding set_up_messages
rule_at zero bytes low h = absurd (omega arith)
rule_at (suc i) bytes low h =
    let e : suc i - 1 ≡ i = omega arith in
    in_front (map put_rule rules) (map put_targets rules) i bytes (ap (slice_get (map put_rule rules)) (sym e) ∙ h)

in_back : {X : Type 0} (xs ys : List X) (i : ℕ) → slice_get (xs ++ ys) (length xs + i) ≡ slice_get ys i
in_back [] ys i = let e : 0 + i ≡ i = omega arith in ap (slice_get ys) e
in_back (x ∷ xs) ys i =
    let e : suc (length xs) + i ≡ suc (length xs + i) = omega arith in
    ap (slice_get (x ∷ (xs ++ ys))) e ∙ in_back xs ys i

pub targets_at : (place : ℕ) (bytes : List ℕ) → 12 ≤ place → slice_get (map put_targets rules) (place - 1 - 11) ≡ Some bytes → slice_get set_up_messages place ≡ Some bytes
unfolding set_up_messages rules
targets_at place bytes high h =
    let e : place ≡ 12 + (place - 1 - 11) = omega arith in
    ap (slice_get set_up_messages) e ∙ in_back (create_queue ∷ map put_rule rules) (map put_targets rules) (place - 1 - 11) ∙ h

-- ---- after the last of them

all_made : (place : ℕ) → place ≡ 23 → drop place set_up_messages ≡ []
unfolding set_up_messages rules
all_made place at = ap (λ k. drop k set_up_messages) at

pub none_left : (place x events : ℕ) → place ≡ 23 → events ≡ 0 → drop place set_up_messages ++ event_messages x events ≡ []
none_left place x events at none = ap₂ (λ (xs ys : List (List ℕ)). xs ++ ys) (all_made place at) (ap (event_messages x) none)

event_next : (x events : ℕ) → events ≢ 0
    → event_messages x events ≡ put_events (draw (next x) % 10) (draw (next (next x)) % 1000) ∷ event_messages (next (next x)) (events - 1)
event_next x zero h = absurd (h refl)
event_next x (suc events) h = let e : events ≡ suc events - 1 = omega arith in
    ap (λ n. put_events (draw (next x) % 10) (draw (next (next x)) % 1000) ∷ event_messages (next (next x)) n) e

pub event_left : (place x y z a b events : ℕ) (bytes : List ℕ) → place ≡ 23 → events ≢ 0 → y ≡ next x → z ≡ next y → a ≡ draw y → b ≡ draw z
    → bytes ≡ put_events (a % 10) (b % 1000)
    → drop place set_up_messages ++ event_messages x events ≡ bytes ∷ (drop place set_up_messages ++ event_messages z (events - 1))
event_left place x y z a b events bytes at some first second drawn_first drawn_second is =
    let made = all_made place at in
    let twice : z ≡ next (next x) = second ∙ ap next first in
    let one : draw (next x) ≡ a = sym (drawn_first ∙ ap draw first) in
    let two : draw (next (next x)) ≡ b = sym (drawn_second ∙ ap draw twice) in
    ap (λ xs. xs ++ event_messages x events) made ∙ event_next x events some
    ∙ ap₂ (λ (u v : ℕ). put_events (u % 10) (v % 1000) ∷ event_messages (next (next x)) (events - 1)) one two
    ∙ ap₂ (λ (t : List ℕ) (n : ℕ). t ∷ event_messages n (events - 1)) (sym is) (sym twice)
    ∙ ap (λ xs. bytes ∷ (xs ++ event_messages z (events - 1))) (sym made)
