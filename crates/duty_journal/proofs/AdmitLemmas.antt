-- What the checks of operations decide: `queue_is`, `queue_has`, `short_all`, `all_short`, `ordered_sorted`, `sorted_ordered`, `tested_all`,
-- `all_tested`.
use Rattle.std.proofs.Common.{◌≡◌, ℕ, ◌≤◌, true, false, leb, Bool, List, [], ◌∷◌, length, Some, refl, sym, subst, ◌∙◌, arith}
use Rattle.std.specs.Prelude.{All, IsTrue, ◌&&◌}
use Rattle.std.specs.List.{list_all}
use Rattle.std.proofs.lemmas.Bool.{false≢true}
use Rattle.std.proofs.lemmas.Bool.Decides.{nat_tests}
use Rattle.std.proofs.lemmas.List.Elements.{All-head, All-tail, All-nil, All-cons, All-weaker}
use Rattle.std.specs.declared.cmp.Ordering.{Ordering}
use Rattle.std.specs.declared.cmp.Ordering.TheVariants.{Less, Equal, Greater}
use Rattle.std.specs.Cmp.Lexicographic.{slice_cmp}
use Rattle.std.specs.Ordering.{nat_cmp}
use Rattle.json_text.specs.Limits.{most_text}
use Rattle.event_shape.specs.Names.{IsQueueArn, queue_in}
use Rattle.event_shape.proofs.NameLemmas.{one_queue, queue_named}
use Rattle.name_rows.specs.Rows.{AreSorted, by_order}
use Rattle.name_rows.proofs.NameOrder.{Less_trans}
use Rattle.delivery_duties.specs.declared.duty.NewDuty.{NewDuty}
use Rattle.delivery_queues.specs.Queues.{Queue, has_queue}
use Rattle.duty_journal.specs.Redo.{are_in_order, is_before_first, is_short}

-- the queue of an endpoint exists exactly if the one that its text names does
pub queue_is : (endpoint name : List ℕ) (queues : List Queue) (b : Bool) → queue_in endpoint ≡ Some name → b ≡ has_queue name queues → IsTrue b →
    (queue : List ℕ) → IsQueueArn endpoint queue → has_queue queue queues ≡ true
queue_is endpoint name queues b named is holds queue arn =
    subst (λ q. has_queue q queues ≡ true) (one_queue endpoint name queue ((queue_named endpoint name).0 named) arn) (sym is ∙ holds)

pub queue_has : (endpoint name : List ℕ) (queues : List Queue) (b : Bool) → queue_in endpoint ≡ Some name → b ≡ has_queue name queues →
    ((queue : List ℕ) → IsQueueArn endpoint queue → has_queue queue queues ≡ true) → IsTrue b
queue_has endpoint name queues b named is all = is ∙ all name ((queue_named endpoint name).0 named)

pub short_all : (duties : List NewDuty) → list_all is_short duties ≡ true → All (λ (d : NewDuty). length d.text ≤ most_text) duties
short_all [] h = All-nil (λ (d : NewDuty). length d.text ≤ most_text)
short_all (d ∷ duties) h =
    let both = both_true (is_short d) (list_all is_short duties) h in
    All-cons (λ (o : NewDuty). length o.text ≤ most_text) d duties (at_most (length d.text) most_text both.0) (short_all duties both.1)
  where
    both_true : (a b : Bool) → (a && b) ≡ true → (a ≡ true) × (b ≡ true)
    both_true true b h = (refl, h)
    both_true false b h = absurd (false≢true h)

    at_most : (m n : ℕ) → leb m n ≡ true → m ≤ n
    at_most m n h = grind (arith, nat_tests)

pub all_short : (duties : List NewDuty) → All (λ (d : NewDuty). length d.text ≤ most_text) duties → list_all is_short duties ≡ true
all_short [] all = refl
all_short (d ∷ duties) all =
    let first : is_short d ≡ true = test (length d.text) most_text (All-head (λ (o : NewDuty). length o.text ≤ most_text) d duties all) in
    rw first (all_short duties (All-tail (λ (o : NewDuty). length o.text ≤ most_text) d duties all))
  where
    test : (m n : ℕ) → m ≤ n → leb m n ≡ true
    test m n h = grind (arith, nat_tests)

-- ---- the names of archives

less_from : (o : Ordering) → by_order o true false false ≡ true → o ≡ Less
less_from Less h = refl
less_from Equal h = absurd (false≢true h)
less_from Greater h = absurd (false≢true h)

before_all : (name : List ℕ) (others : List (List ℕ)) → is_before_first name others ≡ true → AreSorted (λ o. o) others
    → All (λ o. slice_cmp nat_cmp name o ≡ Less) others
before_all name [] h sorted = All-nil (λ o. slice_cmp nat_cmp name o ≡ Less)
before_all name (other ∷ others) h sorted =
    let first = less_from (slice_cmp nat_cmp name other) h in
    All-cons (λ o. slice_cmp nat_cmp name o ≡ Less) other others first
    (All-weaker (λ o. slice_cmp nat_cmp other o ≡ Less) (λ o. slice_cmp nat_cmp name o ≡ Less) (λ o less. Less_trans name other o first less) others sorted.0)

both_are : (a b : Bool) → (a && b) ≡ true → (a ≡ true) × (b ≡ true)
both_are true b h = (refl, h)
both_are false b h = absurd (false≢true h)

-- names that are each before the next one are sorted, and the other way round
pub ordered_sorted : (names : List (List ℕ)) → are_in_order names ≡ true → AreSorted (λ name. name) names
ordered_sorted [] h = tt
ordered_sorted (name ∷ names) h =
    let both = both_are (is_before_first name names) (are_in_order names) h in
    let rest = ordered_sorted names both.1 in
    (before_all name names both.0 rest, rest)

first_before : (name : List ℕ) (others : List (List ℕ)) → All (λ o. slice_cmp nat_cmp name o ≡ Less) others → is_before_first name others ≡ true
first_before name [] all = refl
first_before name (other ∷ others) all = rw (All-head (λ o. slice_cmp nat_cmp name o ≡ Less) other others all) refl

pub sorted_ordered : (names : List (List ℕ)) → AreSorted (λ name. name) names → are_in_order names ≡ true
sorted_ordered [] sorted = refl
sorted_ordered (name ∷ names) sorted = rw (first_before name names sorted.0) (sorted_ordered names sorted.1)

-- what is tested of all names holds of each, and the other way round
pub tested_all : (test : List ℕ → Bool) (names : List (List ℕ)) → list_all test names ≡ true → All (λ name. test name ≡ true) names
tested_all test [] h = All-nil (λ name. test name ≡ true)
tested_all test (name ∷ names) h =
    let both = both_are (test name) (list_all test names) h in
    All-cons (λ n. test n ≡ true) name names both.0 (tested_all test names both.1)

pub all_tested : (test : List ℕ → Bool) (names : List (List ℕ)) → All (λ name. test name ≡ true) names → list_all test names ≡ true
all_tested test [] all = refl
all_tested test (name ∷ names) all =
    rw (All-head (λ n. test n ≡ true) name names all) (all_tested test names (All-tail (λ n. test n ≡ true) name names all))
