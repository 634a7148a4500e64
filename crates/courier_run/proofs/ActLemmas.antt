-- What acts do to a clock and a link, put together. Callers cite `Goes-none`, `Goes-append`, `book_acts-append`,
-- `sent_by`, `tried_goes`, `unsent_goes`, `looked_goes`, `parts_within`, `refused_at`, `unrecorded_goes` and `unrecorded_acts`.
use Rattle.std.proofs.Common.{◌≡◌, ◌+◌, ◌≤◌, ℕ, List, [], ◌∷◌, ◌++◌, Ok, refl, sym, ◌∙◌, ap, subst, append_assoc, append-nil, arith}
use Rattle.std.proofs.lemmas.Grind.{flat_map-append}
use Rattle.router_disk.specs.Link.{Exchange, exchanges_of}
use Rattle.delivery_duties.specs.declared.outcome.Outcome.{Outcome}
use Rattle.delivery_duties.specs.declared.outcome.Fate.{Fate}
use Rattle.delivery_duties.specs.declared.outcome.Fate.TheVariants.{Pending, Delivered, DeadLettered, Dropped}
use Rattle.courier_run.specs.declared.turned.Turned.{Turned}
use Rattle.courier_run.specs.Claim.{Claim, moment_of}
use Rattle.courier_run.specs.Turned.{no_attempt, with_fate}
use Rattle.courier_run.specs.Act.{Act, Try, ticks, looks, makes, tries, readings_of, readings_in, tries_of, tries_in, book_acts_of, book_acts_in}
use Rattle.courier_run.specs.Link.{exchange_with, IsTried, AreTried, Outside, outside, Goes}
use Rattle.courier_run.specs.declared.book.BookFault.{BookFault}
use Rattle.courier_run.specs.declared.book.BookFault.TheVariants as faults
use Rattle.courier_run.specs.declared.stepped.Stop.{Stop}
use Rattle.courier_run.specs.Book.{HasCause, stop_of}
use Rattle.courier_run.specs.Steps.{Attempt, Why, Stepping, none, one_more, IsStop, full_at, broken_at, out_of_memory, IsUnrecorded, limited_by, broken_before, broken_by}

-- tries, and then later ones
pub AreTried-append : (before between now : ℕ) (xs ys : List Try) (first second : List Exchange) → AreTried before xs first between
    → AreTried between ys second now → AreTried before (xs ++ ys) (first ++ second) now
AreTried-append before between now [] ys first second (empty, same) then =
    let P : ℕ → Type 0 = λ n. AreTried n ys second now in
    let Q : List Exchange → Type 0 = λ answers. AreTried before ys (answers ++ second) now in
    subst Q (sym empty) (subst P same then)
AreTried-append before between now (t ∷ xs) ys first second (mid, one, rest, tried, more, is) then =
    let all = ap (λ answers. answers ++ second) is ∙ append_assoc one rest second in
    (mid, one, rest ++ second, tried, AreTried-append mid between now xs ys rest second more then, all)

-- the turns and looks of acts, and of later ones
pub book_acts-append : {Placed State : Type 0} (xs ys : List (Act Placed State)) → book_acts_in (xs ++ ys) ≡ book_acts_in xs ++ book_acts_in ys
book_acts-append xs ys = flat_map-append book_acts_of xs ys

-- what was sent is the claim's endpoint and text
pub sent_by : (c : Claim) (old new : List Exchange) (endpoint text : List ℕ) (code : ℕ) → endpoint ≡ c.endpoint → text ≡ c.text
    → new ≡ old ++ exchanges_of (Ok code) endpoint text → new ≡ old ++ exchange_with c code ∷ []
sent_by c old new endpoint text code to body sent =
    sent ∙ ap (λ e. old ++ exchanges_of (Ok code) e text) to ∙ ap (λ t. old ++ exchanges_of (Ok code) c.endpoint t) body

-- no act, no change
pub Goes-none : {Placed State : Type 0} (o : Outside) → Goes {Placed = Placed} {State = State} [] o o
Goes-none o = record { readings = sym (append-nil o.readings); answers = []; answered = sym (append-nil o.answered); tried = (refl, refl) }

-- acts, and then later ones
pub Goes-append : {Placed State : Type 0} (xs ys : List (Act Placed State)) (a b c : Outside) → Goes xs a b → Goes ys b c → Goes (xs ++ ys) a c
Goes-append xs ys a b c one two =
    let P : List Try → Type 0 = λ ts. AreTried a.faults ts (one.answers ++ two.answers) c.faults in
    record {
      readings = two.readings ∙ ap (λ r. r ++ readings_in ys) one.readings ∙ append_assoc a.readings (readings_in xs) (readings_in ys)
          ∙ ap (λ r. a.readings ++ r) (sym (flat_map-append readings_of xs ys));
      answers = one.answers ++ two.answers;
      answered = two.answered ∙ ap (λ e. e ++ two.answers) one.answered ∙ append_assoc a.answered one.answers two.answers;
      tried = subst P (sym (flat_map-append tries_of xs ys))
          (AreTried-append a.faults b.faults c.faults (tries_in xs) (tries_in ys) one.answers two.answers one.tried two.tried);
    }

-- one attempt, between a turn and what ends it: a turn, or two
pub tried_goes : {Placed State : Type 0} (g g' : List ℕ) (e e' : List Exchange) (n n' reading : ℕ) (p q : Placed) (c : Claim) (o : Outcome)
    (answers : List Exchange) → g' ≡ g ++ reading ∷ [] → e' ≡ e ++ answers → IsTried c n o answers n'
    → Goes {Placed = Placed} {State = State} (ticks reading ∷ makes p ∷ tries c o ∷ makes q ∷ []) (outside g e n) (outside g' e' n')
tried_goes g g' e e' n n' reading p q c o answers gave answered tried = record {
  readings = gave;
  answers = answers;
  answered = answered;
  tried = (n', answers, [], tried, (refl, refl), sym (append-nil answers));
}

tried_goes_twice : {Placed State : Type 0} (g g' : List ℕ) (e e' : List Exchange) (n n' reading : ℕ) (p m q : Placed) (c : Claim) (o : Outcome)
    (answers : List Exchange) → g' ≡ g ++ reading ∷ [] → e' ≡ e ++ answers → IsTried c n o answers n'
    → Goes {Placed = Placed} {State = State} (ticks reading ∷ makes p ∷ tries c o ∷ makes m ∷ makes q ∷ []) (outside g e n) (outside g' e' n')
tried_goes_twice g g' e e' n n' reading p m q c o answers gave answered tried = record {
  readings = gave;
  answers = answers;
  answered = answered;
  tried = (n', answers, [], tried, (refl, refl), sym (append-nil answers));
}

-- a claim that is put back, as nothing was sent
pub unsent_goes : {Placed State : Type 0} (g g' : List ℕ) (e e' : List Exchange) (n n' reading : ℕ) (p q : Placed) → g' ≡ g ++ reading ∷ []
    → e' ≡ e → n' ≡ n → Goes {Placed = Placed} {State = State} (ticks reading ∷ makes p ∷ makes q ∷ []) (outside g e n) (outside g' e' n')
unsent_goes g g' e e' n n' reading p q gave answered same =
    record { readings = gave; answers = []; answered = answered ∙ sym (append-nil e); tried = (refl, same) }

-- a reading and a look
pub looked_goes : {Placed State : Type 0} (g g' : List ℕ) (e : List Exchange) (n reading : ℕ) (s : State) → g' ≡ g ++ reading ∷ []
    → Goes {Placed = Placed} {State = State} (ticks reading ∷ looks s ∷ []) (outside g e n) (outside g' e n)
looked_goes g g' e n reading s gave = record { readings = gave; answers = []; answered = sym (append-nil e); tried = (refl, refl) }

module _ {Placed State : Type 0} (claims : Placed → Claim → ℕ → Type 0) (records : Placed → Attempt → Type 0)
    (puts_back : Placed → Claim → Why → Type 0) (breaks : Placed → Claim → Outcome → Type 0) (idle full broken : State → ℕ → Type 0) where
  -- of the attempts those that ended their duty are some
  pub parts_within : (acts : List (Act Placed State)) (t : Turned) → Stepping claims records puts_back breaks idle full broken acts t
      → t.delivered + t.dead + t.dropped ≤ t.attempts
  parts_within _ _ none = omega arith
  parts_within _ _ (one_more acts step t Pending before one) = omega (arith, parts_within acts t before)
  parts_within _ _ (one_more acts step t Delivered before one) = omega (arith, parts_within acts t before)
  parts_within _ _ (one_more acts step t DeadLettered before one) = omega (arith, parts_within acts t before)
  parts_within _ _ (one_more acts step t Dropped before one) = omega (arith, parts_within acts t before)

  -- a claim that was refused
  pub refused_at : (reading : ℕ) (s : State) (fault : BookFault) → HasCause (full s (moment_of reading)) (broken s (moment_of reading)) fault
      → IsStop claims records puts_back breaks idle full broken (ticks reading ∷ looks s ∷ []) (stop_of fault)
  refused_at reading s faults.NumberLimit cause = full_at reading s cause
  refused_at reading s faults.Broken cause = broken_at reading s cause
  refused_at reading s faults.NoMemory cause = out_of_memory reading s

  -- what ends an attempt without a record is turns
  pub unrecorded_acts : (c : Claim) (o : Outcome) (ends : List (Act Placed State)) (stop : Stop)
      → IsUnrecorded claims records puts_back breaks idle full broken c o ends stop → book_acts_in ends ≡ ends
  unrecorded_acts c o _ _ (limited_by q back) = refl
  unrecorded_acts c o _ _ (broken_before q back) = refl
  unrecorded_acts c o _ _ (broken_by m q breaking back) = refl

  -- an attempt without a record
  pub unrecorded_goes : (g g' : List ℕ) (e e' : List Exchange) (n n' reading : ℕ) (p : Placed) (c : Claim) (o : Outcome) (answers : List Exchange)
      (ends : List (Act Placed State)) (stop : Stop) → IsUnrecorded claims records puts_back breaks idle full broken c o ends stop → g' ≡ g ++ reading ∷ []
      → e' ≡ e ++ answers → IsTried c n o answers n' → Goes (ticks reading ∷ makes p ∷ tries c o ∷ ends) (outside g e n) (outside g' e' n')
  unrecorded_goes g g' e e' n n' reading p c o answers _ _ (limited_by q back) gave answered tried = tried_goes g g' e e' n n' reading p q c o answers gave answered tried
  unrecorded_goes g g' e e' n n' reading p c o answers _ _ (broken_before q back) gave answered tried = tried_goes g g' e e' n n' reading p q c o answers gave answered tried
  unrecorded_goes g g' e e' n n' reading p c o answers _ _ (broken_by m q breaking back) gave answered tried =
      tried_goes_twice g g' e e' n n' reading p m q c o answers gave answered tried
