-- `after_prefix` is the text after the prefix: `after_is`, `after_some`, `after_none`. The queue whose ARN a text is, and the bus whose name or ARN
-- it is: `queue_named`, `no_queue`, `one_queue`, `bus_given`. The name in a bus's ARN: `bus_resource`.
use Rattle.std.proofs.Common.{Option, Some, None, unwrap_or, MatchOption, Bor, ◌≡◌, ◌↔◌, ◌==◌, ℕ, Bool, true, false, List, [], ◌∷◌, ◌++◌, codes}
use Rattle.std.proofs.Common.{inl, inr, sym, ap, ◌∙◌, subst, refl}
use Rattle.std.proofs.lemmas.Bool.{false≢true}
use Rattle.std.proofs.lemmas.Bool.Decides.{Decides-eqb}
use Rattle.std.proofs.lemmas.List.{append_cancel_left}
use Rattle.event_shape.specs.Names.{is_bus_name, is_queue_name, IsBusName, IsQueueName, IsBusGiven, IsQueueArn, bus_arn, queue_arn, after_prefix, named, queue_in, bus_in}

abbrev pub bus_prefix : List ℕ
bus_prefix = bus_arn []

by_test : {G : Type 0} (b : Bool) → (b ≡ true → G) → (b ≡ false → G) → G
by_test true t f = t refl
by_test false t f = f refl

pub after_some : (prefix text rest : List ℕ) → text ≡ prefix ++ rest → after_prefix prefix text ≡ Some rest
after_some [] text rest is = ap Some is
after_some (p ∷ prefix) [] rest is = absurd cc
after_some (p ∷ prefix) (b ∷ text) rest is =
    let first : p ≡ b = cc in
    let others : text ≡ prefix ++ rest = cc in
    rw ((Decides-eqb p b).1 first) (after_some prefix text rest others)

pub after_is : (prefix text rest : List ℕ) → after_prefix prefix text ≡ Some rest → text ≡ prefix ++ rest
after_is [] text rest is = cc
after_is (p ∷ prefix) [] rest is = absurd cc
after_is (p ∷ prefix) (b ∷ text) rest is = by_test (p == b)
    (λ e. let first : b ≡ p = sym ((Decides-eqb p b).0 e) in
    let later : after_prefix prefix text ≡ Some rest = rw e at is in
    let others = after_is prefix text rest later in
    ap (λ (x : ℕ). x ∷ text) first ∙ ap (λ xs. p ∷ xs) others)
    (λ e. let none : None ≡ Some rest = rw e at is in absurd cc)

not_after : (o : Option (List ℕ)) → ((rest : List ℕ) → ¬ (o ≡ Some rest)) → o ≡ None
not_after None none = refl
not_after (Some rest) none = absurd (none rest refl)

pub after_none : (prefix text : List ℕ) → ((rest : List ℕ) → ¬ (text ≡ prefix ++ rest)) → after_prefix prefix text ≡ None
after_none prefix text none = not_after (after_prefix prefix text) (λ rest is. none rest (after_is prefix text rest is))

abbrev queue_prefix : List ℕ
queue_prefix = queue_arn []

pub queue_some : (text name : List ℕ) → text ≡ queue_arn name → queue_in text ≡ named is_queue_name (Some name)
queue_some text name is = ap (named is_queue_name) (after_some queue_prefix text name is)

pub queue_none : (text : List ℕ) → ((name : List ℕ) → ¬ (text ≡ queue_arn name)) → queue_in text ≡ None
queue_none text none = ap (named is_queue_name) (after_none queue_prefix text none)

named_is : (test : List ℕ → Bool) (name other : List ℕ) → named test (Some name) ≡ Some other → (test name ≡ true) × (name ≡ other)
named_is test name other is = by_test (test name)
    (λ e. let some : Some name ≡ Some other = rw e at is in (e, cc))
    (λ e. let none : None ≡ Some other = rw e at is in absurd cc)

named_some : (test : List ℕ → Bool) (name : List ℕ) → test name ≡ true → named test (Some name) ≡ Some name
named_some test name e = rw e refl

by_option : {A G : Type 0} (o : Option A) → (o ≡ None → G) → ((a : A) → o ≡ Some a → G) → G
by_option None none some = none refl
by_option (Some a) none some = some a refl

pub queue_named : (text queue : List ℕ) → (queue_in text ≡ Some queue) ↔ IsQueueArn text queue
queue_named text queue = (
  λ is. by_option (after_prefix queue_prefix text)
      (λ none. let never : None ≡ Some queue = sym (ap (named is_queue_name) none) ∙ is in absurd cc)
      (λ name some. let (valid, same) = named_is is_queue_name name queue (sym (ap (named is_queue_name) some) ∙ is) in
      (subst IsQueueName same valid, after_is queue_prefix text name some ∙ ap queue_arn same)),
  λ (valid, arn). queue_some text queue arn ∙ named_some is_queue_name queue valid,
)

pub no_queue : (text : List ℕ) → queue_in text ≡ None → (queue : List ℕ) → ¬ IsQueueArn text queue
no_queue text none queue is = let never : None ≡ Some queue = sym none ∙ (queue_named text queue).1 is in absurd cc

pub one_queue : (text a b : List ℕ) → IsQueueArn text a → IsQueueArn text b → a ≡ b
one_queue text a b is so = let same : Some a ≡ Some b = sym ((queue_named text a).1 is) ∙ (queue_named text b).1 so in cc

-- no name has a colon
no_name : (rest : List ℕ) → ¬ IsBusName (bus_prefix ++ rest)
no_name rest h = false≢true h

not_arn : (name : List ℕ) → IsBusName name → after_prefix bus_prefix name ≡ None
not_arn name valid = after_none bus_prefix name (λ rest is. no_name rest (subst IsBusName is valid))

pub bus_given : (text bus : List ℕ) → (bus_in text ≡ Some bus) ↔ IsBusGiven text bus
bus_given text bus = (
  λ is. by_option (after_prefix bus_prefix text)
      (λ none. let (valid, same) = named_is is_bus_name text bus (sym (ap (λ o. named is_bus_name (Some (unwrap_or o text))) none) ∙ is) in
      (subst IsBusName same valid, inl same))
      (λ name some. let (valid, same) = named_is is_bus_name name bus (sym (ap (λ o. named is_bus_name (Some (unwrap_or o text))) some) ∙ is) in
      (subst IsBusName same valid, inr (after_is bus_prefix text name some ∙ ap bus_arn same))),
  λ (valid, given). elim given [
    | inl same ↦ ap bus_in same ∙ ap (λ o. named is_bus_name (Some (unwrap_or o bus))) (not_arn bus valid) ∙ named_some is_bus_name bus valid
    | inr arn ↦ ap (λ o. named is_bus_name (Some (unwrap_or o text))) (after_some bus_prefix text bus arn) ∙ named_some is_bus_name bus valid
  ],
)

abbrev events_prefix : List ℕ
events_prefix = codes "arn:aws:events:us-east-1:111122223333:"

pub bus_resource : (t resource : List ℕ) (r : Option (Bor (List ℕ))) → t ≡ events_prefix ++ resource
    → MatchOption r ((rest : List ℕ) → ¬ (resource ≡ codes "event-bus/" ++ rest)) (λ rest. resource ≡ codes "event-bus/" ++ rest.now)
    → MatchOption r ((rest : List ℕ) → ¬ (t ≡ bus_arn rest)) (λ rest. t ≡ bus_arn rest.now)
bus_resource t resource None e h = λ rest arn. h rest (append_cancel_left events_prefix resource (codes "event-bus/" ++ rest) (sym e ∙ arn))
bus_resource t resource (Some rest) e h = e ∙ ap (λ r. events_prefix ++ r) h
