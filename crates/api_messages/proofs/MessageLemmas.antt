-- Messages, refused bytes and awaited bytes exclude each other. The laws cite `one_message`, `not_refused`, `not_awaited`,
-- `one_stream`, `undecided`, `one_refusal`, `awaited_is_short` and `no_message_is_empty`; other files also `refused_stays`,
-- `awaited_refused` and `nothing_is_awaited`.
use Rattle.std.proofs.Common.{◌≡◌, ℕ, ◌+◌, ◌-◌, ◌<◌, ◌≤◌, Bool, true, false, cond, ◌⊎◌, inl, inr, List, [], ◌∷◌, ◌++◌, length, take, drop, Result, Ok, Err}
use Rattle.std.proofs.Common.{sym, refl, ap, ◌∙◌, subst, append_assoc, length-append, arith}
use Rattle.std.proofs.lemmas.List.{take_at, take_all, drop_at, take-append-le, take-append-drop, length-take}
use Rattle.std.proofs.Math.Seq.{take-append-add}
use Rattle.httparse.specs.Grammar.{RequestHead, print_request, ReadsRequest, HasNoRequest, NeverHasRequest, MayBecomeRequest, EndsInTarget}
use Rattle.httparse.proofs.GrammarLemmas.{request_unique, ReadsRequest-append}
use Rattle.httparse.proofs.OpenLemmas.{line_blank, request_may_from_line}
use Rattle.api_messages.specs.declared.message.Message.{Message}
use Rattle.api_messages.specs.declared.message.Refusal.{Refusal}
use Rattle.api_messages.specs.declared.message.Refusal.TheVariants.{BadHead}
use Rattle.api_messages.specs.Fields.{method_of, known_of, pairs_of, text_at, is_sound, length_at, body_length, asks_to_close}
use Rattle.api_messages.specs.Lines.{Begins65th}
use Rattle.api_messages.proofs.FieldLemmas.{length_at-small}
use Rattle.api_messages.proofs.LineLemmas.{many_overflows, begins_more, begins_earlier}
use Rattle.api_messages.specs.Messages.{IsSmall, IsServed, IsMessage, IsRefused, never, many, long, ruled, IsAwaited, head_awaited, body_awaited}
use Rattle.api_messages.specs.Messages.{HoldsMessage, IsStream, IsLeft, first_bytes}

ok_once : (r : Result ℕ Refusal) (m n : ℕ) → r ≡ Ok m → r ≡ Ok n → m ≡ n
ok_once r m n a b = cc

err_once : (r : Result ℕ Refusal) (why other : Refusal) → r ≡ Err why → r ≡ Err other → why ≡ other
err_once r why other a b = cc

ok_no_err : (r : Result ℕ Refusal) (m : ℕ) (why : Refusal) → r ≡ Ok m → r ≡ Err why → ⊥
ok_no_err r m why a b = cc

-- two heads read of the same bytes announce the same length
same_length : (bytes : List ℕ) (h k : RequestHead) (p q : List ℕ) (m n : ℕ) → ReadsRequest bytes h p → ReadsRequest bytes k q
    → body_length h ≡ Ok m → body_length k ≡ Ok n → m ≡ n
same_length bytes h k p q m n x y a b = ok_once (body_length h) m n a (ap body_length (request_unique bytes h k p q x y).0 ∙ b)

-- lists of one length at the front of the same bytes
same_front : (xs ys x y : List ℕ) → xs ++ x ≡ ys ++ y → length xs ≡ length ys → xs ≡ ys
same_front xs ys x y e n = sym (take_at xs x (length ys) n) ∙ ap (take (length ys)) e ∙ take_at ys y (length ys) refl

pub one_message : (a b x y : List ℕ) (m n : Message) → IsMessage a m → IsMessage b n → a ++ x ≡ b ++ y → (a ≡ b) × (m ≡ n)
one_message a b x y m n p q e =
    let first = ReadsRequest-append a p.head m.body x p.reads in
    let other = subst (λ s. ReadsRequest s q.head (n.body ++ y)) (sym e) (ReadsRequest-append b q.head n.body y q.reads) in
    let same = request_unique (a ++ x) p.head q.head (m.body ++ x) (n.body ++ y) first other in
    let len : length m.body ≡ length n.body = same_length (a ++ x) p.head q.head _ _ _ _ first other p.served.announces q.served.announces in
    let body : m.body ≡ n.body = same_front m.body n.body x y same.1 len in
    let bytes : a ≡ b = p.reads.1 ∙ ap (λ h. print_request h ++ m.body) same.0 ∙ ap (λ l. print_request q.head ++ l) body ∙ sym q.reads.1 in
    let method : m.method ≡ n.method = p.method ∙ ap (λ h. method_of h.method) same.0 ∙ sym q.method in
    let target : m.target ≡ n.target = p.target ∙ ap (λ h. text_at (known_of (pairs_of h)).target) same.0 ∙ sym q.target in
    let caller : m.caller ≡ n.caller = p.caller ∙ ap (λ h. text_at (known_of (pairs_of h)).caller) same.0 ∙ sym q.caller in
    let close : m.close ≡ n.close = p.close ∙ ap asks_to_close same.0 ∙ sym q.close in
    (bytes, λ i. record { method = method i; target = target i; caller = caller i; body = body i; close = close i })

-- a head at the front of longer bytes that ends within the shorter ones is at their front
head_within : (a x : List ℕ) (h : RequestHead) (rest : List ℕ) → ReadsRequest (a ++ x) h rest → length (print_request h) ≤ length a
    → ReadsRequest a h (drop (length (print_request h)) a)
head_within a x h rest reads short =
    let n = length (print_request h) in
    let same : take n a ≡ print_request h = sym (take-append-le n a x short) ∙ ap (take n) reads.1 ∙ take_at (print_request h) rest n refl in
    (reads.0, sym (take-append-drop n a) ∙ ap (λ l. l ++ drop n a) same)

-- a head within the limits is at the front of the first bytes
in_first : (bytes : List ℕ) (h : RequestHead) (rest : List ℕ) → ReadsRequest bytes h rest → IsSmall h
    → ReadsRequest (first_bytes bytes) h (drop (length (print_request h)) (first_bytes bytes))
in_first bytes h rest reads small =
    head_within (first_bytes bytes) (drop 16384 bytes) h rest (subst (λ s. ReadsRequest s h rest) (sym (take-append-drop 16384 bytes)) reads)
    (omega (arith, small.short, length-take 16384 bytes, ap length reads.1, length-append (print_request h) rest))

-- bytes with a whole head within the limits are refused only by a rule on its fields
rule_of : (bytes : List ℕ) (h : RequestHead) (rest : List ℕ) (why : Refusal) → ReadsRequest bytes h rest → IsSmall h → IsRefused bytes why
    → body_length h ≡ Err why
rule_of bytes h rest why reads small (never is none shown) =
    absurd (none [] h _ (ReadsRequest-append (first_bytes bytes) h _ [] (in_first bytes h rest reads small)))
rule_of bytes h rest why reads small (many is begins) =
    let more = many_overflows (first_bytes bytes) (drop 16384 bytes) h rest begins
    (subst (λ s. ReadsRequest s h rest) (sym (take-append-drop 16384 bytes)) reads) in
    absurd (omega (arith, small.few, more))
rule_of bytes h rest why reads small (long is there none may) = absurd (none h _ (in_first bytes h rest reads small))
rule_of bytes h rest why reads small (ruled k after other within e) =
    ap body_length (request_unique bytes h k rest after reads other).0 ∙ e

-- bytes with a served head at the front are not refused
not_refused_at : (bytes : List ℕ) (h : RequestHead) (rest : List ℕ) (m : ℕ) (why : Refusal) → ReadsRequest bytes h rest → IsServed h m
    → IsRefused bytes why → ⊥
not_refused_at bytes h rest m why reads served refused =
    ok_no_err (body_length h) m why served.announces (rule_of bytes h rest why reads served.small refused)

pub not_refused : (a x : List ℕ) (m : Message) (why : Refusal) → IsMessage a m → IsRefused (a ++ x) why → ⊥
not_refused a x m why p r = not_refused_at (a ++ x) p.head (m.body ++ x) _ why (ReadsRequest-append a p.head m.body x p.reads) p.served r

pub not_awaited : (a x : List ℕ) (m : Message) → IsMessage a m → IsAwaited (a ++ x) → ⊥
not_awaited a x m p (head_awaited short none may shown) = none p.head (m.body ++ x) (ReadsRequest-append a p.head m.body x p.reads)
not_awaited a x m p (body_awaited k part n reads served less) =
    let first = ReadsRequest-append a p.head m.body x p.reads in
    let len : length m.body ≡ n = same_length (a ++ x) p.head k _ _ _ _ first reads p.served.announces served.announces in
    let rest = (request_unique (a ++ x) p.head k (m.body ++ x) part first reads).1 in
    omega (arith, len, less, ap length rest, length-append m.body x)

-- the first bytes of more bytes go on from the first bytes
first_more : (a x : List ℕ) → (more : List ℕ) × (first_bytes (a ++ x) ≡ first_bytes a ++ more)
first_more a x =
    let start = first_bytes a in
    let room = 16384 - length start in
    let later = drop 16384 a ++ x in
    let all : 16384 ≡ length start + room = omega (arith, length-take 16384 a) in (
      take room later,
      ap (λ (l : List ℕ). take 16384 (l ++ x)) (sym (take-append-drop 16384 a))
          ∙ ap (take 16384) (append_assoc start (drop 16384 a) x)
          ∙ ap (λ (n : ℕ). take n (start ++ later)) all
          ∙ take-append-add start later room,
    )

pub refused_stays : (a x : List ℕ) (why : Refusal) → IsRefused a why → IsRefused (a ++ x) why
refused_stays a x why (never is none shown) =
    let more = first_more a x in
    never is
    (subst NeverHasRequest (sym more.1)
    (λ after h rest reads. none (more.0 ++ after) h rest (subst (λ s. ReadsRequest s h rest) (append_assoc (first_bytes a) more.0 after) reads)))
    (λ begins. begins_earlier (first_bytes a) more.0 none shown (subst Begins65th more.1 begins))
refused_stays a x why (many is begins) =
    let more = first_more a x in
    many is (subst Begins65th (sym more.1) (begins_more (first_bytes a) more.0 begins))
refused_stays a x why (long is there none may) =
    let same = take-append-le 16384 a x there in
    long is (omega (arith, there, length-append a x)) (subst HasNoRequest (sym same) none) (subst MayBecomeRequest (sym same) may)
refused_stays a x why (ruled h rest reads small e) = ruled h (rest ++ x) (ReadsRequest-append a h rest x reads) small e

-- bytes that nothing continues, and that may become a head, end inside a request target
never_may : (s : List ℕ) → NeverHasRequest s → MayBecomeRequest s → EndsInTarget s
never_may s nothing (inl goes_on) = absurd (nothing goes_on.0 goes_on.1 [] goes_on.2)
never_may s nothing (inr inside) = inside

pub undecided : (a : List ℕ) (why : Refusal) → IsAwaited a → IsRefused a why → (why ≡ BadHead) × EndsInTarget a
undecided a why (head_awaited short none may shown) (never is nothing other) =
    (is, never_may a (subst NeverHasRequest (take_all 16384 a (omega (arith, short))) nothing) may)
undecided a why (head_awaited short none may shown) (many is begins) =
    absurd (shown (subst Begins65th (take_all 16384 a (omega (arith, short))) begins))
undecided a why (head_awaited short none may shown) (long is there nothing other) = absurd (omega (arith, short, there))
undecided a why (head_awaited short none may shown) (ruled h rest reads small e) = absurd (none h rest reads)
undecided a why (body_awaited h part n reads served less) refused = absurd (not_refused_at a h part n why reads served refused)

pub one_refusal : (a : List ℕ) (why other : Refusal) → IsRefused a why → IsRefused a other → (why ≡ other) ⊎ EndsInTarget (first_bytes a)
one_refusal a why other (ruled h rest reads small e) second = inl (err_once (body_length h) why other e (rule_of a h rest other reads small second))
one_refusal a why other (never is none shown) (ruled h rest reads small e) =
    inl (sym (err_once (body_length h) other why e (rule_of a h rest why reads small (never is none shown))))
one_refusal a why other (many is begins) (ruled h rest reads small e) =
    inl (sym (err_once (body_length h) other why e (rule_of a h rest why reads small (many is begins))))
one_refusal a why other (long is there none may) (ruled h rest reads small e) =
    inl (sym (err_once (body_length h) other why e (rule_of a h rest why reads small (long is there none may))))
one_refusal a why other (never is none shown) (never too nothing unshown) = inl (is ∙ sym too)
one_refusal a why other (never is none shown) (many too begins) = absurd (shown begins)
one_refusal a why other (never is none shown) (long too there nothing may) = inr (never_may (first_bytes a) none may)
one_refusal a why other (many is begins) (never too nothing unshown) = absurd (unshown begins)
one_refusal a why other (many is begins) (many too again) = inl (is ∙ sym too)
one_refusal a why other (many is begins) (long too there nothing may) = inl (is ∙ sym too)
one_refusal a why other (long is there none may) (never too nothing unshown) = inr (never_may (first_bytes a) nothing may)
one_refusal a why other (long is there none may) (many too begins) = inl (is ∙ sym too)
one_refusal a why other (long is there none may) (long too here nothing also) = inl (is ∙ sym too)

-- if no message is whole at the front, none is held
left_holds_none : (bytes after : List ℕ) (m : Message) → IsLeft bytes → HoldsMessage bytes m after → ⊥
left_holds_none bytes after m (inl awaited) holds = not_awaited holds.0 after m holds.1 (subst IsAwaited holds.2 awaited)
left_holds_none bytes after m (inr (why, refused)) holds = not_refused holds.0 after m why holds.1 (subst (λ s. IsRefused s why) holds.2 refused)

-- one message at the front, and one rest after it
held_once : (bytes x y : List ℕ) (m n : Message) → HoldsMessage bytes m x → HoldsMessage bytes n y → (m ≡ n) × (x ≡ y)
held_once bytes x y m n p q =
    let both = sym p.2 ∙ q.2 in
    let same = one_message p.0 q.0 x y m n p.1 q.1 both in
    (same.1, sym (drop_at p.0 x (length q.0) (ap length same.0)) ∙ ap (drop (length q.0)) both ∙ drop_at q.0 y (length q.0) refl)

pub one_stream : (bytes r q : List ℕ) (ms ns : List Message) → IsStream bytes ms r → IsStream bytes ns q → IsLeft r → IsLeft q → (ms ≡ ns) × (r ≡ q)
one_stream bytes r q [] [] x y left other = (refl, sym x ∙ y)
one_stream bytes r q [] (n ∷ ns) x y left other = absurd (left_holds_none bytes y.0 n (subst IsLeft (sym x) left) y.1)
one_stream bytes r q (m ∷ ms) [] x y left other = absurd (left_holds_none bytes x.0 m (subst IsLeft (sym y) other) x.1)
one_stream bytes r q (m ∷ ms) (n ∷ ns) x y left other =
    let first = held_once bytes x.0 y.0 m n x.1 y.1 in
    let others = one_stream y.0 r q ms ns (subst (λ s. IsStream s ms r) first.1 x.2) y.2 left other in
    (λ i. first.0 i ∷ others.0 i, others.1)

announced : (h : RequestHead) (n : ℕ) → body_length h ≡ Ok n → n ≤ 1048576
announced h n e = by_test (is_sound h.minor (known_of (pairs_of h))) e
  where
    by_test : (t : Bool) → cond t (length_at (method_of h.method) (known_of (pairs_of h)).length) (Err BadHead) ≡ Ok n → n ≤ 1048576
    by_test true e = length_at-small _ _ n e
    by_test false e = cc

pub awaited_is_short : (bytes : List ℕ) → IsAwaited bytes → length bytes < 16384 + 1048576
awaited_is_short bytes (head_awaited short none may shown) = omega arith
awaited_is_short bytes (body_awaited h part n reads served less) =
    omega (arith, ap length reads.1, length-append (print_request h) part, served.small.short, announced h n served.announces)

-- a head is not empty
head_some : (h : RequestHead) → 1 ≤ length (print_request h)
unfolding print_request
head_some h = simp length-append (omega arith)

pub no_message_is_empty : (bytes rest : List ℕ) (m : Message) → HoldsMessage bytes m rest → length rest < length bytes
no_message_is_empty bytes rest m holds =
    let p = holds.1 in
    omega (arith, ap length holds.2, length-append holds.0 rest, ap length p.reads.1, length-append (print_request p.head) m.body, head_some p.head)

-- no bytes are less than a message
pub nothing_is_awaited : IsAwaited []
nothing_is_awaited =
    head_awaited (omega arith) none (request_may_from_line (inl (line_blank (record { more = []; tree = []; reads = λ rest. refl })))) unshown
  where
    unshown : ¬ (Begins65th [])
    unshown b = omega (arith, ap length b.bytes_are, length-append b.front (b.first ∷ b.rest))

    none : HasNoRequest []
    none h rest reads = omega (arith, ap length reads.1, length-append (print_request h) rest, head_some h)

-- bytes that are both refused and awaited hold no head
pub awaited_refused : (bytes : List ℕ) (why : Refusal) → IsRefused bytes why → IsAwaited bytes → HasNoRequest bytes
awaited_refused bytes why refused (head_awaited short none may shown) = none
awaited_refused bytes why refused (body_awaited h part n reads served less) = absurd (not_refused_at bytes h part n why reads served refused)
