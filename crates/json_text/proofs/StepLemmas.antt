-- One byte that is no white space, at each place between tokens: `begins_word`, `opened_goes`, and a lemma for the bytes that stop
-- each state. Turns seen from another state: `goes_same`, `goes_by`, `led`, `barred`.
use Rattle.json_text.specs.Reading.{word, Member, Waiting, in_list, in_object, State, value, first_item, after_item, first_key, next_key, colon, after_member}
use Rattle.json_text.specs.Reading.{whole, step, value_step, go_on, read_from, too_deep, unexpected, opened, ended, end_of, Fault}
use Rattle.json_text.specs.{Node.Node, Grammar.is_space, declared.value.Json.Json, declared.state.Kept.Kept, declared.state.Next.Next}
use Rattle.json_text.specs.Kept.{StartsWith, StartsWithNoSpace, BeginsWord, SkipsSpace, KeepsAll, Opens, IsState, repeat_of, FailsSo, Goes, read_at}
use Rattle.json_text.specs.declared.state.Next.TheVariants.{Value, FirstItem, AfterItem, FirstKey, NextKey, AfterMember, End}
use Rattle.json_text.specs.{declared.state.Place.Place, declared.fault.JsonFault.JsonFault}
use Rattle.json_text.specs.declared.fault.JsonFault.TheVariants.{NotJson, TooDeep, KeyTwice, NoMemory}
use Rattle.std.proofs.Common.{Result, ◌≡◌, ◌≢◌, ◌≤◌, ◌<◌, ℕ, ◌+◌, List, [], ◌∷◌, length, drop, reverse, false, Option, Ok, Err, refl, sym, ap, ◌∙◌, arith, cond}
use Rattle.std.proofs.Common.{◌==◌, ◌⊎◌, subst}
use Rattle.std.proofs.{lemmas.Bool.Decides.nat_tests, lemmas.List.length-reverse}
use Rattle.json_text.proofs.TokenRuns.{fault, by_byte, deep, keeps_length}

-- the first byte of a word
pub begins_word : (byte first c : ℕ) (cs : List ℕ) (n : Node) (rest : List ℕ)
    → ((L at : ℕ) (outer : List Waiting) → step L at (value outer) first ≡ Ok (word c cs n outer))
    → StartsWith byte rest → byte ≡ first → BeginsWord (c ∷ cs) n rest
begins_word byte first c cs n [] f h is = absurd h
begins_word byte first c cs n (b ∷ bs) f h is = λ L at outer. ap (step L at (value outer)) (h ∙ is) ∙ f L at outer

-- two states that take a byte alike
pub alike : (L at : ℕ) (s t : State) (byte : ℕ) (rest : List ℕ) → StartsWith byte rest → step L at s byte ≡ step L at t byte
    → read_from L at s rest ≡ read_from L at t rest
alike L at s t byte rest h same = by_byte L at s byte rest (step L at t byte) h same ∙ sym (by_byte L at t byte rest (step L at t byte) h refl)

-- a bracket where there is a level, and where there is none
opens_level : (L : ℕ) (outer : List Waiting) (next : State) → length outer < L → opened L outer next ≡ Ok next
opens_level L outer next h = grind (arith, nat_tests)

opens_none : (L : ℕ) (outer : List Waiting) (next : State) → L ≤ length outer → opened L outer next ≡ Err too_deep
opens_none L outer next h = grind (arith, nat_tests)

-- bytes that no value begins with
pub value_other : (L at : ℕ) (outer : List Waiting) (b : ℕ) → is_space b ≡ false → b ≢ 34 → b ≢ 91 → b ≢ 123 → b ≢ 45 → (b < 48) ⊎ (57 < b) → b ≢ 110 → b ≢ 116
    → b ≢ 102 → step L at (value outer) b ≡ Err unexpected
value_other L at outer b space h1 h2 h3 h4 h5 h6 h7 h8 = grind (arith, nat_tests)

pub first_item_goes : (L at : ℕ) (outer : List Waiting) (b : ℕ) → is_space b ≡ false → b ≢ 93
    → step L at (first_item outer) b ≡ step L at (value (in_list [] ∷ outer)) b
first_item_goes L at outer b space h = grind (arith, nat_tests)

pub item_other : (L at : ℕ) (ns : List Node) (outer : List Waiting) (b : ℕ) → is_space b ≡ false → b ≢ 44 → b ≢ 93
    → step L at (after_item ns outer) b ≡ Err unexpected
item_other L at ns outer b space h g = grind (arith, nat_tests)

pub first_key_other : (L at : ℕ) (outer : List Waiting) (b : ℕ) → is_space b ≡ false → b ≢ 34 → b ≢ 125 → step L at (first_key outer) b ≡ Err unexpected
first_key_other L at outer b space h g = grind (arith, nat_tests)

pub next_key_other : (L at : ℕ) (ms : List Member) (outer : List Waiting) (b : ℕ) → is_space b ≡ false → b ≢ 34
    → step L at (next_key ms outer) b ≡ Err unexpected
next_key_other L at ms outer b space h = grind (arith, nat_tests)

pub member_other : (L at : ℕ) (ms : List Member) (outer : List Waiting) (b : ℕ) → is_space b ≡ false → b ≢ 44 → b ≢ 125
    → step L at (after_member ms outer) b ≡ Err unexpected
member_other L at ms outer b space h g = grind (arith, nat_tests)

pub whole_other : (L at : ℕ) (n : Node) (b : ℕ) → is_space b ≡ false → step L at (whole n) b ≡ Err unexpected
whole_other L at n b space = ap (λ v. cond v (Ok (whole n)) (Err unexpected)) space

-- after a key there is no colon
pub colon_other : (L at : ℕ) (ms : List Member) (place : ℕ) (key : List ℕ) (outer : List Waiting) (rest : List ℕ) → StartsWithNoSpace rest
    → ¬ (StartsWith 58 rest) → read_from L at (colon ms place key outer) rest ≡ fault at
unfolding read_from
colon_other L at ms place key outer [] space h = refl
colon_other L at ms place key outer (b ∷ bs) space h =
    let bad : step L at (colon ms place key outer) b ≡ Err unexpected = colon_step L at ms place key outer b space h in
    ap (λ x. go_on at x (λ t. read_from L (at + 1) t bs)) bad
  where
    colon_step : (L at : ℕ) (ms : List Member) (place : ℕ) (key : List ℕ) (outer : List Waiting) (b : ℕ) → is_space b ≡ false → b ≢ 58
        → step L at (colon ms place key outer) b ≡ Err unexpected
    colon_step L at ms place key outer b space h = grind (arith, nat_tests)

-- what skips white space
pub value_skips : (L : ℕ) (outer : List Waiting) → SkipsSpace L (value outer)
value_skips L outer at b h = ap (λ v. cond v (Ok (value outer)) (value_step L outer b)) h

pub colon_skips : (L : ℕ) (ms : List Member) (place : ℕ) (key : List ℕ) (outer : List Waiting) → SkipsSpace L (colon ms place key outer)
colon_skips L ms place key outer at b h =
    ap (λ v. cond v (Ok (colon ms place key outer)) (cond (b == 58) (Ok (value (in_object ms place key ∷ outer))) (Err unexpected))) h

-- one byte less is left
less : (byte : ℕ) (rest after : List ℕ) → StartsWith byte rest → after ≡ drop 1 rest → length after < length rest
less byte [] after h is = absurd h
less byte (b ∷ bs) after h is = let e : length after ≡ length bs = ap length is in omega (arith, e)

kept_waits : (ks : List Kept) (outer : List Waiting) → KeepsAll (reverse ks) outer → length outer ≡ length ks
kept_waits ks outer h = keeps_length (reverse ks) outer h ∙ length-reverse ks

-- a bracket and what comes after it
record Bracket (next : Next) (rest : List ℕ) : Type 0 where
  byte : ℕ
  state : List Waiting → State
  starts : StartsWith byte rest
  opens : (L at : ℕ) (outer : List Waiting) → step L at (value outer) byte ≡ opened L outer (state outer)
  is : (ks : List Kept) (repeat : Option ℕ) (outer : List Waiting) → KeepsAll (reverse ks) outer → repeat ≡ repeat_of outer
      → IsState next ks repeat (state outer)

bracket : (next : Next) (rest : List ℕ) → Opens next rest → Bracket next rest
bracket Value rest h = absurd h
bracket FirstItem rest h = record { byte = 91; state = λ o. first_item o; starts = h; opens = λ L at o. refl; is = λ ks repeat o k r. (o, refl, k, r) }
bracket (AfterItem items) rest h = absurd h
bracket FirstKey rest h = record { byte = 123; state = λ o. first_key o; starts = h; opens = λ L at o. refl; is = λ ks repeat o k r. (o, refl, k, r) }
bracket (NextKey object) rest h = absurd h
bracket (AfterMember object) rest h = absurd h
bracket (End json) rest h = absurd h

pub opened_too_deep : (next : Next) (L at : ℕ) (ks : List Kept) (outer : List Waiting) (rest : List ℕ) → Opens next rest → KeepsAll (reverse ks) outer
    → L ≤ length ks → read_from L at (value outer) rest ≡ deep at
opened_too_deep next L at ks outer rest h k m = let b = bracket next rest h in by_byte L at (value outer) b.byte rest (Err too_deep) b.starts
    (b.opens L at outer ∙ opens_none L outer (b.state outer) (omega (arith, m, kept_waits ks outer k)))

pub opened_goes : (next : Next) (L at : ℕ) (ks : List Kept) (repeat : Option ℕ) (outer : List Waiting) (rest : List ℕ) (there : ℕ) (after : List ℕ)
    → Opens next rest → KeepsAll (reverse ks) outer → repeat ≡ repeat_of outer → length ks < L → there ≡ at + 1 → after ≡ drop 1 rest
    → (x : State) × IsState next ks repeat x × (read_from L at (value outer) rest ≡ read_from L there x after) × (length after < length rest)
opened_goes next L at ks repeat outer rest there after h k r m place is = let b = bracket next rest h in let s = b.state outer in
    let read = by_byte L at (value outer) b.byte rest (Ok s) b.starts (b.opens L at outer ∙ opens_level L outer s (omega (arith, m, kept_waits ks outer k)))
    ∙ ap (λ p. read_from L p s (drop 1 rest)) (sym place) ∙ ap (read_from L there s) (sym is) in
    (s, b.is ks repeat outer k r, read, less b.byte rest after b.starts is)

-- the bytes end before the text does
pub unfinished : (next : Next) (ks : List Kept) (repeat : Option ℕ) (s : State) (L at : ℕ) → IsState next ks repeat s → ((json : Json) → next ≡ End json → ⊥)
    → read_from L at s [] ≡ fault at
unfolding read_from
unfinished Value ks repeat s L at st h = ap (λ t. ended at (end_of t)) st.1
unfinished FirstItem ks repeat s L at st h = ap (λ t. ended at (end_of t)) st.1
unfinished (AfterItem items) ks repeat s L at st h = ap (λ t. ended at (end_of t)) st.2
unfinished FirstKey ks repeat s L at st h = ap (λ t. ended at (end_of t)) st.1
unfinished (NextKey object) ks repeat s L at st h = ap (λ t. ended at (end_of t)) st.2
unfinished (AfterMember object) ks repeat s L at st h = ap (λ t. ended at (end_of t)) st.2
unfinished (End json) ks repeat s L at st h = absurd (h json refl)

pub finished : (n : Node) (s : State) (L at : ℕ) → s ≡ whole n → read_from L at s [] ≡ Ok n
unfolding read_from
finished n s L at h = ap (λ t. ended at (end_of t)) h

-- the same fault where the same is read
fails_same : (a b : Result Node Fault) (f : JsonFault) → a ≡ b → FailsSo b f → FailsSo a f
fails_same a b (NotJson at) e h = e ∙ h
fails_same a b (TooDeep at) e h = e ∙ h
fails_same a b (KeyTwice at) e h = h
fails_same a b NoMemory e h = tt

-- the same turn where the same is read
pub goes_same : (L : ℕ) (s t : State) (place : Place) (r : Result (Next × Place) JsonFault) (ks : List Kept) (repeat : Option ℕ)
    → read_at L place s ≡ read_at L place t → Goes L t place r ks repeat → Goes L s place r ks repeat
goes_same L s t place (Ok x) ks repeat e g = (g.0, g.1, e ∙ g.2, g.3)
goes_same L s t place (Err f) ks repeat e g = fails_same (read_at L place s) (read_at L place t) f e g

-- a byte that leads from a state to another
pub led : (L : ℕ) (s next : State) (byte : ℕ) (place there : Place) → StartsWith byte place.rest.now → step L place.at s byte ≡ Ok next
    → there.at ≡ place.at + 1 → there.rest.now ≡ drop 1 place.rest.now → read_at L place s ≡ read_at L there next
led L s next byte place there h goes at rest =
    by_byte L place.at s byte place.rest.now (Ok next) h goes ∙ ap (λ k. read_from L k next (drop 1 place.rest.now)) (sym at)
    ∙ ap (read_from L there.at next) (sym rest)

-- a turn by one byte, and a byte that is not allowed there, from a state that is known
module _ (L : ℕ) (s t : State) (byte : ℕ) (place : Place) (same : s ≡ t) (h : StartsWith byte place.rest.now) where
  pub goes_by : (I : State → Type 0) (next : State) (there : Place) → I next → step L place.at t byte ≡ Ok next → there.at ≡ place.at + 1
      → there.rest.now ≡ drop 1 place.rest.now → (x : State) × I x × (read_at L place s ≡ read_at L there x) × (length there.rest.now < length place.rest.now)
  goes_by I next there is goes at rest =
      let read = ap (read_at L place) same ∙ led L t next byte place there h goes at rest in (next, is, read, less byte place.rest.now there.rest.now h rest)

  pub barred : (f : JsonFault) → step L place.at t byte ≡ Err unexpected → f ≡ NotJson place.at → FailsSo (read_at L place s) f
  barred f goes is = subst (FailsSo (read_at L place s)) (sym is) (ap (read_at L place) same ∙ by_byte L place.at t byte place.rest.now (Err unexpected) h goes)
