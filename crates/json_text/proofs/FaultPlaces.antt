-- Where the byte machine stops no text goes on: each state is on the way to some text (`completes`), and a byte does the same where
-- one level more is allowed, but for a bracket too many (`fares`). What the public calls say of it: `is_only`, `only_memory`,
-- `stands_so`, `deep_so`.
use Rattle.std.proofs.Common.{◌≡◌, ◌≢◌, ℕ, zero, suc, ◌+◌, ◌*◌, true, List, [], ◌∷◌, ◌++◌, length, Option, Some, None, Ok, refl, sym, ap, ◌∙◌, subst, inl, inr}
use Rattle.std.proofs.Common.{arith, eq-eqb, encode_utf8, ◌-◌, ◌<◌, ◌≤◌, Bool, false, cond, ◌==◌, nat_lt, Result, Err, ltb-true, lt-ltb, codes, take}
use Rattle.std.proofs.Common.{append_assoc, append-nil, length-append, add-zero, zero-add, take_at}
use Rattle.std.proofs.lemmas.Bool.{cond-true, cond_both, cases_eq}
use Rattle.std.proofs.lemmas.Bool.Decides.{nat_tests}
use Rattle.json_text.specs.Reading.{Member, Waiting, in_list, in_object, nodes_of, fields_of, State, value, first_item, after_item, first_key, next_key, colon}
use Rattle.json_text.specs.Reading.{after_member, whole, word, digits, string, Hole, in_value, in_key, fill, StringPart, between, backslash, hex, high}
use Rattle.json_text.specs.Reading.{high_backslash, tail, NumberPart, minus, zero_int, int, point, fraction, exponent, exponent_sign, exponent_digits, may_end}
use Rattle.json_text.specs.Reading.{string_step, goes_on, ends, stops, StringStep, string_goes, put, step, digit_fits, unit_step, unit_after, hex_step}
use Rattle.json_text.specs.Reading.{tail_after, is_within, read_from, Stop, unexpected, too_deep, number_step, opened, value_step, word_step, after_step}
use Rattle.json_text.specs.Reading.{digits_step, Fault, end_of, ended, read_text}
use Rattle.json_text.specs.declared.fault.JsonFault.TheVariants.{NotJson, TooDeep, KeyTwice, NoMemory}
use Rattle.json_text.specs.Node.{Node, list_node, object_node, number_node, text_node, no_nodes, no_fields, null_node, truth_node}
use Rattle.json_text.specs.{Characters.hex_digit_of, Characters.pair_of, Faults.FailsAt, Faults.OpensTooMany, declared.fault.JsonFault.JsonFault, Kept.FailsSo}
use Rattle.json_text.specs.{Grammar.is_space, Grammar.IsText, Number.is_digit_above_zero}
use Rattle.json_text.proofs.WholeTexts.{read_ok, read_nil, follows_read, read_follows, read_spelled, spelled_read, read_err}
use Rattle.json_text.proofs.{NumberReads.digits_end, ByteSteps.put_same}
use Rattle.json_text.proofs.Following.{Ended}

-- a digit that a code unit can go on with
fits : (lead : Option ℕ) (more n : ℕ) → (b d : ℕ) × (hex_digit_of b ≡ Some d) × (digit_fits lead more n d ≡ true)
fits None more n = (48, 0, refl, zero_fits more n)
  where
    zero_fits : (more n : ℕ) → digit_fits None more n 0 ≡ true
    zero_fits more n = grind (arith, nat_tests)
fits (Some lead) more n = elim (cases_eq more 3) [ inl e ↦ (68, 13, refl, rw e refl) | inr other ↦ (67, 12, refl, twelve_fits lead more n other) ]
  where
    twelve_fits : (lead more n : ℕ) → more ≢ 3 → digit_fits (Some lead) more n 12 ≡ true
    twelve_fits lead more n other = grind (arith, nat_tests)

module _ (levels : ℕ) where
  -- some bytes take a state to the end of a text
  abbrev Completes : State → Type 0
  Completes state = (at : ℕ) → (more : List ℕ) × (n : Node) × (read_from levels at state more ≡ Ok n)

  by_byte : (state : State) (b : ℕ) → ((at : ℕ) → (next : State) × (step levels at state b ≡ Ok next) × Completes next) → Completes state
  by_byte state b f at = let s = f at in let c = s.2 (at + 1) in (b ∷ c.0, c.1, read_ok levels at state s.0 b c.0 s.1 ∙ c.2)

  by : (state next : State) (b : ℕ) → ((at : ℕ) → step levels at state b ≡ Ok next) → Completes next → Completes state
  by state next b e c = by_byte state b (λ at. (next, e at, c))

  -- the brackets that are left
  complete_put : (n : Node) (outer : List Waiting) → Completes (put n outer)
  complete_put n [] at = ([], n, read_nil levels at (whole n))
  complete_put n (in_list ns ∷ outer) at = let all = ns ++ n ∷ [] in
      by (after_item all outer) (put (list_node (nodes_of all)) outer) 93 (λ at. refl) (complete_put (list_node (nodes_of all)) outer) at
  complete_put n (in_object ms place key ∷ outer) at = let all = ms ++ record { place = place; key = key; of = n } ∷ [] in
      by (after_member all outer) (put (object_node (fields_of all)) outer) 125 (λ at. refl) (complete_put (object_node (fields_of all)) outer) at

  complete_number : (part : NumberPart) (spelling : List ℕ) (outer : List Waiting) → may_end part ≡ true → Completes (digits part spelling outer)
  complete_number part spelling outer m at = let (more, n, e) = complete_put (number_node spelling) outer at in let size = at + length more in
      let follows = digits_end part spelling (λ s. Ended size levels n outer (number_node s)) more m
      ((put_same size levels n (number_node spelling) outer more).0 (follows_read size levels n more (put (number_node spelling) outer) at refl e)) in
      (more, n, read_follows size levels n more (digits part spelling outer) at refl follows)

  complete_digits : (part : NumberPart) (spelling : List ℕ) (outer : List Waiting) → Completes (digits part spelling outer)
  complete_digits minus spelling outer = by _ (digits zero_int (spelling ++ 48 ∷ []) outer) 48 (λ at. refl) (complete_number zero_int _ outer refl)
  complete_digits zero_int spelling outer = complete_number zero_int spelling outer refl
  complete_digits int spelling outer = complete_number int spelling outer refl
  complete_digits point spelling outer = by _ (digits fraction (spelling ++ 48 ∷ []) outer) 48 (λ at. refl) (complete_number fraction _ outer refl)
  complete_digits fraction spelling outer = complete_number fraction spelling outer refl
  complete_digits exponent spelling outer =
      by _ (digits exponent_digits (spelling ++ 48 ∷ []) outer) 48 (λ at. refl) (complete_number exponent_digits _ outer refl)
  complete_digits exponent_sign spelling outer =
      by _ (digits exponent_digits (spelling ++ 48 ∷ []) outer) 48 (λ at. refl) (complete_number exponent_digits _ outer refl)
  complete_digits exponent_digits spelling outer = complete_number exponent_digits spelling outer refl

  complete_word : (rest : List ℕ) (c : ℕ) (n : Node) (outer : List Waiting) → Completes (word c rest n outer)
  complete_word [] c n outer = by (word c [] n outer) (put n outer) c (λ at. cond-true _ _ _ (eq-eqb c c refl)) (complete_put n outer)
  complete_word (d ∷ rest) c n outer = by _ (word d rest n outer) c (λ at. cond-true _ _ _ (eq-eqb c c refl)) (complete_word rest d n outer)

  -- strings, within a value or a key
  module _ (hole : Hole) (done : (t : List ℕ) → Completes (fill hole t)) where
    abbrev Good : List ℕ → StringStep → Type 0
    Good text (goes_on p t) = Completes (string p t hole)
    Good text ends = Completes (fill hole text)
    Good text stops = ⊥

    good : (text : List ℕ) (s : StringStep) → Good text s → (next : State) × (string_goes s (λ p t. string p t hole) (fill hole text) ≡ Ok next)
        × Completes next
    good text (goes_on p t) c = (string p t hole, refl, c)
    good text ends c = (fill hole text, refl, c)
    good text stops c = absurd c

    string_by : (part : StringPart) (text : List ℕ) (b : ℕ) → Good text (string_step part text b) → Completes (string part text hole)
    string_by part text b c = by_byte (string part text hole) b (λ at. good text (string_step part text b) c)

    at_between : (text : List ℕ) → Completes (string between text hole)
    at_between text = string_by between text 34 (done text)

    hex_by : (lead : Option ℕ) (more n : ℕ) (text : List ℕ) → ((d : ℕ) → Good text (unit_after text lead more (16 * n + d)))
        → Completes (string (hex lead more n) text hole)
    hex_by lead more n text g = let (b, d, e, f) = fits lead more n in
        string_by (hex lead more n) text b (subst (Good text) (sym (ap (hex_step text lead more n) e ∙ cond-true _ _ _ f)) (g d))

    at_hex : (lead : Option ℕ) → ((u : ℕ) (text : List ℕ) → Good text (unit_step text lead u)) → (more n : ℕ) (text : List ℕ)
        → Completes (string (hex lead more n) text hole)
    at_hex lead unit zero n text = hex_by lead zero n text (λ d. unit (16 * n + d) text)
    at_hex lead unit (suc more) n text = hex_by lead (suc more) n text (λ d. at_hex lead unit more (16 * n + d) text)

    at_low : (lead more n : ℕ) (text : List ℕ) → Completes (string (hex (Some lead) more n) text hole)
    at_low lead more n text = at_hex (Some lead) (λ u t. at_between (t ++ encode_utf8 (pair_of lead u))) more n text

    at_high_backslash : (lead : ℕ) (text : List ℕ) → Completes (string (high_backslash lead) text hole)
    at_high_backslash lead text = string_by (high_backslash lead) text 117 (at_low lead 3 0 text)

    at_high : (lead : ℕ) (text : List ℕ) → Completes (string (high lead) text hole)
    at_high lead text = string_by (high lead) text 92 (at_high_backslash lead text)

    alone : (u : ℕ) (text : List ℕ) → Good text (unit_step text None u)
    alone u text = cond_both (is_within 0xD800 0xDBFF u) _ _ (Good text) (λ _. at_high u text) (λ _. at_between (text ++ encode_utf8 u))

    at_tail : (n low width : ℕ) (text : List ℕ) → Good (text ++ low ∷ []) (goes_on (tail_after n) (text ++ low ∷ []))
        → Completes (string (tail low width n) text hole)
    at_tail n low width text c = string_by (tail low width n) text low (subst (Good text) (sym (cond-true _ _ _ (lowest low width))) c)
      where
        lowest : (low width : ℕ) → is_within low (low + width) low ≡ true
        lowest low width = grind (arith, nat_tests)

    tails : (n low width : ℕ) (text : List ℕ) → Completes (string (tail low width n) text hole)
    tails zero low width text = at_tail zero low width text (at_between (text ++ low ∷ []))
    tails (suc n) low width text = at_tail (suc n) low width text (tails n 128 63 (text ++ low ∷ []))

    within : (part : StringPart) (text : List ℕ) → Completes (string part text hole)
    within between text = at_between text
    within backslash text = string_by backslash text 34 (at_between (text ++ 34 ∷ []))
    within (hex None more n) text = at_hex None alone more n text
    within (hex (Some lead) more n) text = at_low lead more n text
    within (high lead) text = at_high lead text
    within (high_backslash lead) text = at_high_backslash lead text
    within (tail low width n) text = tails n low width text

  complete_value : (outer : List Waiting) → Completes (value outer)
  complete_value outer = by (value outer) (string between [] (in_value outer)) 34 (λ at. refl)
      (at_between (in_value outer) (λ t. complete_put (text_node t) outer) [])

  complete_colon : (ms : List Member) (place : ℕ) (key : List ℕ) (outer : List Waiting) → Completes (colon ms place key outer)
  complete_colon ms place key outer = by _ (value (in_object ms place key ∷ outer)) 58 (λ at. refl) (complete_value (in_object ms place key ∷ outer))

  complete_string : (hole : Hole) (part : StringPart) (text : List ℕ) → Completes (string part text hole)
  complete_string (in_value outer) = within (in_value outer) (λ t. complete_put (text_node t) outer)
  complete_string (in_key place ms outer) = within (in_key place ms outer) (λ t. complete_colon ms place t outer)

  completes : (state : State) → Completes state
  completes (value outer) = complete_value outer
  completes (first_item outer) = by _ (put (list_node no_nodes) outer) 93 (λ at. refl) (complete_put (list_node no_nodes) outer)
  completes (after_item ns outer) = by _ (put (list_node (nodes_of ns)) outer) 93 (λ at. refl) (complete_put (list_node (nodes_of ns)) outer)
  completes (first_key outer) = by _ (put (object_node no_fields) outer) 125 (λ at. refl) (complete_put (object_node no_fields) outer)
  completes (next_key ms outer) = by_byte _ 34 (λ at. (string between [] (in_key at ms outer), refl, complete_string (in_key at ms outer) between []))
  completes (colon ms place key outer) = complete_colon ms place key outer
  completes (after_member ms outer) = by _ (put (object_node (fields_of ms)) outer) 125 (λ at. refl) (complete_put (object_node (fields_of ms)) outer)
  completes (whole n) = complete_put n []
  completes (word c rest n outer) = complete_word rest c n outer
  completes (digits part spelling outer) = complete_digits part spelling outer
  completes (string part text hole) = complete_string hole part text

-- how many lists and objects are open
abbrev hole_depth : Hole → ℕ
hole_depth (in_value outer) = length outer
hole_depth (in_key place ms outer) = suc (length outer)

abbrev depth : State → ℕ
depth (value outer) = length outer
depth (whole n) = 0
depth (word c rest n outer) = length outer
depth (digits part spelling outer) = length outer
depth (string part text hole) = hole_depth hole
depth (first_item outer) = suc (length outer)
depth (after_item ns outer) = suc (length outer)
depth (first_key outer) = suc (length outer)
depth (next_key ms outer) = suc (length outer)
depth (colon ms place key outer) = suc (length outer)
depth (after_member ms outer) = suc (length outer)

module _ (levels : ℕ) where
  -- what a byte does at these levels, beside what it does at one more
  abbrev Fares : Result State Stop → Result State Stop → Type 0
  Fares (Ok s) other = (other ≡ Ok s) × (depth s ≤ levels)
  Fares (Err unexpected) other = other ≡ Err unexpected
  Fares (Err too_deep) other = (s : State) × (other ≡ Ok s)

  fares_if : (b : Bool) (x y z w : Result State Stop) → Fares x z → Fares y w → Fares (cond b x y) (cond b z w)
  fares_if true x y z w f g = f
  fares_if false x y z w f g = g

  on : (s : State) → depth s ≤ levels → Fares (Ok s) (Ok s)
  on s d = (refl, d)

  on_put : (n : Node) (outer : List Waiting) → length outer ≤ levels → Fares (Ok (put n outer)) (Ok (put n outer))
  on_put n [] l = (refl, l)
  on_put n (in_list ns ∷ outer) l = (refl, l)
  on_put n (in_object ms place key ∷ outer) l = (refl, l)

  opened_fares : (outer : List Waiting) (s : State) → depth s ≡ suc (length outer) → length outer ≤ levels
      → Fares (opened levels outer s) (opened (suc levels) outer s)
  opened_fares outer s d l = let more : opened (suc levels) outer s ≡ Ok s = cond-true _ _ _ (lt-ltb (length outer) (suc levels) (omega arith)) in
      cond_both (nat_lt (length outer) levels) _ _ (λ x. Fares x (opened (suc levels) outer s))
      (λ t. let h : length outer < levels = ltb-true (length outer) levels t in (more, omega arith)) (λ _. (s, more))

  value_fares : (outer : List Waiting) (b : ℕ) → length outer ≤ levels → Fares (value_step levels outer b) (value_step (suc levels) outer b)
  value_fares outer b l = fares_if (b == 34) _ _ _ _ (on (string between [] (in_value outer)) l) (
      fares_if (b == 91) _ _ _ _ (opened_fares outer (first_item outer) refl l) (
      fares_if (b == 123) _ _ _ _ (opened_fares outer (first_key outer) refl l) (
      fares_if (b == 45) _ _ _ _ (on (digits minus (b ∷ []) outer) l) (
      fares_if (b == 48) _ _ _ _ (on (digits zero_int (b ∷ []) outer) l) (
      fares_if (is_digit_above_zero b) _ _ _ _ (on (digits int (b ∷ []) outer) l) (
      fares_if (b == 110) _ _ _ _ (on (word 117 (codes "ll") null_node outer) l) (
      fares_if (b == 116) _ _ _ _ (on (word 114 (codes "ue") (truth_node true) outer) l) (
      fares_if (b == 102) _ _ _ _ (on (word 97 (codes "lse") (truth_node false) outer) l) refl))))))))

  after_item_fares : (ns : List Node) (outer : List Waiting) (b : ℕ) → suc (length outer) ≤ levels
      → Fares (after_step (after_item ns outer) b) (after_step (after_item ns outer) b)
  after_item_fares ns outer b l = fares_if (is_space b) _ _ _ _ (on (after_item ns outer) l) (
      fares_if (b == 44) _ _ _ _ (on (value (in_list ns ∷ outer)) l) (
      fares_if (b == 93) _ _ _ _ (on_put (list_node (nodes_of ns)) outer (omega arith)) refl))

  after_member_fares : (ms : List Member) (outer : List Waiting) (b : ℕ) → suc (length outer) ≤ levels
      → Fares (after_step (after_member ms outer) b) (after_step (after_member ms outer) b)
  after_member_fares ms outer b l = fares_if (is_space b) _ _ _ _ (on (after_member ms outer) l) (
      fares_if (b == 44) _ _ _ _ (on (next_key ms outer) l) (
      fares_if (b == 125) _ _ _ _ (on_put (object_node (fields_of ms)) outer (omega arith)) refl))

  put_fares : (n : Node) (outer : List Waiting) (b : ℕ) → length outer ≤ levels → Fares (after_step (put n outer) b) (after_step (put n outer) b)
  put_fares n [] b l = fares_if (is_space b) _ _ _ _ (on (whole n) (omega arith)) refl
  put_fares n (in_list ns ∷ outer) b l = after_item_fares (ns ++ n ∷ []) outer b l
  put_fares n (in_object ms place key ∷ outer) b l = after_member_fares (ms ++ record { place = place; key = key; of = n } ∷ []) outer b l

  digits_fares : (o : Option NumberPart) (part : NumberPart) (spelling : List ℕ) (outer : List Waiting) (b : ℕ) → length outer ≤ levels
      → Fares (digits_step o part spelling outer b) (digits_step o part spelling outer b)
  digits_fares (Some p) part spelling outer b l = on (digits p (spelling ++ b ∷ []) outer) l
  digits_fares None part spelling outer b l = fares_if (may_end part) _ _ _ _ (put_fares (number_node spelling) outer b l) refl

  word_fares : (c : ℕ) (rest : List ℕ) (n : Node) (outer : List Waiting) → length outer ≤ levels
      → Fares (Ok (word_step c rest n outer)) (Ok (word_step c rest n outer))
  word_fares c [] n outer l = on_put n outer l
  word_fares c (d ∷ rest) n outer l = on (word d rest n outer) l

  filled_on : (hole : Hole) (text : List ℕ) → hole_depth hole ≤ levels → Fares (Ok (fill hole text)) (Ok (fill hole text))
  filled_on (in_value outer) text l = on_put (text_node text) outer l
  filled_on (in_key place ms outer) text l = on (colon ms place text outer) l

  string_fares : (s : StringStep) (text : List ℕ) (hole : Hole) → hole_depth hole ≤ levels
      → Fares (string_goes s (λ p t. string p t hole) (fill hole text)) (string_goes s (λ p t. string p t hole) (fill hole text))
  string_fares (goes_on p t) text hole l = on (string p t hole) l
  string_fares ends text hole l = filled_on hole text l
  string_fares stops text hole l = refl

  fares : (state : State) (at b : ℕ) → depth state ≤ levels → Fares (step levels at state b) (step (suc levels) at state b)
  fares (value outer) at b h = fares_if (is_space b) _ _ _ _ (on (value outer) h) (value_fares outer b h)
  fares (first_item outer) at b h = fares_if (is_space b) _ _ _ _ (on (first_item outer) h) (
      fares_if (b == 93) _ _ _ _ (on_put (list_node no_nodes) outer (omega arith)) (value_fares (in_list [] ∷ outer) b h))
  fares (after_item ns outer) at b h = after_item_fares ns outer b h
  fares (first_key outer) at b h = fares_if (is_space b) _ _ _ _ (on (first_key outer) h) (
      fares_if (b == 34) _ _ _ _ (on (string between [] (in_key at [] outer)) h) (
      fares_if (b == 125) _ _ _ _ (on_put (object_node no_fields) outer (omega arith)) refl))
  fares (next_key ms outer) at b h = fares_if (is_space b) _ _ _ _ (on (next_key ms outer) h) (
      fares_if (b == 34) _ _ _ _ (on (string between [] (in_key at ms outer)) h) refl)
  fares (colon ms place key outer) at b h = fares_if (is_space b) _ _ _ _ (on (colon ms place key outer) h) (
      fares_if (b == 58) _ _ _ _ (on (value (in_object ms place key ∷ outer)) h) refl)
  fares (after_member ms outer) at b h = after_member_fares ms outer b h
  fares (whole n) at b h = fares_if (is_space b) _ _ _ _ (on (whole n) (omega arith)) refl
  fares (word c rest n outer) at b h = fares_if (b == c) _ _ _ _ (word_fares c rest n outer h) refl
  fares (digits part spelling outer) at b h = digits_fares (number_step part b) part spelling outer b h
  fares (string part text hole) at b h = string_fares (string_step part text b) text hole h

abbrev fault : Stop → ℕ → Fault
fault why at = record { why = why; at = at }

both : {P : Type 0} (r : Result Node Fault) (n : Node) (f : Fault) → r ≡ Ok n → r ≡ Err f → P
both r n f g h = cc

ended_err : (at : ℕ) (o : Option Node) (f : Fault) → ended at o ≡ Err f → f ≡ fault unexpected at
ended_err at None f h = cc
ended_err at (Some n) f h = cc

take_past : (front rest : List ℕ) (k : ℕ) → length front < k → k ≤ length (front ++ rest)
    → (b : ℕ) × (bs more : List ℕ) × (rest ≡ b ∷ bs) × (take k (front ++ rest) ≡ front ++ b ∷ more)
take_past [] [] k l u = absurd (omega (arith, l, u))
take_past [] (b ∷ bs) k l u = (b, bs, take (k - 1) bs, refl, ap (λ k. take k (b ∷ bs)) (let e : k ≡ suc (k - 1) = omega (arith, l) in e))
take_past (a ∷ front) rest k l u = let (b, bs, more, is, e) = take_past front rest (k - 1) (omega (arith, l)) (omega (arith, u)) in
    (b, bs, more, is, ap (λ k. take k (a ∷ (front ++ rest))) (let e : k ≡ suc (k - 1) = omega (arith, l) in e) ∙ ap (λ t. a ∷ t) e)

module _ (levels : ℕ) where
  -- where the machine stops: at the end, or at a byte
  abbrev StopsAt : State → Fault → List ℕ → Type 0
  StopsAt state f [] = f.why ≡ unexpected
  StopsAt state f (b ∷ bs) = step levels f.at state b ≡ Err f.why

  -- the bytes before a fault and the state after them, which are the same at one level more
  record Stopped (from : State) (at : ℕ) (f : Fault) (bytes : List ℕ) : Type 0 where
    front : List ℕ
    rest : List ℕ
    state : State
    joined : bytes ≡ front ++ rest
    place : f.at ≡ at + length front
    shallow : depth state ≤ levels
    same : (more : List ℕ) → read_from levels at from (front ++ more) ≡ read_from levels f.at state more
    deeper : (more : List ℕ) → read_from (suc levels) at from (front ++ more) ≡ read_from (suc levels) f.at state more
    stops : StopsAt state f rest

  so : {from : State} {at : ℕ} {f : Fault} {bytes : List ℕ} (front rest : List ℕ) (state : State) → bytes ≡ front ++ rest → f.at ≡ at + length front
      → depth state ≤ levels → ((more : List ℕ) → read_from levels at from (front ++ more) ≡ read_from levels f.at state more)
      → ((more : List ℕ) → read_from (suc levels) at from (front ++ more) ≡ read_from (suc levels) f.at state more) → StopsAt state f rest
      → Stopped from at f bytes
  so a b c d e f g h i = record { front = a; rest = b; state = c; joined = d; place = e; shallow = f; same = g; deeper = h; stops = i }

  stops_here : (state : State) (at : ℕ) (f : Fault) (bytes : List ℕ) → depth state ≤ levels → f.at ≡ at → StopsAt state f bytes → Stopped state at f bytes
  stops_here state at f bytes s e h = so [] bytes state refl (e ∙ sym (add-zero at)) s (λ more. ap (λ n. read_from levels n state more) (sym e))
      (λ more. ap (λ n. read_from (suc levels) n state more) (sym e)) h

  stopped_by : (from : State) (at b : ℕ) (bs : List ℕ) (f : Fault) (r other : Result State Stop) → step levels at from b ≡ r
      → step (suc levels) at from b ≡ other → Fares levels r other → depth from ≤ levels → read_from levels at from (b ∷ bs) ≡ Err f
      → ((next : State) → depth next ≤ levels → read_from levels (at + 1) next bs ≡ Err f → Stopped next (at + 1) f bs) → Stopped from at f (b ∷ bs)
  stopped_by from at b bs f (Err why) other e o t s h g = let is : fault why at ≡ f = let k = sym (read_err levels at from why b bs e) ∙ h in cc in
      stops_here from at f (b ∷ bs) s (ap (λ x. x.at) (sym is)) (subst (λ f. step levels f.at from b ≡ Err f.why) is e)
  stopped_by from at b bs f (Ok next) other e o t s h g = let r = g next t.1 (sym (read_ok levels at from next b bs e) ∙ h) in
      so (b ∷ r.front) r.rest r.state (ap (λ t. b ∷ t) r.joined) (r.place ∙ omega arith) r.shallow
      (λ more. read_ok levels at from next b (r.front ++ more) e ∙ r.same more)
      (λ more. read_ok (suc levels) at from next b (r.front ++ more) (o ∙ t.0) ∙ r.deeper more) r.stops

  stopped : (bytes : List ℕ) (from : State) (at : ℕ) (f : Fault) → depth from ≤ levels → read_from levels at from bytes ≡ Err f → Stopped from at f bytes
  stopped [] from at f s h = let e = ended_err at (end_of from) f (sym (read_nil levels at from) ∙ h) in
      stops_here from at f [] s (ap (λ x. x.at) e) (ap (λ x. x.why) e)
  stopped (b ∷ bs) from at f s h = stopped_by from at b bs f (step levels at from b) (step (suc levels) at from b) refl refl (fares levels from at b s) s h
      (λ next t e. stopped bs next (at + 1) f t e)

  -- no text goes on with the byte
  bars : (f : Fault) (bytes : List ℕ) (s : Stopped (value []) 0 f bytes) (b : ℕ) (bs more : List ℕ) (n : Node) → s.rest ≡ b ∷ bs
      → read_text levels (s.front ++ b ∷ more) ≡ Ok n → ⊥
  bars f bytes s b bs more n e h = both (read_text levels (s.front ++ b ∷ more)) n (fault f.why f.at) h
      (s.same (b ∷ more) ∙ read_err levels f.at s.state f.why b more (subst (StopsAt s.state f) e s.stops))

read_fails : (levels : ℕ) (bytes : List ℕ) (f : Fault) → read_text levels bytes ≡ Err f → FailsAt levels bytes f.at
read_fails levels bytes f h = let s = stopped levels bytes (value []) 0 f (omega arith) h in
    let size : f.at ≡ length s.front = s.place ∙ zero-add (length s.front) in
    let front : take f.at bytes ≡ s.front = ap (λ t. take f.at t) s.joined ∙ take_at s.front s.rest f.at (sym size) in record {
      within = omega (arith, size, ap length s.joined, length-append s.front s.rest);
      front = let (more, n, e) = completes levels s.state f.at in
          (more, n, read_spelled levels (take f.at bytes ++ more) n (ap (λ t. read_text levels (t ++ more)) front ∙ s.same more ∙ e));
      longest = λ k l u (more, n, text).
          let (b, bs, rest, is, e) = take_past s.front s.rest k (omega (arith, l, size)) (omega (arith, u, ap length s.joined)) in
          bars levels f bytes s b bs (rest ++ more) n is
          (sym (ap (read_text levels) (ap (λ t. take k t ++ more) s.joined ∙ ap (λ t. t ++ more) e ∙ append_assoc s.front (b ∷ rest) more))
          ∙ spelled_read levels (take k bytes ++ more) n text);
      none = λ n text. both (read_text levels bytes) n f (spelled_read levels bytes n text) h;
    }

next_byte : (levels : ℕ) (bytes : List ℕ) (f : Fault) (s : Stopped levels (value []) 0 f bytes) (b : ℕ) (bs : List ℕ) → s.rest ≡ b ∷ bs
    → (f.at < length bytes) × (take (suc f.at) bytes ≡ s.front ++ b ∷ [])
next_byte levels bytes f s b bs e =
    let all : bytes ≡ (s.front ++ b ∷ []) ++ bs = s.joined ∙ ap (λ t. s.front ++ t) e ∙ sym (append_assoc s.front (b ∷ []) bs) in
    let size : suc f.at ≡ length (s.front ++ b ∷ []) = omega (arith, s.place, length-append s.front (b ∷ [])) in
    let front = ap (take (suc f.at)) all ∙ take_at (s.front ++ b ∷ []) bs (suc f.at) (sym size) in
    (omega (arith, size, ap length all, length-append (s.front ++ b ∷ []) bs), front)

opens_too_many : (levels : ℕ) (bytes : List ℕ) (f : Fault) → read_text levels bytes ≡ Err f → f.why ≡ too_deep → OpensTooMany levels bytes f.at
opens_too_many levels bytes f h w = let s = stopped levels bytes (value []) 0 f (omega arith) h in at s s.rest refl s.stops
  where
    deep : (s : Stopped levels (value []) 0 f bytes) (b : ℕ) (bs : List ℕ) → s.rest ≡ b ∷ bs → Fares levels (Err too_deep) (step (suc levels) f.at s.state b)
        → OpensTooMany levels bytes f.at
    deep s b bs e (next, o) = let (within, front) = next_byte levels bytes f s b bs e in let (more, n, k) = completes (suc levels) next (f.at + 1) in
        let text = read_spelled (suc levels) (take (suc f.at) bytes ++ more) n
        (ap (λ t. read_text (suc levels) (t ++ more)) front ∙ ap (read_text (suc levels)) (append_assoc s.front (b ∷ []) more)
        ∙ s.deeper (b ∷ more) ∙ read_ok (suc levels) f.at s.state next b more o ∙ k) in (within, (more, n, text))

    at : (s : Stopped levels (value []) 0 f bytes) (rest : List ℕ) → s.rest ≡ rest → StopsAt levels s.state f rest → OpensTooMany levels bytes f.at
    at s [] e t = absurd (let e : unexpected ≡ too_deep = sym t ∙ w in cc)
    at s (b ∷ bs) e t = deep s b bs e (subst (λ r. Fares levels r (step (suc levels) f.at s.state b)) (t ∙ ap Err w) (fares levels s.state f.at b s.shallow))

opens_no_more : (levels : ℕ) (bytes : List ℕ) (f : Fault) → read_text levels bytes ≡ Err f → f.why ≡ unexpected → ¬ OpensTooMany levels bytes f.at
opens_no_more levels bytes f h w (within, (more, n, text)) = let s = stopped levels bytes (value []) 0 f (omega arith) h in at s s.rest refl s.stops
  where
    at : (s : Stopped levels (value []) 0 f bytes) (rest : List ℕ) → s.rest ≡ rest → StopsAt levels s.state f rest → ⊥
    at s [] e t = omega (arith, within, s.place, ap length (s.joined ∙ ap (λ t. s.front ++ t) e ∙ append-nil s.front))
    at s (b ∷ bs) e t = let o : step (suc levels) f.at s.state b ≡ Err unexpected =
        subst (λ r. Fares levels r (step (suc levels) f.at s.state b)) (t ∙ ap Err w) (fares levels s.state f.at b s.shallow) in
        both (read_text (suc levels) (take (suc f.at) bytes ++ more)) n (fault unexpected f.at)
        (spelled_read (suc levels) (take (suc f.at) bytes ++ more) n text)
        (ap (λ t. read_text (suc levels) (t ++ more)) (next_byte levels bytes f s b bs e).1 ∙ ap (read_text (suc levels)) (append_assoc s.front (b ∷ []) more)
        ∙ s.deeper (b ∷ more) ∙ read_err (suc levels) f.at s.state unexpected b more o)

-- a text has one node
pub is_only : (L : ℕ) (bs : List ℕ) (n m : Node) → read_text L bs ≡ Ok n → IsText L bs m → n ≡ m
is_only L bs n m e h = let same : Ok n ≡ Ok m = sym e ∙ spelled_read L bs m h in cc

-- a text is refused for memory alone
pub only_memory : (L : ℕ) (bs : List ℕ) (m : Node) (f : JsonFault) → IsText L bs m → FailsSo (read_text L bs) f → f ≡ NoMemory
only_memory L bs m (NotJson at) h g = cc (spelled_read L bs m h, g)
only_memory L bs m (TooDeep at) h g = cc (spelled_read L bs m h, g)
only_memory L bs m (KeyTwice at) h g = absurd g
only_memory L bs m NoMemory h g = refl

-- the place of a byte that is not allowed
pub stands_so : (L : ℕ) (bs : List ℕ) (f : JsonFault) (at : ℕ) → FailsSo (read_text L bs) f → f ≡ NotJson at → FailsAt L bs at × ¬ (OpensTooMany L bs at)
stands_so L bs f at g is = let e : read_text L bs ≡ Err (record { why = unexpected; at = at }) = subst (FailsSo (read_text L bs)) is g in
    (read_fails L bs (record { why = unexpected; at = at }) e, opens_no_more L bs (record { why = unexpected; at = at }) e refl)

pub deep_so : (L : ℕ) (bs : List ℕ) (f : JsonFault) (at : ℕ) → FailsSo (read_text L bs) f → f ≡ TooDeep at → FailsAt L bs at × OpensTooMany L bs at
deep_so L bs f at g is = let e : read_text L bs ≡ Err (record { why = too_deep; at = at }) = subst (FailsSo (read_text L bs)) is g in
    (read_fails L bs (record { why = too_deep; at = at }) e, opens_too_many L bs (record { why = too_deep; at = at }) e refl)

pub same_fault : {A : Type 0} {f g : JsonFault} → ◌≡◌ {A = Result A JsonFault} (Err f) (Err g) → f ≡ g
same_fault h = cc
