-- A byte at the front: `by_byte`. A token by itself, and the same token at the front of a text: `string_takes`, `value_number`,
-- `value_word` and where they stop. White space that the reader passes over: `after_space`, `IsSpace-more`.
use Rattle.std.proofs.Common.{◌≡◌, ℕ, suc, ◌+◌, List, [], ◌∷◌, ◌++◌, length, take, drop, true, false, Option, Some, None, Result, Ok, Err, refl, sym, ap, ◌∙◌}
use Rattle.std.proofs.Common.{subst, arith, append_assoc, append-nil, Bool, ◌==◌, cond, ◌<◌, ◌≤◌}
use Rattle.std.proofs.lemmas.List.{length-drop, take-append-drop, length-take-le}
use Rattle.json_text.specs.Reading.{Stop, NumberPart, number_step, may_end, StringPart, StringStep, goes_on, ends, stops, string_step, between, Waiting}
use Rattle.json_text.specs.Reading.{in_list, in_object, State, string, Hole, fill, digits, word, word_step, digits_step, put, step, string_goes, go_on}
use Rattle.json_text.specs.Reading.{read_from, Fault, unexpected, end_of, ended, after_step, value, too_deep}
use Rattle.json_text.specs.declared.fault.JsonFault.TheVariants.{NotJson, TooDeep, KeyTwice, NoMemory}
use Rattle.json_text.specs.Kept.{SkipsSpace, StartsWith, BeginsNumber, BeginsWord, KeepsAll, StringFault, FailsSo, read_at}
use Rattle.json_text.specs.{Scan.scan_string, Scan.string_on, Scan.scan_number, Scan.number_on, Scan.number_end, Scan.scan_word, Node.Node, Node.number_node}
use Rattle.json_text.specs.{declared.fault.JsonFault.JsonFault, Grammar.IsSpace, Grammar.is_space, declared.state.Place.Place, declared.state.Kept.Kept}
use Rattle.std.specs.Str.{IsUtf8}
use Rattle.json_text.proofs.NumberReads.{number_utf8}

abbrev pub fault : ℕ → Result Node Fault
fault at = Err (record { why = unexpected; at = at })

-- what a byte does is what is read
pub by_byte : (L at : ℕ) (s : State) (byte : ℕ) (rest : List ℕ) (r : Result State Stop) → StartsWith byte rest → step L at s byte ≡ r
    → read_from L at s rest ≡ go_on at r (λ t. read_from L (at + 1) t (drop 1 rest))
unfolding read_from
by_byte L at s byte [] r h e = absurd h
by_byte L at s byte (b ∷ bs) r h e = ap (λ x. go_on at x (λ t. read_from L (at + 1) t bs)) (ap (step L at s) h ∙ e)

-- Of a token with m bytes before it: what is read goes on after the bytes that a scan counts, or has its fault.
abbrev Agrees : {A : Type 0} → ℕ → ℕ → ℕ → List ℕ → (A → ℕ) → (A → ℕ → State) → Result Node Fault → Result A ℕ → Type 0
Agrees L at m bs count state read (Ok x) = (n : ℕ) × (count x ≡ m + n) × (read ≡ read_from L (at + n) (state x n) (drop n bs))
Agrees L at m bs count state read (Err e) = (n : ℕ) × (e ≡ m + n) × (read ≡ fault (at + n))

later : {A : Type 0} (L at m b : ℕ) (bs : List ℕ) (count : A → ℕ) (state next : A → ℕ → State) (read : Result Node Fault) (r : Result A ℕ)
    → ((x : A) (n : ℕ) → next x n ≡ state x (suc n)) → Agrees L (at + 1) (m + 1) bs count next read r → Agrees L at m (b ∷ bs) count state read r
later L at m b bs count state next read (Ok x) same (n, e, h) = let on = h ∙ ap (λ s. read_from L ((at + 1) + n) s (drop n bs)) (same x n)
    ∙ ap (λ k. read_from L k (state x (suc n)) (drop n bs)) (omega arith) in (suc n, omega (arith, e), on)
later L at m b bs count state next read (Err k) same (n, e, h) = (suc n, omega (arith, e), h ∙ ap fault (omega arith))

stops_here : (at m : ℕ) (read : Result Node Fault) → read ≡ fault at → (n : ℕ) × (m ≡ m + n) × (read ≡ fault (at + n))
stops_here at m read h = (0, omega arith, h ∙ ap fault (omega arith))

-- A token after its first byte: what is read goes on after it, or has its fault.
module _ {A : Type 0} (L at : ℕ) (s t : State) (byte : ℕ) (rest : List ℕ) (count : A → ℕ) (state : A → ℕ → State) (r : Result A ℕ)
    (h : StartsWith byte rest) (goes : step L at s byte ≡ Ok t)
    (agrees : Agrees L (at + 1) 0 (drop 1 rest) count state (read_from L (at + 1) t (drop 1 rest)) r) where
  takes : (x : A) (there : ℕ) (after : List ℕ) → r ≡ Ok x → there ≡ at + 1 + count x → after ≡ drop (count x) (drop 1 rest)
      → read_from L at s rest ≡ read_from L there (state x (count x)) after
  takes x there after scan place is =
      let (k, f, g) = subst (Agrees L (at + 1) 0 (drop 1 rest) count state (read_from L (at + 1) t (drop 1 rest))) scan agrees in
      by_byte L at s byte rest (Ok t) h goes ∙ g ∙ ap (λ k. read_from L (at + 1 + k) (state x k) (drop k (drop 1 rest))) (omega (arith, f))
      ∙ ap (λ k. read_from L k (state x (count x)) (drop (count x) (drop 1 rest))) (sym place) ∙ ap (read_from L there (state x (count x))) (sym is)

  fails : (n there : ℕ) → r ≡ Err n → there ≡ at + 1 + n → read_from L at s rest ≡ fault there
  fails n there scan place = let (k, f, g) = subst (Agrees L (at + 1) 0 (drop 1 rest) count state (read_from L (at + 1) t (drop 1 rest))) scan agrees in
      by_byte L at s byte rest (Ok t) h goes ∙ g ∙ ap fault (omega (arith, f, place))

module _ (L : ℕ) (hole : Hole) where
  abbrev StringAgrees : ℕ → ℕ → List ℕ → Result Node Fault → Result (List ℕ × ℕ) ℕ → Type 0
  StringAgrees at m bs = Agrees L at m bs (λ x. x.1) (λ x _. fill hole x.0)

  string_by : (at m : ℕ) (text : List ℕ) (b : ℕ) (bs : List ℕ) (s : StringStep)
      → ((p : StringPart) (u : List ℕ) → StringAgrees (at + 1) (m + 1) bs (read_from L (at + 1) (string p u hole) bs) (scan_string p u (m + 1) bs))
      → StringAgrees at m (b ∷ bs) (go_on at (string_goes s (λ p u. string p u hole) (fill hole text)) (λ t. read_from L (at + 1) t bs))
      (string_on s text m (λ p u. scan_string p u (m + 1) bs))
  string_by at m text b bs (goes_on p u) f = later L at m b bs _ _ _ _ (scan_string p u (m + 1) bs) (λ _ _. refl) (f p u)
  string_by at m text b bs ends f = (1, refl, refl)
  string_by at m text b bs stops f = stops_here at m _ refl

  string_agrees : (bs : List ℕ) (at m : ℕ) (part : StringPart) (text : List ℕ)
      → StringAgrees at m bs (read_from L at (string part text hole) bs) (scan_string part text m bs)
  unfolding scan_string read_from
  string_agrees [] at m part text = stops_here at m _ refl
  string_agrees (b ∷ bs) at m part text = string_by at m text b bs (string_step part text b) (λ p u. string_agrees bs (at + 1) (m + 1) p u)

-- white space changes nothing
space_runs : (L : ℕ) (s : State) → SkipsSpace L s → (at : ℕ) (front rest : List ℕ) → IsSpace front
    → read_from L at s (front ++ rest) ≡ read_from L (at + length front) s rest
unfolding read_from
space_runs L s skips at [] rest h = ap (λ k. read_from L k s rest) (omega arith)
space_runs L s skips at (b ∷ bs) rest h = ap (λ x. go_on at x (λ other. read_from L (at + 1) other (bs ++ rest))) (skips at b h.0)
    ∙ space_runs L s skips (at + 1) bs rest h.1 ∙ ap (λ k. read_from L k s rest) (omega arith)

module _ (L : ℕ) (outer : List Waiting) where
  -- the number that a spelling and what is read after it make
  abbrev Spelled : List ℕ → List ℕ → ℕ → ℕ → State
  Spelled spelling bs e n = put (number_node (spelling ++ take n bs)) outer

  whole_read : (at : ℕ) (spelling : List ℕ) (b : ℕ) (bs : List ℕ) (outer : List Waiting)
      → go_on at (after_step (put (number_node spelling) outer) b) (λ s. read_from L (at + 1) s bs) ≡ read_from L at (put (number_node spelling) outer) (b ∷ bs)
  unfolding read_from
  whole_read at spelling b bs [] = refl
  whole_read at spelling b bs (in_list ns ∷ outer) = refl
  whole_read at spelling b bs (in_object ms place key ∷ outer) = refl

  -- a number that may end here
  ends_here : (at m : ℕ) (spelling bs : List ℕ) (read : Result Node Fault) → read ≡ read_from L at (put (number_node spelling) outer) bs
      → Agrees L at m bs (λ e. e) (Spelled spelling bs) read (Ok m)
  ends_here at m spelling bs read h = let on = h ∙ ap (λ s. read_from L at (put (number_node s) outer) bs) (sym (append-nil spelling))
      ∙ ap (λ k. read_from L k (put (number_node (spelling ++ [])) outer) bs) (omega arith) in (0, omega arith, on)

  number_by : (at m : ℕ) (part : NumberPart) (spelling : List ℕ) (b : ℕ) (bs : List ℕ) (o : Option NumberPart)
      → ((p : NumberPart) → Agrees L (at + 1) (m + 1) bs (λ e. e) (Spelled (spelling ++ b ∷ []) bs)
      (read_from L (at + 1) (digits p (spelling ++ b ∷ []) outer) bs) (scan_number p (m + 1) bs))
      → Agrees L at m (b ∷ bs) (λ e. e) (Spelled spelling (b ∷ bs)) (go_on at (digits_step o part spelling outer b) (λ s. read_from L (at + 1) s bs))
      (number_on o part m (λ p. scan_number p (m + 1) bs))
  number_by at m part spelling b bs (Some p) f = later L at m b bs _ _ _ _ (scan_number p (m + 1) bs)
      (λ _ n. ap (λ s. put (number_node s) outer) (append_assoc spelling (b ∷ []) (take n bs))) (f p)
  number_by at m part spelling b bs None f = elim (may_end part) as (λ v. Agrees L at m (b ∷ bs) (λ e. e) (Spelled spelling (b ∷ bs))
      (go_on at (cond v (after_step (put (number_node spelling) outer) b) (Err unexpected)) (λ s. read_from L (at + 1) s bs)) (cond v (Ok m) (Err m)))
      [ true ↦ ends_here at m spelling (b ∷ bs) _ (whole_read at spelling b bs outer) | false ↦ stops_here at m _ refl ]

  end_read : (at : ℕ) (s : State) → ended at (end_of s) ≡ read_from L at s []
  unfolding read_from
  end_read at s = refl

  nothing : (v : Bool) → ◌≡◌ {A = Option Node} None (cond v None None)
  nothing true = refl
  nothing false = refl

  end_by : (outer : List Waiting) (part : NumberPart) (spelling : List ℕ)
      → end_of (digits part spelling outer) ≡ cond (may_end part) (end_of (put (number_node spelling) outer)) None
  end_by [] part spelling = refl
  end_by (in_list ns ∷ outer) part spelling = nothing (may_end part)
  end_by (in_object ms place key ∷ outer) part spelling = nothing (may_end part)

  number_ends : (at m : ℕ) (part : NumberPart) (spelling : List ℕ)
      → Agrees L at m [] (λ e. e) (Spelled spelling []) (ended at (end_of (digits part spelling outer))) (number_end part m)
  number_ends at m part spelling =
      subst (λ o. Agrees L at m [] (λ e. e) (Spelled spelling []) (ended at o) (number_end part m)) (sym (end_by outer part spelling)) (elim (may_end part) as
      (λ v. Agrees L at m [] (λ e. e) (Spelled spelling []) (ended at (cond v (end_of (put (number_node spelling) outer)) None)) (cond v (Ok m) (Err m)))
      [ true ↦ ends_here at m spelling [] _ (end_read at (put (number_node spelling) outer)) | false ↦ stops_here at m _ refl ])

  number_agrees : (bs : List ℕ) (at m : ℕ) (part : NumberPart) (spelling : List ℕ)
      → Agrees L at m bs (λ e. e) (Spelled spelling bs) (read_from L at (digits part spelling outer) bs) (scan_number part m bs)
  unfolding scan_number read_from
  number_agrees [] at m part spelling = number_ends at m part spelling
  number_agrees (b ∷ bs) at m part spelling = number_by at m part spelling b bs (number_step part b)
      (λ p. number_agrees bs (at + 1) (m + 1) p (spelling ++ b ∷ []))

-- a word, from its second byte on
module _ (L : ℕ) (outer : List Waiting) (n : Node) where
  -- what is there once the bytes of the word have come
  abbrev Worded : List ℕ → State
  Worded [] = put n outer
  Worded (c ∷ cs) = word c cs n outer

  word_step_is : (c : ℕ) (cs : List ℕ) → word_step c cs n outer ≡ Worded cs
  word_step_is c [] = refl
  word_step_is c (d ∷ ds) = refl

  word_agrees : (cs bs : List ℕ) (at m : ℕ) → Agrees L at m bs (λ e. e) (λ _ _. put n outer) (read_from L at (Worded cs) bs) (scan_word cs m bs)
  unfolding scan_word read_from
  word_agrees [] bs at m = (0, omega arith, ap (λ k. read_from L k (put n outer) bs) (omega arith))
  word_agrees (c ∷ cs) [] at m = stops_here at m _ refl
  word_agrees (c ∷ cs) (b ∷ bs) at m = elim (b == c) as (λ v. Agrees L at m (b ∷ bs) (λ e. e) (λ _ _. put n outer)
      (go_on at (cond v (Ok (word_step c cs n outer)) (Err unexpected)) (λ s. read_from L (at + 1) s bs)) (cond v (scan_word cs (m + 1) bs) (Err m))) [
        | true ↦ later L at m b bs _ _ _ _ (scan_word cs (m + 1) bs) (λ _ _. refl)
            (subst (λ s. Agrees L (at + 1) (m + 1) bs (λ e. e) (λ _ _. put n outer) (read_from L (at + 1) s bs) (scan_word cs (m + 1) bs))
            (sym (word_step_is c cs)) (word_agrees cs bs (at + 1) (m + 1)))
        | false ↦ stops_here at m _ refl
      ]

abbrev pub deep : ℕ → Result Node Fault
deep at = Err (record { why = too_deep; at = at })

module _ (L at : ℕ) where
  -- a string, at the places where one may begin
  pub string_takes : (s : State) (hole : Hole) (rest t : List ℕ) (n there : ℕ) (after : List ℕ) → StartsWith 34 rest
      → step L at s 34 ≡ Ok (string between [] hole) → scan_string between [] 0 (drop 1 rest) ≡ Ok (t, n) → there ≡ at + 1 + n → after ≡ drop n (drop 1 rest)
      → read_from L at s rest ≡ read_from L there (fill hole t) after
  string_takes s hole rest t n there after h e = takes L at s (string between [] hole) 34 rest (λ x. x.1) (λ x _. fill hole x.0) _ h e
      (string_agrees L hole (drop 1 rest) (at + 1) 0 between []) (t, n) there after

  -- a number
  pub value_number : (outer : List Waiting) (part : NumberPart) (rest : List ℕ) (n there : ℕ) (after : List ℕ) → BeginsNumber part rest
      → scan_number part 0 (drop 1 rest) ≡ Ok n → there ≡ at + 1 + n → after ≡ drop n (drop 1 rest)
      → (read_from L at (value outer) rest ≡ read_from L there (put (number_node (take (1 + n) rest)) outer) after) × (length after < length rest)
  value_number outer part [] n there after h scan place is = absurd h
  value_number outer part (b ∷ bs) n there after h scan place is =
      let read = takes L at (value outer) (digits part (b ∷ []) outer) b (b ∷ bs) (λ e. e) (Spelled L outer (b ∷ []) bs) _ refl (h.1 L at outer)
      (number_agrees L outer bs (at + 1) 0 part (b ∷ [])) n there after scan place is
      ∙ ap (λ k. read_from L there (put (number_node (take k (b ∷ bs))) outer) after) (let e : suc n ≡ 1 + n = omega arith in e) in
      (read, omega (arith, ap length is, length-drop n bs))

  pub value_number_stops : (outer : List Waiting) (part : NumberPart) (rest : List ℕ) (n there : ℕ) → BeginsNumber part rest
      → scan_number part 0 (drop 1 rest) ≡ Err n → there ≡ at + 1 + n → read_from L at (value outer) rest ≡ fault there
  value_number_stops outer part [] n there h = absurd h
  value_number_stops outer part (b ∷ bs) n there h =
      fails L at (value outer) (digits part (b ∷ []) outer) b (b ∷ bs) (λ e. e) (Spelled L outer (b ∷ []) bs) _ refl
      (h.1 L at outer) (number_agrees L outer bs (at + 1) 0 part (b ∷ [])) n there

  -- a word
  pub value_word : (outer : List Waiting) (w : List ℕ) (n : Node) (rest : List ℕ) (len there : ℕ) (after : List ℕ) → BeginsWord w n rest
      → scan_word w 0 (drop 1 rest) ≡ Ok len → there ≡ at + 1 + len → after ≡ drop len (drop 1 rest)
      → (read_from L at (value outer) rest ≡ read_from L there (put n outer) after) × (length after < length rest)
  value_word outer [] n rest len there after h scan place is = absurd h
  value_word outer (c ∷ cs) n [] len there after h scan place is = absurd h
  value_word outer (c ∷ cs) n (b ∷ bs) len there after h scan place is =
      let read = takes L at (value outer) (word c cs n outer) b (b ∷ bs) (λ e. e) (λ _ _. put n outer) _ refl (h L at outer)
      (word_agrees L outer n (c ∷ cs) bs (at + 1) 0) len there after scan place is in (read, omega (arith, ap length is, length-drop len bs))

  pub value_word_stops : (outer : List Waiting) (w : List ℕ) (n : Node) (rest : List ℕ) (len there : ℕ) → BeginsWord w n rest
      → scan_word w 0 (drop 1 rest) ≡ Err len → there ≡ at + 1 + len → read_from L at (value outer) rest ≡ fault there
  value_word_stops outer [] n rest len there h = absurd h
  value_word_stops outer (c ∷ cs) n [] len there h = absurd h
  value_word_stops outer (c ∷ cs) n (b ∷ bs) len there h = fails L at (value outer) (word c cs n outer) b (b ∷ bs) (λ e. e) (λ _ _. put n outer) _ refl
      (h L at outer) (word_agrees L outer n (c ∷ cs) bs (at + 1) 0) len there

-- as many wait as are kept
pub keeps_length : (ks : List Kept) (outer : List Waiting) → KeepsAll ks outer → length outer ≡ length ks
keeps_length [] [] h = refl
keeps_length [] (w ∷ ws) h = absurd h
keeps_length (k ∷ ks) [] h = absurd h
keeps_length (k ∷ ks) (w ∷ ws) h = ap suc (keeps_length ks ws h.1)

-- a string's fault is the text's
pub string_faults : (L : ℕ) (s : State) (hole : Hole) (place : Place) (f : JsonFault) → step L place.at s 34 ≡ Ok (string between [] hole)
    → StartsWith 34 place.rest.now → StringFault place f → FailsSo (read_at L place s) f
string_faults L s hole place (NotJson at) e h (n, scan, is) =
    fails L place.at s (string between [] hole) 34 place.rest.now (λ x. x.1) (λ x _. fill hole x.0) _ h e
    (string_agrees L hole (drop 1 place.rest.now) (place.at + 1) 0 between []) n at scan is
string_faults L s hole place (TooDeep at) e h f = absurd f
string_faults L s hole place (KeyTwice at) e h f = f
string_faults L s hole place NoMemory e h f = tt

pub number_front : (part : NumberPart) (n : ℕ) (rest : List ℕ) → BeginsNumber part rest → scan_number part 0 (drop 1 rest) ≡ Ok n → IsUtf8 (take (1 + n) rest)
number_front part n [] h scan = absurd h
number_front part n (b ∷ bs) h scan = number_utf8 part n b bs h.0 scan

pub IsSpace-more : (bs : List ℕ) (b : ℕ) → IsSpace bs → is_space b ≡ true → IsSpace (bs ++ b ∷ [])
IsSpace-more [] b h g = (g, tt)
IsSpace-more (c ∷ cs) b h g = (h.0, IsSpace-more cs b h.1 g)

-- a place after white space
pub after_space : (L : ℕ) (s : State) → SkipsSpace L s → (at n : ℕ) (rest : List ℕ) (there : ℕ) (after : List ℕ) → n ≤ length rest → IsSpace (take n rest)
    → after ≡ drop n rest → there ≡ at + n → read_from L at s rest ≡ read_from L there s after
after_space L s skips at n rest there after h space is place =
    ap (read_from L at s) (sym (take-append-drop n rest)) ∙ space_runs L s skips at (take n rest) (drop n rest) space
    ∙ ap (λ k. read_from L (at + k) s (drop n rest)) (length-take-le n rest h)
    ∙ ap (λ k. read_from L k s (drop n rest)) (sym place) ∙ ap (read_from L there s) (sym is)
