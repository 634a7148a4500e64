-- The byte machine reads exactly the texts of the grammar: `read_spelled`, `spelled_read`. One step of a reading at a time:
-- `read_ok`, `read_err`, `read_nil`.
use Rattle.std.proofs.Common.{◌≡◌, ℕ, ◌+◌, ◌-◌, List, [], ◌∷◌, ◌++◌, length, Option, Some, None, Result, Ok, Err, refl, sym, ap, ◌∙◌, subst, arith, append-nil}
use Rattle.std.proofs.Common.{zero-add}
use Rattle.json_text.specs.{Node.Node, Grammar.IsText}
use Rattle.json_text.specs.Reading.{State, Stop, Fault, value, step, go_on, end_of, ended, read_from, read_text}
use Rattle.json_text.proofs.{Following.Space, Following.Value, Following.After, Following.Following, Productions.text_reads}
use Rattle.json_text.proofs.ByteSteps.{On, follows_step, step_follows, follows_end, end_follows}

-- one step of a reading
pub read_nil : (levels at : ℕ) (state : State) → read_from levels at state [] ≡ ended at (end_of state)
unfolding read_from
read_nil levels at state = refl

pub read_ok : (levels at : ℕ) (state next : State) (b : ℕ) (bs : List ℕ) → step levels at state b ≡ Ok next
    → read_from levels at state (b ∷ bs) ≡ read_from levels (at + 1) next bs
unfolding read_from
read_ok levels at state next b bs e = ap (λ s. go_on at s (λ next. read_from levels (at + 1) next bs)) e

pub read_err : (levels at : ℕ) (state : State) (why : Stop) (b : ℕ) (bs : List ℕ) → step levels at state b ≡ Err why
    → read_from levels at state (b ∷ bs) ≡ Err (record { why = why; at = at })
unfolding read_from
read_err levels at state why b bs e = ap (λ s. go_on at s (λ next. read_from levels (at + 1) next bs)) e

ended_ok : (at : ℕ) (o : Option Node) (r : Node) → ended at o ≡ Ok r → o ≡ Some r
ended_ok at None r h = cc
ended_ok at (Some n) r h = cc

module _ (size levels : ℕ) (r : Node) where
  on_read : (bs : List ℕ) (s : Result State Stop) (at : ℕ) (f : State → Result Node Fault) → go_on at s f ≡ Ok r
      → ((next : State) → f next ≡ Ok r → Following size levels r next bs) → On size levels r bs s
  on_read bs (Ok next) at f e g = g next e
  on_read bs (Err why) at f e g = cc

  read_on : (bs : List ℕ) (s : Result State Stop) (at : ℕ) (f : State → Result Node Fault) → On size levels r bs s
      → ((next : State) → Following size levels r next bs → f next ≡ Ok r) → go_on at s f ≡ Ok r
  read_on bs (Ok next) at f h g = g next h
  read_on bs (Err why) at f h g = absurd h

  pub follows_read : (bytes : List ℕ) (state : State) (at : ℕ) → at + length bytes ≡ size → read_from levels at state bytes ≡ Ok r
      → Following size levels r state bytes
  unfolding read_from
  follows_read [] state at s e = follows_end size levels r state (ended_ok at (end_of state) r e)
  follows_read (b ∷ bs) state at s e = follows_step size levels r state at b bs s (on_read bs (step levels at state b) at _ e
      (λ next f. follows_read bs next (at + 1) (omega (arith, s)) f))

  pub read_follows : (bytes : List ℕ) (state : State) (at : ℕ) → at + length bytes ≡ size → Following size levels r state bytes
      → read_from levels at state bytes ≡ Ok r
  unfolding read_from
  read_follows [] state at s h = ap (ended at) (end_follows size levels r state h)
  read_follows (b ∷ bs) state at s h = read_on bs (step levels at state b) at _ (step_follows size levels r state at b bs s h)
      (λ next f. read_follows bs next (at + 1) (omega (arith, s)) f)

pub read_spelled : (levels : ℕ) (bytes : List ℕ) (n : Node) → read_text levels bytes ≡ Ok n → IsText levels bytes n
read_spelled levels bytes n e = let size = length bytes in let (of, future, h) = follows_read size levels n bytes (value []) 0 (zero-add size) e in
    let f = (text_reads size of (levels - 0)).to 0 (After size levels n [] future of) bytes (zero-add size) h in
    let all : bytes ≡ f.front = f.joined ∙ ap (λ t. f.front ++ t) f.second.0 ∙ append-nil f.front in subst (λ m. IsText levels bytes m) (sym f.second.1)
    (subst (λ t. IsText levels t of) (sym all) (record { spelled = f.first.0; within = omega (arith, f.first.1) }))

pub spelled_read : (levels : ℕ) (bytes : List ℕ) (n : Node) → IsText levels bytes n → read_text levels bytes ≡ Ok n
spelled_read levels bytes n h = let size = length bytes in let f = (text_reads size n (levels - 0)).from 0 (After size levels n [] tt n) bytes []
    (zero-add (length (bytes ++ [])) ∙ ap length (append-nil bytes)) h.spelled (omega (arith, h.within)) (refl, refl) in
    read_follows size levels n bytes (value []) 0 (zero-add size)
    (n, tt, subst (Space (Value size n (levels - 0) (Space (After size levels n [] tt n)))) (append-nil bytes) f)
