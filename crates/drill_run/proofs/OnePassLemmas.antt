-- A history of one pass. Other files cite `of_one_pass`, `has_pass`, `first_none`, `no_claims`, `only_pass`, `all_own`, `others_none`, `all_front` and
-- `all_back`.
use Rattle.std.proofs.Common.{◌≡◌, ℕ, ◌≤◌, zero, suc, true, false, cond, List, [], ◌∷◌, ◌++◌, map, Option, Some, None, refl, sym, ap, ◌∙◌, subst, arith}
use Rattle.std.specs.Prelude.{◌==◌, IsSome, All}
use Rattle.std.proofs.lemmas.Bool.{eq-eqb}
use Rattle.std.proofs.lemmas.List.Elements.{All-nil, All-cons, All-head, All-tail}
use mathlib.Core.List.{IsPrefix}
use Rattle.turn_book.specs.Rule.{IsUnmade, is_number}
use Rattle.router_core.specs.Tables.{first_tables}
use Rattle.router_history.specs.declared.history.Turn.{Turn as CodeTurn}
use Rattle.router_history.specs.History.{Ask, opens, asked, claims, records, puts_back, repeats, breaks, Turn, State, OpenClaim, claims_of, after_turn, state_of, turns_by, begun}
use Rattle.router_history.specs.History.{IsTurnFor, AreTurnsFrom}
use Rattle.router_history.specs.Book.{turn_of, opening_on, IsBook, Rests}
use Rattle.router_history.proofs.TurnLemmas.{first_other, none_of_mine}
use Rattle.router_history.proofs.BookLemmas.{legal_later, opened_state}
use Rattle.router_sessions.proofs.DeskLemmas.{maker, own_turns}
use Rattle.drill_run.specs.OnePass.{IsOfOnePass}
use Rattle.router_history.proofs.FoldLemmas.{folds_book}

pub all_front : (xs ys : List Turn) → All (λ t. t.pass ≡ Some 0) (xs ++ ys) → All (λ t. t.pass ≡ Some 0) xs
all_front [] ys all = All-nil (λ (t : Turn). t.pass ≡ Some 0)
all_front (x ∷ xs) ys all =
    All-cons (λ (t : Turn). t.pass ≡ Some 0) x xs (All-head (λ (t : Turn). t.pass ≡ Some 0) x (xs ++ ys) all)
    (all_front xs ys (All-tail (λ (t : Turn). t.pass ≡ Some 0) x (xs ++ ys) all))

pub all_back : (xs ys : List Turn) → All (λ t. t.pass ≡ Some 0) (xs ++ ys) → All (λ t. t.pass ≡ Some 0) ys
all_back [] ys all = all
all_back (x ∷ xs) ys all = all_back xs ys (All-tail (λ (t : Turn). t.pass ≡ Some 0) x (xs ++ ys) all)

-- what the one pass has seen has no turns of others
front_none : (n : ℕ) (ts us : List Turn) → turns_by n (ts ++ us) ≡ [] → turns_by n ts ≡ []
front_none n [] us none = refl
front_none n (t ∷ ts) us none =
    let both = first_other n t (ts ++ us) none in
    ap (λ b. cond b (t ∷ turns_by n ts) (turns_by n ts)) both.0 ∙ front_none n ts us both.1

map_more : (xs ys : List CodeTurn) → map turn_of (xs ++ ys) ≡ map turn_of xs ++ map turn_of ys
map_more [] ys = refl
map_more (x ∷ xs) ys = ap (λ (ts : List Turn). turn_of x ∷ ts) (map_more xs ys)

pub only_pass : (seen all : List CodeTurn) → IsPrefix seen all → IsUnmade maker 1 all → (n : ℕ) → 1 ≤ n → turns_by n (map turn_of seen) ≡ []
only_pass seen all (rest, is) unmade n most =
    front_none n (map turn_of seen) (map turn_of rest)
    (ap (turns_by n) (sym (map_more seen rest) ∙ ap (map turn_of) is) ∙ own_turns n all ∙ ap (map turn_of) (unmade n most))

-- a turn after the first has a pass
pub has_pass : (s : State) (turn : Turn) (ask : Ask) → IsTurnFor s turn ask → IsSome turn.pass
has_pass s turn (opens start found disk) is = absurd is
has_pass s turn (asked request) is = is.0
has_pass s turn (claims c) is = subst (λ (p : Option ℕ). IsSome p) (sym is.by) refl
has_pass s turn (records a) is = subst (λ (p : Option ℕ). IsSome p) (sym is.ends.by) refl
has_pass s turn (puts_back c why) is = subst (λ (p : Option ℕ). IsSome p) (sym is.1.by) refl
has_pass s turn (repeats reading) is = is.by
has_pass s turn (breaks unsure) is = is.by

-- the one pass made it
own_pass : (pass : Option ℕ) → IsSome pass → ((n : ℕ) → 1 ≤ n → is_number pass n ≡ false) → pass ≡ Some 0
own_pass None some none = absurd (cc)
own_pass (Some zero) some none = refl
own_pass (Some (suc k)) some none =
    let is : (suc k == suc k) ≡ true = eq-eqb (suc k) (suc k) refl in
    let differs : (suc k == suc k) ≡ false = none (suc k) (omega arith) in
    absurd (cc)

pub all_own : (s : State) (turns : List Turn) → AreTurnsFrom s turns → ((n : ℕ) → 1 ≤ n → turns_by n turns ≡ []) → All (λ t. t.pass ≡ Some 0) turns
all_own s [] legal none = All-nil (λ (t : Turn). t.pass ≡ Some 0)
all_own s (t ∷ ts) legal none =
    All-cons (λ (u : Turn). u.pass ≡ Some 0) t ts
    (own_pass t.pass (has_pass s t t.ask legal.0.made_for) (λ n most. (first_other n t ts (none n most)).0))
    (all_own (after_turn t s) ts legal.1 (λ n most. (first_other n t ts (none n most)).1))

-- the turns after the one that opened the book
pub first_none : (n : ℕ) (turn : Turn) (turns : List Turn) → turns_by n (turn ∷ turns) ≡ [] → turns_by n turns ≡ []
first_none n turn turns none = (first_other n turn turns none).1

-- if no pass has a claim, none is open
pub no_claims : (cs : List OpenClaim) → ((n : ℕ) → claims_of n cs ≡ []) → cs ≡ []
no_claims [] none = refl
no_claims (c ∷ cs) none =
    let there : c ∷ claims_of c.pass cs ≡ [] =
    ap (λ b. cond b (c ∷ claims_of c.pass cs) (claims_of c.pass cs)) (sym (eq-eqb c.pass c.pass refl)) ∙ none c.pass in
    absurd (cc)

pub none_open : (turns : List Turn) → Rests 0 turns → ((n : ℕ) → 1 ≤ n → turns_by n turns ≡ []) → (state_of turns).open_claims ≡ []
none_open turns rests unmade = no_claims (state_of turns).open_claims each
  where
    each : (n : ℕ) → claims_of n (state_of turns).open_claims ≡ []
    each zero = rests
    each (suc n) = none_of_mine (suc n) turns (begun first_tables) (unmade (suc n) (omega arith)) refl

-- turns of the one pass that are none of it are none
pub others_none : (turns : List Turn) → All (λ t. t.pass ≡ Some 0) turns → turns_by 0 turns ≡ [] → turns ≡ []
others_none [] own none = refl
others_none (t ∷ ts) own none =
    let mine : is_number t.pass 0 ≡ true = ap (λ (p : Option ℕ). is_number p 0) (All-head (λ (u : Turn). u.pass ≡ Some 0) t ts own) in
    let other : is_number t.pass 0 ≡ false = (first_other 0 t ts none).0 in
    absurd (cc)

-- a history whose turns after the first are all of pass 0, which has no open claim
pub of_one_pass : (turns : List Turn) → IsBook turns → Rests 0 turns → ((n : ℕ) → 1 ≤ n → turns_by n turns ≡ []) → IsOfOnePass turns
of_one_pass turns book rests unmade =
    let later_unmade : (n : ℕ) → 1 ≤ n → turns_by n book.later ≡ [] = λ n most.
    first_none n (opening_on book.found book.disk) book.later (ap (turns_by n) (sym book.opened) ∙ unmade n most) in
    record {
      book = book;
      alone = all_own (opened_state book.found book.disk) book.later (legal_later turns book) later_unmade;
      none_open = none_open turns rests unmade;
      tables = folds_book turns book;
    }
