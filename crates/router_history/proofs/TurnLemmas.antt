-- Turns one after the other. Other files cite `firsts_more`, `turns_more`, `state_append`, `turns_append`, `turns_back`, `first_other`, `none_append`,
-- `none_back`, `versions_grow`, `none_of_mine` and `claims_stay`.
use Rattle.std.proofs.Common.{◌≡◌, ℕ, ◌≤◌, Bool, true, false, cond, List, [], ◌∷◌, ◌++◌, map, Option, Some, None, refl, sym, ap, ◌∙◌, arith, length-append}
use Rattle.std.proofs.lemmas.Bool.{eqb-true, eq-eqb}
use Rattle.std.proofs.lemmas.List.{map-append}
use Rattle.std.proofs.lemmas.List.Elements.{filter-append}
use Rattle.std.specs.Prelude.{not, ◌==◌}
use Rattle.turn_book.specs.Rule.{is_number}
use Rattle.router_requests.specs.Batch.{Batch}
use Rattle.courier_run.specs.Claim.{Claim}
use Rattle.router_history.specs.declared.history.Turn.{Turn as CodeTurn}
use Rattle.router_history.specs.Book.{turn_of}
use Rattle.router_history.specs.Firsts.{firsts}
use Rattle.router_history.specs.History.{Ask, opens, asked, claims, records, puts_back, repeats, breaks, Turn, State, OpenClaim, controls_in, begun_with, claims_of, without_pass}
use Rattle.router_history.specs.History.{last_version, with_claim, after_written, after_all, after_change, after_ask, after_turn, state_after, turns_by}
use Rattle.router_history.specs.History.{IsTurnFor, AreTurnsFrom}

pub firsts_more : {T : Type 0} (ps : List (T × Unit {0})) (x : T) → firsts (ps ++ (x, tt) ∷ []) ≡ firsts ps ++ x ∷ []
firsts_more [] x = refl
firsts_more (p ∷ ps) x = ap (λ xs. p.0 ∷ xs) (firsts_more ps x)

pub turns_more : (ps : List (CodeTurn × Unit {0})) (x : CodeTurn) → map turn_of (firsts (ps ++ (x, tt) ∷ [])) ≡ map turn_of (firsts ps) ++ turn_of x ∷ []
turns_more ps x = ap (map turn_of) (firsts_more ps x) ∙ map-append turn_of (firsts ps) (x ∷ [])

pub state_append : (s : State) (ts us : List Turn) → state_after (ts ++ us) s ≡ state_after us (state_after ts s)
state_append s [] us = refl
state_append s (t ∷ ts) us = state_append (after_turn t s) ts us

pub turns_append : (s : State) (ts us : List Turn) → AreTurnsFrom s ts → AreTurnsFrom (state_after ts s) us → AreTurnsFrom s (ts ++ us)
turns_append s [] us first rest = rest
turns_append s (t ∷ ts) us first rest = (first.0, turns_append (after_turn t s) ts us first.1 rest)

pub turns_back : (s : State) (ts us : List Turn) → AreTurnsFrom s (ts ++ us) → AreTurnsFrom s ts × AreTurnsFrom (state_after ts s) us
turns_back s [] us all = (tt, all)
turns_back s (t ∷ ts) us all = let both = turns_back (after_turn t s) ts us all.1 in ((all.0, both.0), both.1)

-- what it means that no element passes a test
none_cases : {X : Type 0} (b : Bool) (x : X) (xs : List X) → cond b (x ∷ xs) xs ≡ [] → (b ≡ false) × (xs ≡ [])
none_cases true x xs e = absurd (cc)
none_cases false x xs e = (refl, e)

-- if none of the turns is of the pass, neither is the first, and none of the rest
pub first_other : (n : ℕ) (turn : Turn) (turns : List Turn) → turns_by n (turn ∷ turns) ≡ [] → (is_number turn.pass n ≡ false) × (turns_by n turns ≡ [])
first_other n turn turns e = none_cases (is_number turn.pass n) turn (turns_by n turns) e

pub none_append : (n : ℕ) (ts us : List Turn) → turns_by n ts ≡ [] → turns_by n us ≡ [] → turns_by n (ts ++ us) ≡ []
none_append n ts us one two =
    filter-append (λ (t : Turn). is_number t.pass n) ts us ∙ ap (λ (xs : List Turn). xs ++ turns_by n us) one ∙ two

versions_written : (b : Option Batch) (s : State) → last_version s ≤ last_version (after_change b s)
versions_written None s = omega arith
versions_written (Some b) s = omega (arith, length-append s.controls (controls_in b.entries))

versions_asked : (turn : Turn) (ask : Ask) (s : State) → IsTurnFor s turn ask → last_version s ≤ last_version (after_ask turn ask s)
versions_asked turn (opens start found disk) s is = absurd is
versions_asked turn (asked request) s is = versions_written turn.batch s
versions_asked turn (claims c) s is = omega arith
versions_asked turn (records a) s is = versions_written turn.batch s
versions_asked turn (puts_back c why) s is = omega arith
versions_asked turn (repeats reading) s is = versions_written turn.batch s
versions_asked turn (breaks unsure) s is = omega arith

-- turns only add configuration versions
pub versions_grow : (turns : List Turn) (s : State) → AreTurnsFrom s turns → last_version s ≤ last_version (state_after turns s)
versions_grow [] s legal = omega arith
versions_grow (turn ∷ turns) s legal =
    let first = versions_asked turn turn.ask s legal.0.made_for in
    let rest = versions_grow turns (after_turn turn s) legal.1 in
    omega (arith, first, rest)

pub open_written : (b : Option Batch) (s : State) → (after_change b s).open_claims ≡ s.open_claims
open_written None s = refl
open_written (Some b) s = refl

open_found : (found : List Batch) (s : State) → (after_all found s).open_claims ≡ s.open_claims
open_found [] s = refl
open_found (b ∷ bs) s = open_found bs (after_written b s)

-- another pass's claim
with_other : (n : ℕ) (pass : Option ℕ) (c : Claim) (os : List OpenClaim) → is_number pass n ≡ false
    → claims_of n (with_claim pass c os) ≡ claims_of n os
with_other n None c os other = refl
with_other n (Some p) c os other = rw other refl

-- the claims of another pass end
without_other : (n : ℕ) (pass : Option ℕ) (os : List OpenClaim) → is_number pass n ≡ false → claims_of n (without_pass pass os) ≡ claims_of n os
without_other n None os other = refl
without_other n (Some p) [] other = refl
without_other n (Some p) (o ∷ os) other =
    let rest = without_other n (Some p) os other in
    (elim (o.pass == p) as (λ b. (o.pass == p) ≡ b → claims_of n (cond (not b) (o ∷ without_pass (Some p) os) (without_pass (Some p) os)) ≡ claims_of n (o ∷ os)) [
      | true ↦ λ same.
          let ne : (o.pass == n) ≡ false = ap (λ k. k == n) (eqb-true o.pass p same) ∙ other in
          rest ∙ sym (rw ne refl)
      | false ↦ λ differ. ap (λ (cs : List OpenClaim). cond (o.pass == n) (o ∷ cs) cs) rest
    ]) refl

-- a turn of another pass makes no claim of this pass, and ends none, unless it opens a book
stay_asked : (n : ℕ) (turn : Turn) (ask : Ask) (s : State) → is_number turn.pass n ≡ false → IsTurnFor s turn ask
    → claims_of n (after_ask turn ask s).open_claims ≡ claims_of n s.open_claims
stay_asked n turn (opens start found disk) s other is = absurd is
stay_asked n turn (asked request) s other is = ap (claims_of n) (open_written turn.batch s)
stay_asked n turn (claims c) s other is = with_other n turn.pass c s.open_claims other
stay_asked n turn (records a) s other is = without_other n turn.pass s.open_claims other
stay_asked n turn (puts_back c why) s other is = without_other n turn.pass s.open_claims other
stay_asked n turn (repeats reading) s other is = ap (claims_of n) (open_written turn.batch s)
stay_asked n turn (breaks unsure) s other is = refl

-- the claims of a pass stay while other passes make turns
pub claims_stay : (n : ℕ) (turns : List Turn) (s : State) → AreTurnsFrom s turns → turns_by n turns ≡ []
    → claims_of n (state_after turns s).open_claims ≡ claims_of n s.open_claims
claims_stay n [] s legal others = refl
claims_stay n (turn ∷ turns) s legal others =
    let both = first_other n turn turns others in
    claims_stay n turns (after_turn turn s) legal.1 both.1 ∙ stay_asked n turn turn.ask s both.0 legal.0.made_for

none_asked : (n : ℕ) (turn : Turn) (ask : Ask) (s : State) → is_number turn.pass n ≡ false → claims_of n s.open_claims ≡ []
    → claims_of n (after_ask turn ask s).open_claims ≡ []
none_asked n turn (opens start found disk) s other none = ap (claims_of n) (open_found found (begun_with disk start))
none_asked n turn (asked request) s other none = ap (claims_of n) (open_written turn.batch s) ∙ none
none_asked n turn (claims c) s other none = with_other n turn.pass c s.open_claims other ∙ none
none_asked n turn (records a) s other none = without_other n turn.pass s.open_claims other ∙ none
none_asked n turn (puts_back c why) s other none = without_other n turn.pass s.open_claims other ∙ none
none_asked n turn (repeats reading) s other none = ap (claims_of n) (open_written turn.batch s) ∙ none
none_asked n turn (breaks unsure) s other none = none

-- turns of other passes, whatever they are, make no claim of this pass
pub none_of_mine : (n : ℕ) (turns : List Turn) (s : State) → turns_by n turns ≡ [] → claims_of n s.open_claims ≡ []
    → claims_of n (state_after turns s).open_claims ≡ []
none_of_mine n [] s others none = none
none_of_mine n (turn ∷ turns) s others none =
    let both = first_other n turn turns others in
    none_of_mine n turns (after_turn turn s) both.1 (none_asked n turn turn.ask s both.0 none)

all_ended : (n : ℕ) (os : List OpenClaim) → claims_of n (without_pass (Some n) os) ≡ []
all_ended n [] = refl
all_ended n (o ∷ os) =
    let rest = all_ended n os in
    (elim (o.pass == n) as (λ b. (o.pass == n) ≡ b → claims_of n (cond (not b) (o ∷ without_pass (Some n) os) (without_pass (Some n) os)) ≡ []) [
      | true ↦ λ same. rest
      | false ↦ λ differ. rw differ rest
    ]) refl

-- the claims of a pass, once it recorded or put back
pub mine_ended : (n : ℕ) (pass : Option ℕ) (os : List OpenClaim) → pass ≡ Some n → claims_of n (without_pass pass os) ≡ []
mine_ended n pass os by = ap (λ (p : Option ℕ). claims_of n (without_pass p os)) by ∙ all_ended n os

-- the claims of a pass, once it made one
pub mine_made : (n : ℕ) (pass : Option ℕ) (c : Claim) (os : List OpenClaim) → pass ≡ Some n → claims_of n os ≡ []
    → claims_of n (with_claim pass c os) ≡ record { pass = n; claim = c } ∷ []
mine_made n pass c os by none =
    ap (λ (p : Option ℕ). claims_of n (with_claim p c os)) by
    ∙ ap (λ b. cond b (record { pass = n; claim = c } ∷ claims_of n os) (claims_of n os)) (eq-eqb n n refl)
    ∙ ap (λ (cs : List OpenClaim). record { pass = n; claim = c } ∷ cs) none
