-- Marks of the numbers that rules have: `marks_more`. A place without a mark is no rule's number: `free_of`. Each number has a place:
-- `patterns_below`. Of a loop over a list: `next_done`, `next_here`.
use Rattle.std.proofs.Common.{◌≡◌, ◌≢◌, ℕ, ◌<◌, Bool, true, false, List, [], ◌∷◌, ◌++◌, length, get_or, set, inl, inr, sym, ap, ◌∙◌, subst, arith, append_assoc}
use Rattle.std.specs.Prelude.{All, ◌==◌}
use Rattle.std.proofs.lemmas.Bool.{cases_Bool, false≢true, eqb-true, eq-eqb}
use Rattle.std.proofs.lemmas.List.{get_or-set_same, get_or-set_other}
use Rattle.std.proofs.lemmas.List.Elements.{All-push, All-weaker, All-head, All-same, Contains-get_or}
use Rattle.name_rows.proofs.RowLemmas.{All_back}
use Rattle.rule_table.proofs.RowLemmas.{All_named}
use Rattle.board_publish.specs.Entered.{AreNumbered}
use Rattle.board_publish.specs.Numbers.{IsMarked}
use Rattle.board_publish.specs.declared.entered.Entered.{Entered}

still_marked : (marks : List Bool) (n k : ℕ) → n < length marks → get_or marks k false ≡ true → get_or (set marks n true) k false ≡ true
still_marked marks n k within h = elim (cases_Bool (k == n)) [
  | inl same ↦ subst (λ m. get_or (set marks n true) m false ≡ true) (sym (eqb-true k n same)) (get_or-set_same marks n true false within)
  | inr apart ↦ get_or-set_other marks n k true false (λ e. false≢true (sym apart ∙ eq-eqb k n e)) ∙ h
]

-- with the number of a further rule
pub marks_more : (marks new : List Bool) (done : List Entered) (rule : Entered) → rule.number < length marks → new ≡ set marks rule.number true
    → All (IsMarked marks) done → All (IsMarked new) (done ++ rule ∷ [])
marks_more marks new done rule within grown all =
    subst (λ m. All (IsMarked m) (done ++ rule ∷ [])) (sym grown)
    (All-push (IsMarked (set marks rule.number true)) done rule
    (All-weaker (IsMarked marks) (IsMarked (set marks rule.number true)) (λ other h. still_marked marks rule.number other.number within h) done all)
    (get_or-set_same marks rule.number true false within))

pub free_of : (marks : List Bool) (rules : List Entered) (number : ℕ) → All (IsMarked marks) rules → get_or marks number false ≡ false
    → All (λ (rule : Entered). rule.number ≢ number) rules
free_of marks rules number all free =
    All-weaker (IsMarked marks) (λ (rule : Entered). rule.number ≢ number)
    (λ rule h same. false≢true (sym free ∙ (ap (λ n. get_or marks n false) (sym same) ∙ h))) rules all

-- the next of the rules that are left
pub next_below : (places : ℕ) (all done left rest : List Entered) (rule : Entered) → done ++ left ≡ all → left ≡ rule ∷ rest
    → All (λ (r : Entered). r.number < places) all → rule.number < places
next_below places all done left rest rule parts is below =
    let P : Entered → Type 0 = λ r. r.number < places in
    All-head P rule rest (All_back P done (rule ∷ rest) (All-same P (done ++ rule ∷ rest) all (ap (λ (rs : List Entered). done ++ rs) (sym is) ∙ parts) below))

pub next_done : {A : Type 0} (all done left rest : List A) (row : A) → done ++ left ≡ all → left ≡ row ∷ rest → (done ++ row ∷ []) ++ rest ≡ all
next_done {A} all done left rest row parts is = append_assoc done (row ∷ []) rest ∙ ap (λ (rs : List A). done ++ rs) (sym is) ∙ parts

pub next_here : {A : Type 0} (all done left rest : List A) (row : A) → done ++ left ≡ all → left ≡ row ∷ rest → done ++ row ∷ rest ≡ all
next_here {A} all done left rest row parts is = ap (λ (rs : List A). done ++ rs) (sym is) ∙ parts

-- each number of a pattern has a place
pub patterns_below : (patterns : List (ℕ × List ℕ)) (rules : List Entered) (places n : ℕ) → AreNumbered patterns rules places → n ≡ places
    → All (λ pattern. pattern.0 < n) patterns
patterns_below patterns rules places n numbered same k d within =
    let p = get_or patterns k d in
    let r = numbered.known p (Contains-get_or patterns k d within) in
    let below : r.1.number < places = All_named (λ (rule : Entered). rule.number < places) (λ (rule : Entered). rule.name) r.0 rules r.1 r.2 numbered.below in
    omega (arith, below, r.3, same)
