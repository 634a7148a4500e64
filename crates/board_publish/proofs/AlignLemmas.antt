-- What is found for the rules that are entered, in the order of their names, are the targets of the rules that match: `aligned`.
use Rattle.std.proofs.Common.{◌≡◌, ℕ, ◌⊎◌, List, [], ◌∷◌, ◌++◌, map, Option, Some, None, inl, inr, refl, sym, ap, ◌∙◌, subst}
use Rattle.std.specs.Prelude.{All, flat_map}
use Rattle.std.specs.Cmp.Lexicographic.{slice_cmp}
use Rattle.std.specs.Ordering.{nat_cmp}
use Rattle.std.specs.declared.cmp.Ordering.TheVariants.{Less}
use Rattle.json_text.specs.Tree.{Tree}
use Rattle.name_rows.specs.Rows.{named, AreSorted}
use Rattle.name_rows.proofs.NameOrder.{Less_from_Greater, same_name, bytes_eq_itself}
use Rattle.name_rows.proofs.RowLemmas.{by_cmp, named_none, none_greater, others_after}
use Rattle.rule_table.proofs.RowLemmas.{bytes_apart, named_same, named_other}
use Rattle.rule_table.specs.RuleSet.{Rule}
use Rattle.router_requests.specs.Matching.{AreMatched, Matches, seen_target}
use Rattle.router_requests.specs.declared.seen.SeenTarget.{SeenTarget}
use Rattle.board_publish.specs.Entered.{entered_as}
use Rattle.board_publish.specs.declared.entered.Entered.{Entered}
use Rattle.board_publish.proofs.EnteredLemmas.{by_name, none_some, some_same}

abbrev rule_name : Rule → List ℕ
rule_name rule = rule.name

abbrev name_of : Entered → List ℕ
name_of rule = rule.name

-- the targets of the rule if it matches, else none
abbrev pub IsFound : Tree → Rule → List SeenTarget → Type 0
IsFound event rule found =
    (Matches rule event × (found ≡ map (seen_target rule) rule.targets)) ⊎ ((¬ Matches rule event) × (found ≡ []))

-- the rule of a name does not match and is not entered, or what is found for it is right
abbrev pub Agrees : Tree → (Entered → List SeenTarget) → Option Rule → Option Entered → Type 0
Agrees event found None row = row ≡ None
Agrees event found (Some rule) row =
    ((¬ Matches rule event) × (row ≡ None)) ⊎ ((entered : Entered) × (row ≡ Some entered) × IsFound event rule (found entered))

first_named : {A : Type 0} (f : A → List ℕ) (row : A) (rows : List A) → named f (f row) (row ∷ rows) ≡ Some row
first_named f row rows = named_same f (f row) row rows (bytes_eq_itself (f row))

not_first : {A : Type 0} (f : A → List ℕ) (name : List ℕ) (row : A) (rows : List A) → ¬ (f row ≡ name) → named f name (row ∷ rows) ≡ named f name rows
not_first f name row rows apart = named_other f name row rows (bytes_apart (f row) name apart)

only_first : {A : Type 0} (f : A → List ℕ) (name : List ℕ) (row : A) (rows : List A) → f row ≡ name
    → All (λ other. slice_cmp nat_cmp (f row) (f other) ≡ Less) rows → named f name rows ≡ None
only_first f name row rows same less = named_none f name rows (others_after f name row rows same less)

none_smaller : {A : Type 0} (f : A → List ℕ) (name : List ℕ) (row : A) (rows : List A) → AreSorted f (row ∷ rows)
    → slice_cmp nat_cmp name (f row) ≡ Less → named f name (row ∷ rows) ≡ None
none_smaller f name row rows sorted less = named_none f name (row ∷ rows) (none_greater f name (row ∷ rows) sorted less)

module _ (event : Tree) (found : Entered → List SeenTarget) where
  abbrev Agree : List Rule → List Entered → Type 0
  Agree rules rows = (name : List ℕ) → Agrees event found (named rule_name name rules) (entered_as name rows)

  first_agrees : (rule : Rule) (rules : List Rule) (rows : List Entered) → Agree (rule ∷ rules) rows
      → Agrees event found (Some rule) (entered_as rule.name rows)
  first_agrees rule rules rows agree =
      subst (λ o. Agrees event found o (entered_as rule.name rows)) (first_named rule_name rule rules) (agree rule.name)

  -- without a rule that is not entered
  rest_agree : (rule : Rule) (rules : List Rule) (rows : List Entered) → AreSorted rule_name (rule ∷ rules) → entered_as rule.name rows ≡ None
      → Agree (rule ∷ rules) rows → Agree rules rows
  rest_agree rule rules rows sorted none agree name =
      by_name rule.name name
      (λ same. subst (λ o. Agrees event found o (entered_as name rows)) (sym (only_first rule_name name rule rules same sorted.0))
      (subst (λ n. entered_as n rows ≡ None) same none))
      (λ apart. subst (λ o. Agrees event found o (entered_as name rows)) (not_first rule_name name rule rules apart) (agree name))

  -- without the first rule and its row
  both_agree : (rule : Rule) (rules : List Rule) (row : Entered) (rows : List Entered) → AreSorted rule_name (rule ∷ rules)
      → AreSorted name_of (row ∷ rows) → rule.name ≡ row.name → Agree (rule ∷ rules) (row ∷ rows) → Agree rules rows
  both_agree rule rules row rows sorted ordered alike agree name =
      by_name rule.name name
      (λ same. subst (λ o. Agrees event found o (entered_as name rows)) (sym (only_first rule_name name rule rules same sorted.0))
      (only_first name_of name row rows (sym alike ∙ same) ordered.0))
      (λ apart. subst (λ o. Agrees event found o (entered_as name rows)) (not_first rule_name name rule rules apart)
      (subst (λ o. Agrees event found (named rule_name name (rule ∷ rules)) o) (not_first name_of name row rows (λ e. apart (alike ∙ e))) (agree name)))

  no_rows : (rows : List Entered) → Agree [] rows → flat_map found rows ≡ []
  no_rows [] agree = refl
  no_rows (row ∷ rows) agree = none_some (entered_as row.name (row ∷ rows)) row (agree row.name) (first_named name_of row rows)

  first_matched : (rule : Rule) (rules : List Rule) (rows : List Entered) (entered : Entered) → AreSorted rule_name (rule ∷ rules) → AreSorted name_of rows
      → Agree (rule ∷ rules) rows → entered_as rule.name rows ≡ Some entered → IsFound event rule (found entered)
      → ((rest : List Entered) → AreSorted name_of rest → Agree rules rest → AreMatched rules event (flat_map found rest))
      → AreMatched (rule ∷ rules) event (flat_map found rows)
  first_matched rule rules [] entered sorted ordered agree is h others = cc
  first_matched rule rules (row ∷ rows) entered sorted ordered agree is h others =
      by_cmp (slice_cmp nat_cmp rule.name row.name)
      (λ less. none_some (entered_as rule.name (row ∷ rows)) entered (none_smaller name_of rule.name row rows ordered less) is)
      (λ equal.
      let alike = same_name rule.name row.name equal in
      let same : entered ≡ row =
      some_same (entered_as rule.name (row ∷ rows)) entered row is
      (subst (λ n. entered_as n (row ∷ rows) ≡ Some row) (sym alike) (first_named name_of row rows)) in
      let f : IsFound event rule (found row) = subst (λ (e : Entered). IsFound event rule (found e)) same h in (
        flat_map found rows,
        others rows ordered.1 (both_agree rule rules row rows sorted ordered alike agree),
        elim f [
          | inl (m, e) ↦ inl (m, ap (λ (ts : List SeenTarget). ts ++ flat_map found rows) e)
          | inr (n, e) ↦ inr (n, ap (λ (ts : List SeenTarget). ts ++ flat_map found rows) e)
        ],
      ))
      (λ greater.
      let gone = none_smaller rule_name row.name rule rules sorted (Less_from_Greater rule.name row.name greater) in
      let none : entered_as row.name (row ∷ rows) ≡ None =
      subst (λ o. Agrees event found o (entered_as row.name (row ∷ rows))) gone (agree row.name) in
      none_some (entered_as row.name (row ∷ rows)) row none (first_named name_of row rows))

  pub aligned : (rules : List Rule) (rows : List Entered) → AreSorted rule_name rules → AreSorted name_of rows → Agree rules rows
      → AreMatched rules event (flat_map found rows)
  aligned [] rows sorted ordered agree = no_rows rows agree
  aligned (rule ∷ rules) rows sorted ordered agree = elim (first_agrees rule rules rows agree) [
    | inl (not, none) ↦ (flat_map found rows, aligned rules rows sorted.1 ordered (rest_agree rule rules rows sorted none agree), inr (not, refl))
    | inr (entered, is, h) ↦
        first_matched rule rules rows entered sorted ordered agree is h (λ rest later still. aligned rules rest sorted.1 later still)
  ]
