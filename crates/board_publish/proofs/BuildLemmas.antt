-- The rules of a bus are entered one by one (`next_rule`, `passed_next`), and the buses of a set (`bus_next`).
use Rattle.std.proofs.Common.{◌≡◌, ◌≢◌, ℕ, ◌<◌, true, false, List, [], ◌∷◌, ◌++◌, Option, Some, None, refl, sym, ap, ◌∙◌, subst, arith}
use Rattle.std.specs.Prelude.{All}
use Rattle.std.specs.Cmp.Lexicographic.{slice_cmp}
use Rattle.std.specs.Ordering.{nat_cmp}
use Rattle.std.specs.Str.{bytes_eq}
use Rattle.std.specs.declared.cmp.Ordering.TheVariants.{Less}
use Rattle.std.proofs.lemmas.List.Elements.{All-head, All-cons, All-nil, All-weaker}
use Rattle.name_rows.specs.Rows.{named, placed, replacing, AreSorted}
use Rattle.name_rows.proofs.NameOrder.{bytes_eq_itself, bytes_eq_Less}
use Rattle.name_rows.proofs.RowLemmas.{by_test, All_back, named_none}
use Rattle.rule_table.proofs.RowLemmas.{bytes_apart, named_same, named_other}
use Rattle.rule_table.specs.RuleSet.{Rule, Bus, rules_in}
use Rattle.board_publish.specs.Entered.{entered_as, Fits, AreNumbered}
use Rattle.board_publish.specs.MatcherView.{Matcher}
use Rattle.board_publish.specs.Matchers.{IsKnown, enabled_in, matcher_of}
use Rattle.board_publish.specs.declared.entered.Entered.{Entered}
use Rattle.board_publish.proofs.EnteredLemmas.{by_name, none_some, entered_more, entered_this, entered_other}

abbrev pub rule_name : Rule → List ℕ
rule_name rule = rule.name

abbrev pub bus_name : Bus → List ℕ
bus_name bus = bus.name

abbrev pub name_of : Entered → List ℕ
name_of rule = rule.name

module _ {A : Type 0} (f : A → List ℕ) where
  front_smaller : (front : List A) (row : A) (back : List A) → AreSorted f (front ++ row ∷ back) → All (λ other. bytes_eq (f other) (f row) ≡ false) front
  front_smaller [] row back sorted = All-nil (λ other. bytes_eq (f other) (f row) ≡ false)
  front_smaller (first ∷ front) row back sorted =
      All-cons (λ other. bytes_eq (f other) (f row) ≡ false) first front
      (bytes_eq_Less (f first) (f row)
      (All-head (λ other. slice_cmp nat_cmp (f first) (f other) ≡ Less) row back
      (All_back (λ other. slice_cmp nat_cmp (f first) (f other) ≡ Less) front (row ∷ back) sorted.0)))
      (front_smaller front row back sorted.1)

  -- a row of a sorted list is not among those before it
  pub not_before : (front : List A) (row : A) (back : List A) → AreSorted f (front ++ row ∷ back) → named f (f row) front ≡ None
  not_before front row back sorted = named_none f (f row) front (front_smaller front row back sorted)

  pub push_other : (front : List A) (row : A) (name : List ℕ) → ¬ (f row ≡ name) → named f name (front ++ row ∷ []) ≡ named f name front
  push_other [] row name apart = named_other f name row [] (bytes_apart (f row) name apart)
  push_other (first ∷ front) row name apart =
      by_test (bytes_eq (f first) name)
      (λ e. named_same f name first (front ++ row ∷ []) e ∙ sym (named_same f name first front e))
      (λ e. named_other f name first (front ++ row ∷ []) e ∙ push_other front row name apart ∙ sym (named_other f name first front e))

  pub push_same : (front : List A) (row : A) → named f (f row) front ≡ None → named f (f row) (front ++ row ∷ []) ≡ Some row
  push_same [] row none = named_same f (f row) row [] (bytes_eq_itself (f row))
  push_same (first ∷ front) row none =
      by_test (bytes_eq (f first) (f row))
      (λ e. none_some (named f (f row) (first ∷ front)) first none (named_same f (f row) first front e))
      (λ e. named_other f (f row) first (front ++ row ∷ []) e ∙ push_same front row (sym (named_other f (f row) first front e) ∙ none))

-- the rules so far are entered if they are enabled
abbrev pub AreEntered : List (ℕ × List ℕ) → List Entered → List Rule → Type 0
AreEntered patterns rows done = (name : List ℕ) → Fits patterns (enabled_in (named rule_name name done)) (entered_as name rows)

-- a further rule that is disabled
pub passed_next : (patterns : List (ℕ × List ℕ)) (rows : List Entered) (done : List Rule) (rule : Rule) (left : List Rule)
    → AreSorted rule_name (done ++ rule ∷ left) → rule.enabled ≡ false → AreEntered patterns rows done → AreEntered patterns rows (done ++ rule ∷ [])
passed_next patterns rows done rule left sorted off before name =
    by_name rule.name name
    (λ same.
    let was : Fits patterns None (entered_as rule.name rows) =
    subst (λ o. Fits patterns (enabled_in o) (entered_as rule.name rows)) absent (before rule.name) in
    let now : enabled_in (named rule_name rule.name (done ++ rule ∷ [])) ≡ None = ap enabled_in (push_same rule_name done rule absent) ∙ rw off refl in
    subst (λ n. Fits patterns (enabled_in (named rule_name n (done ++ rule ∷ []))) (entered_as n rows)) same
    (subst (λ w. Fits patterns w (entered_as rule.name rows)) (sym now) was))
    (λ apart. subst (λ o. Fits patterns (enabled_in o) (entered_as name rows)) (sym (push_other rule_name done rule name apart)) (before name))
  where
    absent : named rule_name rule.name done ≡ None
    absent = not_before rule_name done rule left sorted

module _ (patterns : List (ℕ × List ℕ)) (rows : List Entered) (places more : ℕ) (done : List Rule) (rule : Rule) (left : List Rule) where
  abbrev new : Entered
  new = record { name = rule.name; number = places }

  abbrev grown : List Entered
  grown = placed name_of replacing new rows

  abbrev longer : List (ℕ × List ℕ)
  longer = patterns ++ (places, rule.pattern) ∷ []

  free : AreNumbered patterns rows places → All (λ (r : Entered). r.number ≢ places) rows
  free numbered = All-weaker (λ (r : Entered). r.number < places) (λ (r : Entered). r.number ≢ places) (λ r below same. omega arith) rows numbered.below

  absent : AreSorted rule_name (done ++ rule ∷ left) → named rule_name rule.name done ≡ None
  absent sorted = not_before rule_name done rule left sorted

  pub next_numbered : AreSorted rule_name (done ++ rule ∷ left) → AreNumbered patterns rows places → AreEntered patterns rows done → places < more
      → AreNumbered longer grown more
  next_numbered sorted numbered before within =
      entered_more patterns rows places more new rule.pattern numbered (free numbered)
      (subst (λ o. Fits patterns (enabled_in o) (entered_as rule.name rows)) (absent sorted) (before rule.name)) (omega arith) within

  -- a further rule that is enabled
  pub entered_next : AreSorted rule_name (done ++ rule ∷ left) → AreNumbered patterns rows places → rule.enabled ≡ true → AreEntered patterns rows done
      → AreEntered longer grown (done ++ rule ∷ [])
  entered_next sorted numbered on before name =
      by_name rule.name name
      (λ same.
      let now : enabled_in (named rule_name rule.name (done ++ rule ∷ [])) ≡ Some rule.pattern =
      ap enabled_in (push_same rule_name done rule (absent sorted)) ∙ rw on refl in
      subst (λ n. Fits longer (enabled_in (named rule_name n (done ++ rule ∷ []))) (entered_as n grown)) same
      (subst (λ w. Fits longer w (entered_as rule.name grown)) (sym now) (entered_this patterns rows places more new rule.pattern numbered (free numbered))))
      (λ apart. subst (λ o. Fits longer (enabled_in o) (entered_as name grown)) (sym (push_other rule_name done rule name apart))
      (entered_other patterns rows places more new rule.pattern (free numbered) name (enabled_in (named rule_name name done)) apart (before name)))

-- both, of values that are equal to these
pub next_rule : (patterns later : List (ℕ × List ℕ)) (rows after : List Entered) (places more : ℕ) (done : List Rule) (rule : Rule) (left : List Rule)
    → AreSorted rule_name (done ++ rule ∷ left) → AreNumbered patterns rows places → rule.enabled ≡ true → AreEntered patterns rows done
    → later ≡ patterns ++ (places, rule.pattern) ∷ [] → after ≡ placed name_of replacing (record { name = rule.name; number = places }) rows → places < more
    → AreNumbered later after more × AreEntered later after (done ++ rule ∷ [])
next_rule patterns later rows after places more done rule left sorted numbered on before ps rs within =
    subst (λ l. AreNumbered l after more × AreEntered l after (done ++ rule ∷ [])) (sym ps)
    (subst (λ (g : List Entered). AreNumbered (patterns ++ (places, rule.pattern) ∷ []) g more
    × AreEntered (patterns ++ (places, rule.pattern) ∷ []) g (done ++ rule ∷ [])) (sym rs) (
      next_numbered patterns rows places more done rule left sorted numbered before within,
      entered_next patterns rows places more done rule left sorted numbered on before,
    ))

-- no rule is entered if there is no place
pub none_placed : (patterns : List (ℕ × List ℕ)) (rows : List Entered) (name : List ℕ) (pattern : Option (List ℕ)) → AreNumbered patterns rows 0
    → Fits patterns pattern (entered_as name rows) → pattern ≡ None
none_placed patterns [] name None numbered h = refl
none_placed patterns [] name (Some p) numbered h = absurd h
none_placed patterns (row ∷ rows) name pattern numbered h =
    let below : row.number < 0 = All-head (λ (r : Entered). r.number < 0) row rows numbered.below in
    absurd (omega (arith, below))

-- ---- the buses of a set

-- the buses so far have their automata
abbrev pub AreKnown : List Bus → List Matcher → Type 0
AreKnown done matchers =
    (bus name : List ℕ) → IsKnown (enabled_in (named rule_name name (rules_in (named bus_name bus done)))) name (matcher_of bus matchers)

pub next_unknown : (done : List Bus) (bus : Bus) (left : List Bus) (matchers : List Matcher) → AreSorted bus_name (done ++ bus ∷ left) → AreKnown done matchers
    → (name : List ℕ) → IsKnown None name (matcher_of bus.name matchers)
next_unknown done bus left matchers sorted are name =
    subst (λ o. IsKnown (enabled_in (named rule_name name (rules_in o))) name (matcher_of bus.name matchers)) (not_before bus_name done bus left sorted)
    (are bus.name name)

pub bus_next : (done : List Bus) (bus : Bus) (left : List Bus) (old new : List Matcher) → AreSorted bus_name (done ++ bus ∷ left) → AreKnown done old
    → ((name : List ℕ) → IsKnown (enabled_in (named rule_name name bus.rules)) name (matcher_of bus.name new))
    → ((other : List ℕ) → ¬ (bus.name ≡ other) → matcher_of other new ≡ matcher_of other old) → AreKnown (done ++ bus ∷ []) new
bus_next done bus left old new sorted are here there other name =
    by_name bus.name other
    (λ same. subst (λ b. IsKnown (enabled_in (named rule_name name (rules_in (named bus_name b (done ++ bus ∷ []))))) name (matcher_of b new)) same
    (subst (λ o. IsKnown (enabled_in (named rule_name name (rules_in o))) name (matcher_of bus.name new))
    (sym (push_same bus_name done bus (not_before bus_name done bus left sorted))) (here name)))
    (λ apart. subst (λ o. IsKnown (enabled_in (named rule_name name (rules_in o))) name (matcher_of other new)) (sym (push_other bus_name done bus other apart))
    (subst (λ o. IsKnown (enabled_in (named rule_name name (rules_in (named bus_name other done)))) name o) (sym (there other apart)) (are other name)))
