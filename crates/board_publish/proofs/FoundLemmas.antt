-- What is found by marks: `found_matched` of a bus with an automaton, `nothing_matched` of one without.
use Rattle.std.proofs.Common.{◌≡◌, ℕ, Bool, true, false, List, [], ◌∷◌, ◌++◌, Option, Some, None, cond, get_or, inl, inr, refl, sym, ap, ◌∙◌, subst, append-nil}
use Rattle.std.specs.Prelude.{Contains, flat_map}
use Rattle.std.proofs.lemmas.Bool.{cases_Bool, false≢true}
use Rattle.json_text.specs.Tree.{Tree}
use Rattle.name_rows.specs.Rows.{named, AreSorted}
use Rattle.rule_table.specs.RuleSet.{Rule, Bus, RuleSet, rule_at, rules_in, rules_of}
use Rattle.rule_table.specs.Sound.{IsSound}
use Rattle.rule_table.proofs.RowLemmas.{All_named, named_name}
use Rattle.rule_automaton.specs.Rules.{TextHolds, HoldsAs, AreMarked}
use Rattle.rule_automaton.proofs.MemberLemmas.{any_in, flat_append}
use Rattle.router_requests.specs.Matching.{AreMatched, TextMatches}
use Rattle.router_requests.specs.declared.seen.SeenTarget.{SeenTarget}
use Rattle.board_publish.specs.Entered.{entered_as, HasNumber, Fits}
use Rattle.board_publish.specs.Found.{found_for, seen_of}
use Rattle.board_publish.specs.MatcherView.{Matcher}
use Rattle.board_publish.specs.Matchers.{HasRule, enabled_in, enabled_at}
use Rattle.board_publish.specs.declared.entered.Entered.{Entered}
use Rattle.board_publish.proofs.AlignLemmas.{IsFound, Agrees, aligned}

rules_sorted_in : (o : Option Bus) → ((bus : Bus) → o ≡ Some bus → AreSorted (λ (rule : Rule). rule.name) bus.rules)
    → AreSorted (λ (rule : Rule). rule.name) (rules_in o)
rules_sorted_in None all = tt
rules_sorted_in (Some bus) all = all bus refl

-- the rules of a bus of a sound set
pub rules_sorted : (set : RuleSet) (bus : List ℕ) → IsSound set → AreSorted (λ (rule : Rule). rule.name) (rules_of bus set)
rules_sorted set bus sound =
    rules_sorted_in (named (λ (b : Bus). b.name) bus set.buses)
    (λ found is. All_named (λ (b : Bus). AreSorted (λ (rule : Rule). rule.name) b.rules) (λ (b : Bus). b.name) bus set.buses found is sound.rule_order)

-- the mark of a number that one pattern has
marked_holds : (patterns : List (ℕ × List ℕ)) (event : Tree) (old marks : List Bool) (number : ℕ) (pattern : List ℕ) → AreMarked patterns event old marks
    → HasNumber patterns number pattern → get_or marks number false ≡ true → TextHolds pattern event
marked_holds patterns event old marks number pattern are has on =
    let r = (are.marked number).0 on in
    let rule = r.1 in
    let inside : Contains patterns (number, rule.1) =
    subst (λ n. Contains {X = ℕ × List ℕ} patterns (n, rule.1)) r.4.0 (r.0, r.2, r.3) in
    subst (λ p. TextHolds p event) ((has rule.1).0 inside) r.4.1

holds_marked : (patterns : List (ℕ × List ℕ)) (event : Tree) (old marks : List Bool) (number : ℕ) (pattern : List ℕ) → AreMarked patterns event old marks
    → HasNumber patterns number pattern → TextHolds pattern event → get_or marks number false ≡ true
holds_marked patterns event old marks number pattern are has holds =
    (are.marked number).1 (any_in (HoldsAs event number) patterns (number, pattern) ((has pattern).1 refl) (refl, holds))

text_matches : (pattern : List ℕ) (event : Tree) → TextHolds pattern event → TextMatches pattern event
text_matches pattern event h = record { pattern = h.0; read = h.1; holds = h.2 }

module _ (set : RuleSet) (bus : List ℕ) (matcher : Matcher) (event : Tree) (old marks : List Bool) where
  abbrev patterns : List (ℕ × List ℕ)
  patterns = matcher.patterns

  abbrev found : Entered → List SeenTarget
  found = found_for set bus marks

  -- of a rule that is enabled
  found_rule : (rule : Rule) (row : Entered) → AreMarked patterns event old marks → rule.enabled ≡ true → rule_at bus row.name set ≡ Some rule
      → HasNumber patterns row.number rule.pattern → IsFound event rule (found row)
  found_rule rule row are enabled at has = elim (cases_Bool (get_or marks row.number false)) [
    | inl on ↦ inl (
      (enabled, text_matches rule.pattern event (marked_holds patterns event old marks row.number rule.pattern are has on)),
      rw on (ap seen_of at),
    )
    | inr off ↦ inr (
      (λ m. false≢true (sym off ∙ holds_marked patterns event old marks row.number rule.pattern are has (m.1.pattern, m.1.read, m.1.holds))),
      rw off refl,
    )
  ]

  agrees_enabled : (name : List ℕ) (rule : Rule) (row : Option Entered) → AreMarked patterns event old marks → rule_at bus name set ≡ Some rule
      → rule.enabled ≡ true → entered_as name matcher.entered ≡ row → Fits patterns (Some rule.pattern) row → Agrees event found (Some rule) row
  agrees_enabled name rule None are at enabled is fits = absurd fits
  agrees_enabled name rule (Some row) are at enabled is fits =
      let same : row.name ≡ name = named_name (λ (e : Entered). e.name) name matcher.entered row is in
      inr (row, refl, found_rule rule row are enabled (ap (λ n. rule_at bus n set) same ∙ at) fits)

  agrees_rule : (name : List ℕ) (rule : Rule) (on : Bool) → AreMarked patterns event old marks → rule_at bus name set ≡ Some rule → rule.enabled ≡ on
      → Fits patterns (cond on (Some rule.pattern) None) (entered_as name matcher.entered)
      → Agrees event found (Some rule) (entered_as name matcher.entered)
  agrees_rule name rule true are at is fits = agrees_enabled name rule (entered_as name matcher.entered) are at is refl fits
  agrees_rule name rule false are at is fits = inl ((λ m. false≢true (sym is ∙ m.0)), fits)

  agrees : (name : List ℕ) (o : Option Rule) → AreMarked patterns event old marks → rule_at bus name set ≡ o
      → Fits patterns (enabled_in o) (entered_as name matcher.entered) → Agrees event found o (entered_as name matcher.entered)
  agrees name None are at fits = fits
  agrees name (Some rule) are at fits = agrees_rule name rule rule.enabled are at refl fits

  pub found_matched : IsSound set → AreSorted (λ (e : Entered). e.name) matcher.entered → AreMarked patterns event old marks
      → ((name : List ℕ) → HasRule matcher name (enabled_at bus name set)) → AreMatched (rules_of bus set) event (flat_map found matcher.entered)
  found_matched sound ordered are known =
      aligned event found (rules_of bus set) matcher.entered (rules_sorted set bus sound) ordered
      (λ name. agrees name (rule_at bus name set) are refl (known name))

-- a bus without an enabled rule
not_enabled : (event : Tree) (o : Option Rule) → enabled_in o ≡ None → Agrees event (λ (e : Entered). []) o None
not_enabled event None none = refl
not_enabled event (Some rule) none = inl ((λ m. let never : Some rule.pattern ≡ None = sym (on m.0) ∙ none in cc), refl)
  where
    on : rule.enabled ≡ true → enabled_in (Some rule) ≡ Some rule.pattern
    on e = rw e refl

pub nothing_matched : (set : RuleSet) (bus : List ℕ) (event : Tree) → IsSound set → ((name : List ℕ) → enabled_at bus name set ≡ None)
    → AreMatched (rules_of bus set) event []
nothing_matched set bus event sound none =
    aligned event (λ (e : Entered). []) (rules_of bus set) [] (rules_sorted set bus sound) tt
    (λ name. not_enabled event (rule_at bus name set) (none name))

-- ---- the rules one by one

pub found_more : (f : Entered → List SeenTarget) (done : List Entered) (rule : Entered) (targets new : List SeenTarget) → targets ≡ flat_map f done
    → new ≡ targets ++ f rule → new ≡ flat_map f (done ++ rule ∷ [])
found_more f done rule targets new are grown =
    grown ∙ ap (λ (ts : List SeenTarget). ts ++ f rule) are ∙ ap (λ (ts : List SeenTarget). flat_map f done ++ ts) (sym (append-nil (f rule)))
    ∙ sym (flat_append f done (rule ∷ []))

pub found_on : (set : RuleSet) (bus : List ℕ) (marks : List Bool) (rule : Entered) → get_or marks rule.number false ≡ true
    → found_for set bus marks rule ≡ seen_of (rule_at bus rule.name set)
found_on set bus marks rule on = rw on refl

pub found_off : (set : RuleSet) (bus : List ℕ) (marks : List Bool) (rule : Entered) → get_or marks rule.number false ≡ false
    → found_for set bus marks rule ≡ []
found_off set bus marks rule off = rw off refl
