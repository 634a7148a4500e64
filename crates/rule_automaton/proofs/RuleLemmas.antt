-- Copies of rules: `same_none`, `same_more`.
use Rattle.std.proofs.Common.{◌≡◌, ℕ, ◌<◌, ◌+◌, List, [], ◌∷◌, ◌++◌, map, get_or, length, take, refl, sym, ap, ap₂, ◌∙◌, subst, filter, cond, append-nil}
use Rattle.std.specs.Arc.{arc_value}
use Rattle.std.proofs.lemmas.List.{map-append, take_more}
use Rattle.std.specs.Prelude.{◌↔◌, ◌≢◌, ◌==◌, not, IsTrue, Bool}
use Rattle.std.proofs.lemmas.Bool.{cond-true, cond-false, eq-eqb, ne_eqb}
use Rattle.std.proofs.lemmas.List.Elements.{filter_more}
use Rattle.std.proofs.Math.Logic.{∥∥₁_map}
use Rattle.json_text.specs.Tree.{Tree}
use Rattle.pattern_meaning.specs.Alternatives.{Part}
use Rattle.pattern_meaning.specs.Pattern.{Pattern}
use Rattle.pattern_meaning.specs.Holds.{PatternHolds}
use Rattle.pattern_read.specs.Text.{IsPatternText}
use Rattle.pattern_read.proofs.OneLemmas.{one_pattern}
use Rattle.rule_automaton.specs.declared.anchor.Anchor.{Anchor}
use Rattle.rule_automaton.specs.Anchors.{AreAnchors, AreAnchorsOf}
use Rattle.rule_automaton.specs.Rules.{TextHolds}
use Rattle.rule_automaton.specs.declared.rule.Rule.{Rule}
use Rattle.rule_automaton.specs.AnchorView.{parts_of}
use Rattle.rule_automaton.specs.RuleView.{rule_in}
use Rattle.rule_automaton.specs.Table.{with_number, entered_by, entered_by_all, AreSame}
use Rattle.rule_automaton.proofs.MemberLemmas.{flat_append}

pub same_none : AreSame [] []
same_none = record { seen = refl; entered = refl }

pub same_more : (rules copies : List Rule) (rule copy : Rule) → AreSame rules copies → rule_in copy ≡ rule_in rule
    → arc_value copy.anchors ≡ arc_value rule.anchors → AreSame (rules ++ rule ∷ []) (copies ++ copy ∷ [])
same_more rules copies rule copy before seen anchors = record {
  seen = map-append rule_in copies (copy ∷ []) ∙ ap₂ ◌++◌ before.seen (ap (λ x. x ∷ []) seen) ∙ sym (map-append rule_in rules (rule ∷ []));
  entered = flat_append entered_by copies (copy ∷ []) ∙ ap₂ ◌++◌ before.entered (ap (λ l. l ++ []) mine) ∙ sym (flat_append entered_by rules (rule ∷ []));
}
  where
    mine : entered_by copy ≡ entered_by rule
    mine = ap₂ (λ n a. with_number n (parts_of a.items)) (ap (λ x. x.0) seen) anchors

-- the anchors of a pattern are those of its text
pub anchors_of_text : (text other : List ℕ) (p : Pattern) (parts : List Part) → other ≡ text → IsPatternText other p → AreAnchors p parts → AreAnchorsOf text parts
anchors_of_text text other p parts same read are q is =
    subst (λ (x : Pattern). AreAnchors x parts) (one_pattern (subst (λ t. IsPatternText t p) same read) is) are

pub text_holds : (text other : List ℕ) (p : Pattern) (event : Tree) (r : Bool) → other ≡ text → IsPatternText other p → (IsTrue r ↔ PatternHolds p event)
    → IsTrue r ↔ TextHolds text event
text_holds text other p event r same read holds = (
  λ sure. (p, subst (λ t. IsPatternText t p) same read, holds.0 sure),
  λ h. holds.1 (subst (λ (x : Pattern). PatternHolds x event) (one_pattern h.1 (subst (λ t. IsPatternText t p) same read)) h.2),
)

pub covered_too : (a : Bool) (text other : List ℕ) (anchors others : List Anchor) → other ≡ text → others ≡ anchors
    → ∥ (IsTrue a → AreAnchorsOf text (parts_of anchors)) ∥₁ → ∥ (IsTrue a → AreAnchorsOf other (parts_of others)) ∥₁
covered_too a text other anchors others same alike h =
    ∥∥₁_map h (λ covers sure. subst (λ t. AreAnchorsOf t (parts_of others)) (sym same) (subst (λ l. AreAnchorsOf text (parts_of l)) (sym alike) (covers sure)))

pub same_next : (rules : List Rule) (i : ℕ) (rule : Rule) (copies : List Rule) (copy : Rule) (more : List Rule) → i < length rules → rule ≡ get_or rules i rule
    → AreSame (take i rules) copies → rule_in copy ≡ rule_in rule → arc_value copy.anchors ≡ arc_value rule.anchors → more ≡ copies ++ copy ∷ []
    → AreSame (take (i + 1) rules) more
same_next rules i rule copies copy more within is before seen anchors grown =
    let next : take (i + 1) rules ≡ take i rules ++ rule ∷ [] = take_more rules i rule within ∙ ap (λ (x : Rule). take i rules ++ x ∷ []) (sym is) in
    subst (λ (l : List Rule). AreSame (take (i + 1) rules) l) (sym grown)
    (subst (λ (l : List Rule). AreSame l (copies ++ copy ∷ [])) (sym next) (same_more (take i rules) copies rule copy before seen anchors))

abbrev pub other_rule : ℕ → Rule → Bool
other_rule n rule = not (rule.number == n)

-- a rule with another number
pub other_next : (n : ℕ) (rules : List Rule) (i : ℕ) (rule : Rule) (copies : List Rule) (copy : Rule) (more : List Rule) → i < length rules → rule ≡ get_or rules i rule
    → rule.number ≢ n → AreSame (filter (other_rule n) (take i rules)) copies → rule_in copy ≡ rule_in rule → arc_value copy.anchors ≡ arc_value rule.anchors
    → more ≡ copies ++ copy ∷ [] → AreSame (filter (other_rule n) (take (i + 1) rules)) more
other_next n rules i rule copies copy more within is apart before seen anchors grown =
    let next : filter (other_rule n) (take (i + 1) rules) ≡ filter (other_rule n) (take i rules) ++ rule ∷ [] = filter_more (other_rule n) rules i rule within
    ∙ ap (λ (x : Rule). filter (other_rule n) (take i rules) ++ cond (other_rule n x) (x ∷ []) []) (sym is)
    ∙ ap (λ l. filter (other_rule n) (take i rules) ++ l) (cond-true (other_rule n rule) (rule ∷ []) [] (ap not (ne_eqb rule.number n apart))) in
    subst (λ (l : List Rule). AreSame (filter (other_rule n) (take (i + 1) rules)) l) (sym grown)
    (subst (λ (l : List Rule). AreSame l (copies ++ copy ∷ [])) (sym next) (same_more (filter (other_rule n) (take i rules)) copies rule copy before seen anchors))

-- a rule with this number
pub other_skipped : (n : ℕ) (rules : List Rule) (i : ℕ) (rule : Rule) (copies : List Rule) → i < length rules → rule ≡ get_or rules i rule
    → rule.number ≡ n → AreSame (filter (other_rule n) (take i rules)) copies → AreSame (filter (other_rule n) (take (i + 1) rules)) copies
other_skipped n rules i rule copies within is same before =
    let next : filter (other_rule n) (take (i + 1) rules) ≡ filter (other_rule n) (take i rules) = filter_more (other_rule n) rules i rule within
    ∙ ap (λ (x : Rule). filter (other_rule n) (take i rules) ++ cond (other_rule n x) (x ∷ []) []) (sym is)
    ∙ ap (λ l. filter (other_rule n) (take i rules) ++ l) (cond-false (other_rule n rule) (rule ∷ []) [] (ap not (eq-eqb rule.number n same)))
    ∙ append-nil (filter (other_rule n) (take i rules)) in
    subst (λ (l : List Rule). AreSame l copies) (sym next) before

-- one rule after copies
pub with_entered : (rules copies all : List Rule) (rule : Rule) (n : ℕ) (parts : List Part) → AreSame rules copies → all ≡ copies ++ rule ∷ [] → rule.number ≡ n
    → parts ≡ parts_of (arc_value rule.anchors).items → entered_by_all all ≡ entered_by_all rules ++ with_number n parts
with_entered rules copies all rule n parts same grown number alike =
    ap entered_by_all grown ∙ flat_append entered_by copies (rule ∷ [])
    ∙ ap₂ ◌++◌ same.entered (append-nil (entered_by rule) ∙ ap₂ with_number number (sym alike))

pub with_seen : (rules copies all : List Rule) (rule : Rule) (x : ℕ × List ℕ) → AreSame rules copies → all ≡ copies ++ rule ∷ [] → rule_in rule ≡ x
    → map rule_in all ≡ map rule_in rules ++ x ∷ []
with_seen rules copies all rule x same grown is =
    ap (map rule_in) grown ∙ map-append rule_in copies (rule ∷ []) ∙ ap₂ ◌++◌ same.seen (ap (λ y. y ∷ []) is)

pub rules_next : (patterns : List (ℕ × List ℕ)) (i : ℕ) (item : ℕ × List ℕ) (rules : List Rule) (rule : Rule) (more : List Rule) → i < length patterns
    → item ≡ get_or patterns i item → map rule_in rules ≡ take i patterns → rule_in rule ≡ item → more ≡ rules ++ rule ∷ []
    → map rule_in more ≡ take (i + 1) patterns
rules_next patterns i item rules rule more within is before seen grown =
    ap (map rule_in) grown ∙ map-append rule_in rules (rule ∷ []) ∙ ap₂ ◌++◌ before (ap (λ y. y ∷ []) (seen ∙ is))
    ∙ sym (take_more patterns i item within)
