-- A text that is a pattern is not refused: `never_refused`.
use Rattle.std.proofs.Common.{◌≡◌, ℕ, true, List, sym, ap, ◌∙◌, subst, arith}
use Rattle.std.proofs.lemmas.Option.{none-some}
use Rattle.json_text.specs.Node.{Node, value_of, first_repeat}
use Rattle.json_text.specs.Grammar.{IsText}
use Rattle.json_text.proofs.OneValue.{one_value}
use Rattle.pattern_meaning.specs.Pattern.{Pattern}
use Rattle.pattern_meaning.specs.Alternatives.{alternative_count}
use Rattle.pattern_read.specs.Value.{IsPatternOf}
use Rattle.pattern_read.specs.Check.{pattern_checks}
use Rattle.pattern_read.specs.Text.{IsPatternText}
use Rattle.pattern_read.specs.Refusal.{IsRefused, too_long, not_json, too_deep, key_twice, at_place, too_many}
use Rattle.pattern_read.specs.declared.fault.Why.{Why}
use Rattle.pattern_read.proofs.CheckLemmas.{none_first}
use Rattle.pattern_read.proofs.PassLemmas.{pattern_passes}
use Rattle.pattern_read.proofs.OneLemmas.{one_pattern_of}

same_node : (text : List ℕ) (p : Pattern) (is : IsPatternText text p) (node : Node) → IsText 100 text node → is.node ≡ node
same_node text p is node spelled = one_value 100 100 text is.node node is.spelled spelled

pub never_refused : (text : List ℕ) (p : Pattern) (why : Why) (keys : List (List ℕ)) → IsPatternText text p → IsRefused text why keys → ⊥
never_refused text p why keys is (too_long long) = omega (arith, is.short, long)
never_refused text p why keys is (not_json at short fails shallow) = fails.none is.node is.spelled
never_refused text p why keys is (too_deep at short fails deep) = fails.none is.node is.spelled
never_refused text p why keys is (key_twice node at short spelled twice) =
    none-some at (sym is.once ∙ ap first_repeat (same_node text p is node spelled) ∙ twice)
never_refused text p why keys is (at_place node w ks short spelled once first) =
    none_first (pattern_checks true (value_of node)) ks w
    (pattern_passes true (value_of node) p (subst (λ (n : Node). IsPatternOf true (value_of n) p) (same_node text p is node spelled) is.stands_for)) first
never_refused text p why keys is (too_many node q short spelled once other many) =
    let same : p ≡ q = one_pattern_of true (value_of node) p q
    (subst (λ (n : Node). IsPatternOf true (value_of n) p) (same_node text p is node spelled) is.stands_for) other in
    omega (arith, is.few, many, ap alternative_count same)
