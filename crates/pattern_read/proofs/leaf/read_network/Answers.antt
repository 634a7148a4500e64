use Rattle.std.proofs.Common.{◌≡◌, sym, ap, ◌∙◌, subst, refl}
use Rattle.std.proofs.lemmas.Option.{none-some}
use Rattle.json_text.specs.Tree.{text}
use Rattle.pattern_meaning.specs.Pattern.{Test, cidr}
use Rattle.pattern_meaning.specs.PatternView.{test_of, test_step}
use Rattle.pattern_meaning.specs.declared.pattern.LeafTest.{fold-roll-LeafTest}
use Rattle.pattern_meaning.specs.declared.pattern.LeafTest.TheVariants as tests
use Rattle.pattern_read.specs.Check.{here, operand}
use Rattle.pattern_read.specs.Reading.{IsReported}
use Rattle.pattern_read.specs.declared.kind.Kind.TheVariants.{Cidr}
use Rattle.pattern_read.proofs.CheckLemmas.{reported_here}
use Rattle.pattern_read.proofs.leaf.read_network.Goals as goal

pub returns-in-None : goal.returns-in-None
returns-in-None c =
    let check = operand Cidr (text c.args.text.now) in
    subst (IsReported (here check)) (sym c.of.ensures) (reported_here check (λ h. none-some h.1.0 ((c.in-None.ensures h.1.0).1 h.1.1)))

pub returns-in-Some : goal.returns-in-Some
returns-in-Some c =
    let is : test_of (tests.Cidr c.in-Some.network) ≡ cidr c.in-Some.network =
    ap test_of (sym (tests.rolls-Cidr c.in-Some.network)) ∙ fold-roll-LeafTest Test test_step _ in
    (c.in-Some.network, (c.in-Some.ensures c.in-Some.network).0 refl, is)
