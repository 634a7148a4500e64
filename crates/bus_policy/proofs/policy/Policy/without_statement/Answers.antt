use Rattle.std.proofs.Common.{◌≡◌, [], rules, sym, subst, ◌∙◌}
use Rattle.json_text.specs.View.{tree_of}
use Rattle.bus_policy.specs.Stored.{IsStored}
use Rattle.bus_policy.specs.Parts.{statements_of}
use Rattle.bus_policy.proofs.ItemLemmas.{made_less, some_left}
use Rattle.bus_policy.proofs.ChangeLemmas.{without_stored}
use Rattle.bus_policy.proofs.LengthLemmas.{left_no_longer}
use Rattle.bus_policy.proofs.policy.Policy.without_statement.Goals as goal

pub of-requires : goal.of-requires
of-requires c =
    let made = made_less c.args.sid.now c.in_ok-statements.statements.items c.statements.result.now
    (tree_of c.in_ok-version.version) (tree_of c.in_ok-value.value)
    (tree_of c.value.result.now) c.args.self.now c.value.ensures.seen c.in_ok-version.ensures c.statements.ensures
    c.in_ok-statements.ensures c.in_ok-value.ensures in
    subst IsStored (sym made) (without_stored c.args.self.now c.args.sid.now c.value.ensures.stored)

pub returns-clause-removed : goal.returns-clause-removed
returns-clause-removed c =
    let made = made_less c.args.sid.now c.in_ok-statements.statements.items c.statements.result.now
    (tree_of c.in_ok-version.version) (tree_of c.in_ok-value.value)
    (tree_of c.value.result.now) c.args.self.now c.value.ensures.seen c.in_ok-version.ensures c.statements.ensures
    c.in_ok-statements.ensures c.in_ok-value.ensures in
    let some : c.in_ok-statements.statements.items ≡ [] → ⊥ = search rules in (
      sym c.has_sid.ensures ∙ c.if-not-has_sid.false,
      some_left c.args.sid.now c.in_ok-statements.statements.items c.statements.result.now
          (statements_of c.args.self.now) some c.in_ok-statements.ensures c.statements.ensures,
      c.in_ok-of.ensures ∙ made,
    )

pub returns-clause-no_longer : goal.returns-clause-no_longer
returns-clause-no_longer c = λ rest is.
    let policy = c.args.self.now in
    let made = made_less c.args.sid.now c.in_ok-statements.statements.items c.statements.result.now
    (tree_of c.in_ok-version.version) (tree_of c.in_ok-value.value)
    (tree_of c.value.result.now) policy c.value.ensures.seen c.in_ok-version.ensures c.statements.ensures
    c.in_ok-statements.ensures c.in_ok-value.ensures in
    let same : rest ≡ c.in_ok-of.field-0 = cc in
    left_no_longer policy c.args.sid.now rest c.value.ensures.stored (same ∙ c.in_ok-of.ensures ∙ made)
