use Rattle.std.proofs.Common.{rules, ◌≡◌, ◌≢◌, ◌∙◌, sym}
use Rattle.std.proofs.lemmas.Bool.{false≢true}
use denote.Enum.Bare.{same_false}
use Rattle.leaf_match.specs.contracts.address.Family.{the_type}
use Rattle.leaf_match.specs.Cidr.{Prefix}
use Rattle.leaf_match.proofs.CidrLemmas.{Holds-same_family, not_Holds-other_family, same_number, number_same}
use Rattle.leaf_match.proofs.cidr.Cidr.holds.Goals as goal

pub returns-then-eq : goal.returns-then-eq
returns-then-eq c =
    let prefix : Prefix = record { family = c.self.inside.family; first_bits = c.self.inside.first_bits; length = c.self.inside.length } in
    let same : c.in-Some.address.family ≡ c.self.inside.family = search rules in
    let by = Holds-same_family prefix c.args.text.now c.in-Some.address.family c.in-Some.address.bits c.in-Some.ensures same in
    rw (← c.self.view_is) (
      λ test. by.0 (sym c.leading_bits.ensures.value ∙ same_number c.leading_bits.result c.self.inside.first_bits test),
      λ w. number_same c.leading_bits.result c.self.inside.first_bits (c.leading_bits.ensures.value ∙ by.1 w),
    )

pub returns-else-eq : goal.returns-else-eq
returns-else-eq c =
    let prefix : Prefix = record { family = c.self.inside.family; first_bits = c.self.inside.first_bits; length = c.self.inside.length } in
    let other : c.in-Some.address.family ≢ c.self.inside.family = same_false the_type _ _ (sym c.if-eq.ensures) in
    let not_held = not_Holds-other_family prefix c.args.text.now c.in-Some.address.family c.in-Some.address.bits c.in-Some.ensures other in
    rw (← c.self.view_is) (λ test. absurd (false≢true (sym c.if-eq.false ∙ test)), λ w. absurd (not_held w))
