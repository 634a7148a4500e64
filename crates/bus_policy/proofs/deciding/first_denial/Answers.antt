use Rattle.std.proofs.Common.{arith, ap, ◌∙◌, length, get_or}
use Rattle.bus_policy.specs.View.{asker_of}
use Rattle.bus_policy.proofs.NameLemmas.{names_from-len, named_at, first_at}
use Rattle.bus_policy.proofs.deciding.first_denial.Goals as goal

pub bounds-names-i : goal.bounds-names-i
bounds-names-i c = omega (arith, ap length c.requires, names_from-len 1 c.args.statements.now)

pub returns-then-denies : goal.returns-then-denies
returns-then-denies c =
    let xs = c.args.statements.now in
    let i = c.loop-i.i in
    let x = c.index-statements-i.result in
    let name = c.index-names-i.result in
    let named = named_at 1 xs i x name c.loop-i-test.true c.index-statements-i.is (c.index-names-i.is ∙ ap (λ ns. get_or ns i name) c.requires) in
    c.loop-i.invariant.first c.as_str.result.now
    (first_at (asker_of c.args.asker.now) xs i x c.as_str.result.now c.loop-i-test.true c.index-statements-i.is
    (c.denies.ensures.0 c.if-denies.true) (c.as_str.ensures ∙ named))
