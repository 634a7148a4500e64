use Rattle.std.proofs.Common.{◌≡◌, [], List, refl, sym, subst, arith}
use Rattle.std.proofs.lemmas.List.{append-nil, nil_from_length}
use Rattle.router_requests.specs.declared.seen.SeenTarget.{SeenTarget}
use Rattle.router_requests.specs.Duties.{AreDuties}
use Rattle.router_requests.proofs.duties.duties_of.Goals as goal

pub returns : goal.returns
returns c = λ event time text tree is.
    let left : c.loop-seen.targets.items ≡ [] = nil_from_length c.loop-seen.targets.items (omega (arith, c.in_default.ensures.cases.0)) in
    let none : AreDuties event time c.loop-seen.targets.items [] = subst (λ (ts : List SeenTarget). AreDuties event time ts []) (sym left) refl in
    subst (AreDuties event time c.args.targets.items) (append-nil c.loop-seen.duties.items) (c.loop-seen.invariant.all event time text tree is [] none)
