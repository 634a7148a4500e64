-- Targets that are read one after the other: `Completes`, `read_more`.
use Rattle.std.proofs.Common.{List, [], ◌∷◌, ◌++◌, refl, sym, subst, append_assoc}
use Rattle.json_text.specs.Tree.{Tree}
use Rattle.rule_targets.specs.declared.target.AskedTarget.{AskedTarget}
use Rattle.api_members.specs.Given.{members_in}
use Rattle.api_wire.specs.Call.{IsTargetWith, AreTargets}

-- what is read of the values that are left completes what was read
abbrev pub Completes : List Tree → List Tree → List AskedTarget → Type 0
Completes all left done = (rest : List AskedTarget) → AreTargets left rest → AreTargets all (done ++ rest)

pub read_more : (all left : List Tree) (tree : Tree) (done : List AskedTarget) (one : AskedTarget) → Completes all (tree ∷ left) done
    → IsTargetWith (members_in tree) one → Completes all left (done ++ one ∷ [])
read_more all left tree done one old is = λ rest p.
    subst (AreTargets all) (sym (append_assoc done (one ∷ []) rest)) (old (one ∷ rest) (one, rest, refl, is, p))
