use Rattle.std.proofs.Common.{◌≡◌, ◌≤◌, ◌++◌, ◌∷◌, [], ℕ, List, length, codes, OnOk, refl, subst, arith}
use Rattle.json_text.specs.Tree.{object, members_of}
use Rattle.json_text.specs.View.{pairs_of}
use Rattle.config_views.specs.Views.{text_members, paths_member}
use Rattle.config_views.proofs.inputs.push_paths.Goals as goal

shown_paths : (paths : List (List ℕ × List ℕ)) → 1 ≤ length paths
    → paths_member paths ≡ (codes "InputPathsMap", object (members_of (text_members paths))) ∷ []
shown_paths [] some = absurd (omega (arith, some))
shown_paths (path ∷ paths) some = refl

pub returns-in_ok-shown-in-len1-up : goal.returns-in_ok-shown-in-len1-up
returns-in_ok-shown-in-len1-up c =
    rw (shown_paths c.args.paths.now c.in-len1-up.len_at_least) (subst (λ shown. OnOk c.push_member.result
    (pairs_of c.push_member.new.members.items ≡ pairs_of c.args.members.now.items ++ (codes "InputPathsMap", shown) ∷ []))
    c.in_ok-shown-in-len1-up.ensures c.push_member.ensures.pushed)
