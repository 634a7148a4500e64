-- The lists of frames, and patterns, one cell at a time.
use Rattle.std.proofs.Common.{◌≡◌, ◌==◌, Bor, ℕ, suc, ◌+◌, ◌*◌, ◌-◌, ◌<◌, ◌≤◌, false, List, [], ◌∷◌, ◌++◌, length, get_or, take, drop, map, ap, sym, refl, ◌∙◌, arith}
use Rattle.std.proofs.Math.Seq.{take-length}
use Rattle.pattern_meaning.specs.Pattern.{Pattern, no_fields, field, Branches, branch, branches_of}
use Rattle.pattern_meaning.specs.PatternView.{field_of, pattern_of, fields_view}
use Rattle.pattern_meaning.specs.Meets.{Wants}
use Rattle.pattern_meaning.specs.Frames.{need_of, wanted_step, wants_of, path_step, path_of}
use Rattle.pattern_meaning.specs.declared.frames.Need.{Need}
use Rattle.pattern_meaning.specs.declared.frames.Wanted.{Wanted, fold-roll-Wanted}
use Rattle.pattern_meaning.specs.declared.frames.Wanted.TheOpen.{Wanted-F}
use Rattle.pattern_meaning.specs.declared.frames.Wanted.TheVariants.{End, More, rolls-End, rolls-More}
use Rattle.pattern_meaning.specs.Frames.{known_step, known_of, todo_step, todo_of, todo_weight_step, todo_weight}
use Rattle.pattern_meaning.specs.Meets.{fields_paths, branches_paths, fields_weight, branches_weight}
use Rattle.pattern_meaning.specs.declared.frames.Known.{fold-roll-Known}
use Rattle.pattern_meaning.specs.declared.frames.Known.TheOpen.{Known-F}
use Rattle.pattern_meaning.specs.declared.frames.Known.TheVariants as known
use Rattle.pattern_meaning.specs.declared.frames.Todo.{fold-roll-Todo}
use Rattle.pattern_meaning.specs.declared.frames.Todo.TheOpen.{Todo-F}
use Rattle.pattern_meaning.specs.declared.frames.Todo.TheVariants as todo
use Rattle.pattern_meaning.specs.declared.frames.Path.{fold-roll-Path}
use Rattle.pattern_meaning.specs.declared.frames.Path.TheOpen.{Path-F}
use Rattle.pattern_meaning.specs.declared.frames.Path.TheVariants as path
use Rattle.pattern_meaning.specs.declared.pattern.Field.{Field as CodeField}
use Rattle.pattern_meaning.specs.declared.pattern.Pattern.{Pattern as CodePattern}

pub wants_end : wants_of End ≡ []
wants_end = ap wants_of (sym rolls-End) ∙ fold-roll-Wanted Wants wanted_step Wanted-F.End

pub wants_more : (key : _) (n : _) (rest : _) → wants_of (More key n rest) ≡ (key.now, need_of n) ∷ wants_of rest.now
wants_more key n rest = ap wants_of (sym (rolls-More key n rest)) ∙ fold-roll-Wanted Wants wanted_step (Wanted-F.More key n rest)

pub path_root : path_of path.Root ≡ []
path_root = ap path_of (sym path.rolls-Root) ∙ fold-roll-Path (List (List ℕ)) path_step Path-F.Root

pub path_key : (key : _) (up : _) → path_of (path.Key key up) ≡ path_of up.now ++ key.now ∷ []
path_key key up = ap path_of (sym (path.rolls-Key key up)) ∙ fold-roll-Path (List (List ℕ)) path_step (Path-F.Key key up)

-- a slice without its first element, as code sees it
abbrev pub rest_of : {X : Type 0} → List X → List X
rest_of xs = take (length xs - 1) (drop 1 xs)

pub first_and_rest : {X : Type 0} (xs : List X) (x : X) → 1 ≤ length xs → x ≡ get_or xs 0 x → xs ≡ x ∷ rest_of xs
first_and_rest [] x some is = absurd (omega (arith, some))
first_and_rest (y ∷ ys) x some is =
    let e : suc (length ys) - 1 ≡ length ys = omega arith in
    ap (λ z. z ∷ ys) (sym is) ∙ ap (λ l. x ∷ l) (sym (ap (λ n. take n ys) e ∙ take-length ys))

pub branches_first : (ps : List CodePattern) (p : CodePattern) → 1 ≤ length ps → p ≡ get_or ps 0 p
    → branches_of (map pattern_of ps) ≡ branch (pattern_of p) (branches_of (map pattern_of (rest_of ps)))
branches_first ps p some is = ap (λ l. branches_of (map pattern_of l)) (first_and_rest ps p some is)

pub fields_first : (fs : List (List ℕ × CodeField)) (f : List ℕ × CodeField) → 1 ≤ length fs → f ≡ get_or fs 0 f
    → fields_view fs ≡ field f.0 (field_of f.1) (fields_view (rest_of fs))
fields_first fs f some is = ap fields_view (first_and_rest fs f some is)

-- some branches and no fields
pub some_branch : (ps : List CodePattern) → false ≡ (length ps == 0) → (p : Pattern) × (bs : Branches) × (branches_of (map pattern_of ps) ≡ branch p bs)
some_branch [] h = cc
some_branch (p ∷ ps) h = (pattern_of p, branches_of (map pattern_of ps), refl)

pub no_field : (fs : List (List ℕ × CodeField)) → length fs < 1 → fields_view fs ≡ no_fields
no_field [] h = refl
no_field (f ∷ fs) h = absurd (omega (arith, h))

-- the first element, whatever is returned if there is none
pub first_same : {X : Type 0} (xs : List X) (x y : X) → 1 ≤ length xs → get_or xs 0 x ≡ get_or xs 0 y
first_same [] x y some = absurd (omega (arith, some))
first_same (z ∷ zs) x y some = refl

pub first_wanted : (fs : List (List ℕ × CodeField)) (f g : List ℕ × CodeField) (key : Bor (List ℕ)) (n : Need) (rest : Bor Wanted) → 1 ≤ length fs
    → f ≡ get_or fs 0 f
    → key.now ≡ (get_or fs 0 f).0 → need_of n ≡ field_of (get_or fs 0 g).1
    → wants_of (More key n rest) ≡ (f.0, field_of f.1) ∷ wants_of rest.now
first_wanted fs f g key n rest some is named needed =
    wants_more key n rest
    ∙ ap (λ k. (k, need_of n) ∷ wants_of rest.now) (named ∙ ap (λ x. x.0) (sym is))
    ∙ ap (λ x. (f.0, x) ∷ wants_of rest.now) (needed ∙ ap (λ x. field_of x.1) (first_same fs g f some ∙ sym is))

pub known_end : known_of known.End ≡ []
known_end = ap known_of (sym known.rolls-End) ∙ fold-roll-Known (List (List (List ℕ))) known_step Known-F.End

pub known_more : (at : _) (rest : _) → known_of (known.More at rest) ≡ path_of at.now ∷ known_of rest.now
known_more at rest = ap known_of (sym (known.rolls-More at rest)) ∙ fold-roll-Known (List (List (List ℕ))) known_step (Known-F.More at rest)

pub todo_end : todo_of todo.End ≡ []
todo_end = ap todo_of (sym todo.rolls-End) ∙ fold-roll-Todo (List (List (List ℕ))) todo_step Todo-F.End

pub todo_fields : (fs : _) (at : _) (rest : _) → todo_of (todo.Fields fs at rest) ≡ fields_paths (fields_view fs.now) (path_of at.now) ++ todo_of rest.now
todo_fields fs at rest = ap todo_of (sym (todo.rolls-Fields fs at rest)) ∙ fold-roll-Todo (List (List (List ℕ))) todo_step (Todo-F.Fields fs at rest)

pub todo_branches : (bs : _) (at : _) (rest : _)
    → todo_of (todo.Branches bs at rest) ≡ branches_paths (branches_of (map pattern_of bs.now)) (path_of at.now) ++ todo_of rest.now
todo_branches bs at rest = ap todo_of (sym (todo.rolls-Branches bs at rest)) ∙ fold-roll-Todo (List (List (List ℕ))) todo_step (Todo-F.Branches bs at rest)

pub fields_heavy : (fs : _) (at : _) (rest : _) → todo_weight (todo.Fields fs at rest) ≡ suc (2 * fields_weight (fields_view fs.now)) + todo_weight rest.now
fields_heavy fs at rest = ap todo_weight (sym (todo.rolls-Fields fs at rest)) ∙ fold-roll-Todo ℕ todo_weight_step (Todo-F.Fields fs at rest)

pub branches_heavy : (bs : _) (at : _) (rest : _)
    → todo_weight (todo.Branches bs at rest) ≡ suc (3 * branches_weight (branches_of (map pattern_of bs.now))) + todo_weight rest.now
branches_heavy bs at rest = ap todo_weight (sym (todo.rolls-Branches bs at rest)) ∙ fold-roll-Todo ℕ todo_weight_step (Todo-F.Branches bs at rest)
