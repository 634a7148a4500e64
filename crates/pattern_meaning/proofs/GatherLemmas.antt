-- What `gathered` has looked through, a step at a time: `gone_step`, `stay_step`, `below_step`, `branch_step`; the first step: `all_covered`.
use Rattle.std.proofs.Common.{◌≡◌, Bor, ℕ, ◌<◌, true, false, ◌&&◌, ◌||◌, List, [], ◌∷◌, ◌++◌, map, ap, sym, refl, ◌∙◌}
use Rattle.std.proofs.Common.{subst, arith}
use Rattle.std.specs.Str.{bytes_eq}
use Rattle.std.specs.List.{AllByRecursion, list_any}
use Rattle.std.proofs.lemmas.Bool.{both_ways, cond-true}
use Rattle.std.proofs.lemmas.List.{append_assoc, append-nil}
use Rattle.json_text.specs.Tree.{Tree}
use Rattle.json_text.specs.Compact.{IsValue}
use Rattle.pattern_meaning.specs.Pattern.{Test, Pattern, pattern, field, Field, tests, below, branch, branches_of}
use Rattle.pattern_meaning.specs.PatternView.{test_of, pattern_of, fields_view}
use Rattle.pattern_meaning.specs.Holds.{IsAbsent}
use Rattle.pattern_meaning.specs.Frames.{path_of, known_of, todo_of, todo_weight}
use Rattle.pattern_meaning.specs.Meets.{absent_in, same_path, known_in, is_missing, has_missing, pattern_paths, fields_paths, field_paths, branches_paths}
use Rattle.pattern_meaning.specs.Meets.{IsCovered, fields_weight, branches_weight, pattern_weight}
use Rattle.pattern_meaning.specs.declared.pattern.LeafTest.{LeafTest}
use Rattle.pattern_meaning.specs.declared.pattern.Field.{Field as CodeField}
use Rattle.pattern_meaning.specs.declared.pattern.Pattern.{Pattern as CodePattern}
use Rattle.pattern_meaning.specs.declared.frames.Path.{Path}
use Rattle.pattern_meaning.specs.declared.frames.Path.TheVariants as path
use Rattle.pattern_meaning.specs.declared.frames.Known.{Known}
use Rattle.pattern_meaning.specs.declared.frames.Known.TheVariants as known
use Rattle.pattern_meaning.specs.declared.frames.Todo.{Todo}
use Rattle.pattern_meaning.specs.declared.frames.Todo.TheVariants as todo
use Rattle.pattern_meaning.proofs.AbsentLemmas.{absent_decides}
use Rattle.pattern_meaning.proofs.KnownLemmas.{root_no, same_last}
use Rattle.pattern_meaning.proofs.FrameLemmas.{path_root, path_key, known_end, known_more, todo_end, todo_fields, todo_branches, fields_heavy, branches_heavy}
use Rattle.pattern_meaning.proofs.MeaningLemmas.{looked_at, left_out}

-- paths as code compares them

pub key_root : (a b : Path) (key : Bor (List ℕ)) (up : Bor Path) → a ≡ path.Key key up → b ≡ path.Root → false ≡ same_path (path_of a) (path_of b)
key_root a b key up is root =
    sym (ap (λ p. same_path p (path_of b)) (ap path_of is ∙ path_key key up)
    ∙ ap (same_path (path_of up.now ++ key.now ∷ [])) (ap path_of root ∙ path_root) ∙ root_no (path_of up.now) key.now)

pub key_key : (a b : Path) (key other : Bor (List ℕ)) (up above : Bor Path) → a ≡ path.Key key up → b ≡ path.Key other above
    → same_path (path_of a) (path_of b) ≡ (bytes_eq key.now other.now && same_path (path_of up.now) (path_of above.now))
key_key a b key other up above is also =
    ap (λ p. same_path p (path_of b)) (ap path_of is ∙ path_key key up)
    ∙ ap (same_path (path_of up.now ++ key.now ∷ [])) (ap path_of also ∙ path_key other above)
    ∙ same_last (path_of up.now) (path_of above.now) key.now other.now

pub any_seen : (ts : List LeafTest) → list_any (λ t. is_missing (test_of t)) ts ≡ has_missing (map test_of ts)
any_seen [] = refl
any_seen (t ∷ ts) = ap (λ b. is_missing (test_of t) || b) (any_seen ts)

abbrev CodeFields : Type 0
CodeFields = Bor (List (List ℕ × CodeField))

abbrev CodeBranches : Type 0
CodeBranches = Bor (List CodePattern)

one_field : (td : Todo) (all more : CodeFields) (at : Bor Path) (rest : Bor Todo) (k : List ℕ) (g : Field)
    → td ≡ todo.Fields all at rest → fields_view all.now ≡ field k g (fields_view more.now)
    → todo_of td ≡ field_paths g (path_of at.now ++ k ∷ []) ++ todo_of (todo.Fields more at rest)
one_field td all more at rest k g is first =
    ap todo_of is ∙ todo_fields all at rest ∙ ap (λ l. fields_paths l (path_of at.now) ++ todo_of rest.now) first
    ∙ append_assoc (field_paths g (path_of at.now ++ k ∷ [])) (fields_paths (fields_view more.now) (path_of at.now)) (todo_of rest.now)
    ∙ ap (λ l. field_paths g (path_of at.now ++ k ∷ []) ++ l) (sym (todo_fields more at rest))

pub less_field : (td : Todo) (all more : CodeFields) (at : Bor Path) (rest : Bor Todo) (k : List ℕ) (g : Field) (n : ℕ)
    → td ≡ todo.Fields all at rest → fields_view all.now ≡ field k g (fields_view more.now) → todo_weight td ≡ n
    → todo_weight (todo.Fields more at rest) < n
less_field td all more at rest k g n is first w =
    omega (arith, w, ap todo_weight is, fields_heavy all at rest, ap fields_weight first, fields_heavy more at rest)

pub gone_step : (event : Tree) (p : Pattern) (td : Todo) (all more : CodeFields) (at below_at : Bor Path) (rest : Bor Todo) (kn : Bor Known) (k : List ℕ) (ts : List Test)
    → IsValue event → AllByRecursion (IsAbsent event) (known_of kn.now) → IsCovered event p (known_of kn.now) (todo_of td)
    → td ≡ todo.Fields all at rest → fields_view all.now ≡ field k (tests ts) (fields_view more.now) → path_of below_at.now ≡ path_of at.now ++ k ∷ []
    → has_missing ts ≡ true → absent_in event (path_of below_at.now) ≡ true
    → AllByRecursion (IsAbsent event) (known_of (known.More below_at kn)) × IsCovered event p (known_of (known.More below_at kn)) (todo_of (todo.Fields more at rest))
gone_step event p td all more at below_at rest kn k ts value absent covered is first place asked gone =
    let q = path_of at.now ++ k ∷ [] in
    let left = todo_of (todo.Fields more at rest) in
    let e : todo_of td ≡ q ∷ left = one_field td all more at rest k (tests ts) is first ∙ ap (λ ps. ps ++ left) (cond-true (has_missing ts) (q ∷ []) [] asked) in
    let now : known_of (known.More below_at kn) ≡ q ∷ known_of kn.now = known_more below_at kn ∙ ap (λ x. x ∷ known_of kn.now) place in
    let here : IsAbsent event q = subst (IsAbsent event) place ((absent_decides event (path_of below_at.now) value).0 gone) in (
      subst (AllByRecursion (IsAbsent event)) (sym now) (here, absent),
      subst (λ ks. IsCovered event p ks left) (sym now) (looked_at event p (known_of kn.now) (todo_of td) left q e covered),
    )

pub stay_step : (event : Tree) (p : Pattern) (td : Todo) (all more : CodeFields) (at : Bor Path) (rest : Bor Todo) (kn : Bor Known) (k : List ℕ) (ts : List Test) (q : List (List ℕ))
    → IsValue event → IsCovered event p (known_of kn.now) (todo_of td)
    → td ≡ todo.Fields all at rest → fields_view all.now ≡ field k (tests ts) (fields_view more.now) → q ≡ path_of at.now ++ k ∷ []
    → (has_missing ts ≡ true → absent_in event q ≡ false)
    → IsCovered event p (known_of kn.now) (todo_of (todo.Fields more at rest))
stay_step event p td all more at rest kn k ts q value covered is first place there =
    left_out event p (known_of kn.now) (todo_of td) (todo_of (todo.Fields more at rest)) (path_of at.now ++ k ∷ []) (has_missing ts)
    (one_field td all more at rest k (tests ts) is first)
    (λ asked gone. both_ways (absent_in event q) (there asked) ((absent_decides event q value).1 (subst (IsAbsent event) (sym place) gone)))
    covered

pub below_step : (td : Todo) (all more inner : CodeFields) (bs : CodeBranches) (at b c : Bor Path) (rest left br : Bor Todo) (k : List ℕ) (q : Pattern)
    → td ≡ todo.Fields all at rest → fields_view all.now ≡ field k (below q) (fields_view more.now)
    → q ≡ pattern (fields_view inner.now) (branches_of (map pattern_of bs.now))
    → path_of b.now ≡ path_of at.now ++ k ∷ [] → path_of c.now ≡ path_of at.now ++ k ∷ []
    → br.now ≡ todo.Branches bs c left → left.now ≡ todo.Fields more at rest
    → todo_of td ≡ todo_of (todo.Fields inner b br)
below_step td all more inner bs at b c rest left br k q is first opened here also branches fields =
    let place = path_of at.now ++ k ∷ [] in
    let fp = fields_paths (fields_view inner.now) place in
    let bp = branches_paths (branches_of (map pattern_of bs.now)) place in
    let tail = todo_of (todo.Fields more at rest) in
    let inside : todo_of br.now ≡ bp ++ tail = ap todo_of branches ∙ todo_branches bs c left
    ∙ ap (λ x. branches_paths (branches_of (map pattern_of bs.now)) x ++ todo_of left.now) also ∙ ap (λ l. bp ++ todo_of l) fields in
    one_field td all more at rest k (below q) is first ∙ ap (λ x. pattern_paths x place ++ tail) opened ∙ append_assoc fp bp tail
    ∙ sym (todo_fields inner b br ∙ ap (λ x. fields_paths (fields_view inner.now) x ++ todo_of br.now) here ∙ ap (λ l. fp ++ l) inside)

pub below_less : (td : Todo) (all more inner : CodeFields) (bs : CodeBranches) (at b c : Bor Path) (rest left br : Bor Todo) (k : List ℕ) (q : Pattern) (n : ℕ)
    → td ≡ todo.Fields all at rest → fields_view all.now ≡ field k (below q) (fields_view more.now)
    → q ≡ pattern (fields_view inner.now) (branches_of (map pattern_of bs.now))
    → br.now ≡ todo.Branches bs c left → left.now ≡ todo.Fields more at rest → todo_weight td ≡ n
    → todo_weight (todo.Fields inner b br) < n
below_less td all more inner bs at b c rest left br k q n is first opened branches fields w =
    omega (
      arith,
      w,
      ap todo_weight is,
      fields_heavy all at rest,
      ap fields_weight first,
      ap pattern_weight opened,
      fields_heavy inner b br,
      ap todo_weight branches,
      branches_heavy bs c left,
      ap todo_weight fields,
      fields_heavy more at rest,
    )

pub branch_step : (td : Todo) (all more bs : CodeBranches) (inner : CodeFields) (at : Bor Path) (rest left br : Bor Todo) (q : Pattern)
    → td ≡ todo.Branches all at rest → branches_of (map pattern_of all.now) ≡ branch q (branches_of (map pattern_of more.now))
    → q ≡ pattern (fields_view inner.now) (branches_of (map pattern_of bs.now))
    → br.now ≡ todo.Branches bs at left → left.now ≡ todo.Branches more at rest
    → todo_of td ≡ todo_of (todo.Fields inner at br)
branch_step td all more bs inner at rest left br q is first opened branches others =
    let place = path_of at.now in
    let fp = fields_paths (fields_view inner.now) place in
    let bp = branches_paths (branches_of (map pattern_of bs.now)) place in
    let mp = branches_paths (branches_of (map pattern_of more.now)) place in
    let tail = todo_of rest.now in
    let inside : todo_of br.now ≡ bp ++ (mp ++ tail) = ap todo_of branches ∙ todo_branches bs at left ∙ ap (λ l. bp ++ l) (ap todo_of others ∙ todo_branches more at rest) in
    ap todo_of is ∙ todo_branches all at rest ∙ ap (λ l. branches_paths l place ++ tail) first
    ∙ ap (λ x. (pattern_paths x place ++ mp) ++ tail) opened ∙ append_assoc (fp ++ bp) mp tail ∙ append_assoc fp bp (mp ++ tail)
    ∙ sym (todo_fields inner at br ∙ ap (λ l. fp ++ l) inside)

pub branch_less : (td : Todo) (all more bs : CodeBranches) (inner : CodeFields) (at : Bor Path) (rest left br : Bor Todo) (q : Pattern) (n : ℕ)
    → td ≡ todo.Branches all at rest → branches_of (map pattern_of all.now) ≡ branch q (branches_of (map pattern_of more.now))
    → q ≡ pattern (fields_view inner.now) (branches_of (map pattern_of bs.now))
    → br.now ≡ todo.Branches bs at left → left.now ≡ todo.Branches more at rest → todo_weight td ≡ n
    → todo_weight (todo.Fields inner at br) < n
branch_less td all more bs inner at rest left br q n is first opened branches others w =
    omega (
      arith,
      w,
      ap todo_weight is,
      branches_heavy all at rest,
      ap branches_weight first,
      ap pattern_weight opened,
      fields_heavy inner at br,
      ap todo_weight branches,
      branches_heavy bs at left,
      ap todo_weight others,
      branches_heavy more at rest,
    )

-- at the start nothing is known, and all is still to be looked at
pub all_covered : (event : Tree) (p : Pattern) (kn : Known) (td : Todo) → kn ≡ known.End → todo_of td ≡ pattern_paths p [] → IsCovered event p (known_of kn) (todo_of td)
all_covered event p kn td none all q there gone =
    subst (λ ps. known_in ps q ≡ true) (sym (ap (λ k. k ++ todo_of td) (ap known_of none ∙ known_end) ∙ all)) there

pub first_todo : (fs : CodeFields) (bs : CodeBranches) (a b : Bor Path) (rest br : Bor Todo) (p : Pattern) → a.now ≡ path.Root → b.now ≡ path.Root → rest.now ≡ todo.End
    → br.now ≡ todo.Branches bs b rest → p ≡ pattern (fields_view fs.now) (branches_of (map pattern_of bs.now))
    → todo_of (todo.Fields fs a br) ≡ pattern_paths p []
first_todo fs bs a b rest br p root also none branches is =
    let fp = fields_paths (fields_view fs.now) in
    let bp = branches_paths (branches_of (map pattern_of bs.now)) in
    todo_fields fs a br ∙ ap (λ x. fp x ++ todo_of br.now) (ap path_of root ∙ path_root)
    ∙ ap (λ l. fp [] ++ l) (ap todo_of branches ∙ todo_branches bs b rest ∙ ap (λ x. bp x ++ todo_of rest.now) (ap path_of also ∙ path_root)
    ∙ ap (λ l. bp [] ++ l) (ap todo_of none ∙ todo_end) ∙ append-nil (bp []))
    ∙ sym (ap (λ x. pattern_paths x []) is)
