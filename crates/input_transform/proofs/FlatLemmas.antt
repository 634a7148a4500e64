-- A rewritten template, piece by piece: one element more of a list (`items_step`) and of an object (`members_step`), and one part more
-- of a string (`inside_plain`, `inside_itself`, `inside_name`).
use Rattle.std.proofs.Common.{◌≡◌, ◌≢◌, ℕ, zero, suc, ◌+◌, ◌<◌, ◌==◌, List, [], ◌∷◌, ◌++◌, length, get_or, map, drop, flat_map, Some, None, refl, sym, ap, ◌∙◌, arith, append_assoc, unwrap_or}
use Rattle.std.specs.Option.{option_and_then, option_map}
use Rattle.std.proofs.lemmas.List.{drop_more, drop_at}
use Rattle.std.proofs.lemmas.Grind.{flat_map-append}
use Rattle.std.proofs.lemmas.Bool.{cond-false, ne_eqb}
use Rattle.json_text.specs.Tree.{Tree, items_of, members_of, text}
use Rattle.json_text.specs.View.{tree_of, trees_of, pairs_of}
use Rattle.json_text.specs.Compact.{compact_text, quoted, escape}
use Rattle.json_text.specs.declared.value.Json.{Json}
use Rattle.json_text.proofs.CompactLemmas.{items_left, members_left}
use Rattle.input_transform.specs.Names.{Scene, Source, Paths, source_named, value_in}
use Rattle.input_transform.specs.Template.{byte, before_mark, name_before, part_of, taken_by, parts_after}
use Rattle.input_transform.specs.Filled.{inside_text, part_text}
use Rattle.input_transform.specs.Letters.{filled_back, items_back, members_back, named_value, filled_string, inside_of, comma_of}

abbrev pub backs : Paths → Scene → List Tree → List Tree
backs paths scene = map (filled_back paths scene)

abbrev pub pairs_back : Paths → Scene → List (List ℕ × Tree) → List (List ℕ × Tree)
pairs_back paths scene = map (λ m. (drop 1 m.0, filled_back paths scene m.1))

pub items_back_of : (paths : Paths) (scene : Scene) (ts : List Tree) → items_back paths scene (items_of ts) ≡ items_of (backs paths scene ts)
items_back_of paths scene [] = refl
items_back_of paths scene (t ∷ ts) = let rest = items_back_of paths scene ts in cc

pub members_back_of : (paths : Paths) (scene : Scene) (ms : List (List ℕ × Tree)) → members_back paths scene (members_of ms) ≡ members_of (pairs_back paths scene ms)
members_back_of paths scene [] = refl
members_back_of paths scene (m ∷ ms) = let rest = members_back_of paths scene ms in cc

first_item : (i : ℕ) (t : Tree) (ts : List Tree) → items_left i (t ∷ ts) ≡ comma_of i ++ (compact_text t ++ items_left (suc i) ts)
first_item zero t ts = refl
first_item (suc i) t ts = refl

first_member : (i : ℕ) (m : List ℕ × Tree) (ms : List (List ℕ × Tree))
    → members_left i (m ∷ ms) ≡ comma_of i ++ (quoted m.0 ++ 58 ∷ (compact_text m.1 ++ members_left (suc i) ms))
first_member zero m ms = refl
first_member (suc i) m ms = refl

-- one element more is written
pub items_step : (paths : Paths) (scene : Scene) (js : List Json) (i : ℕ) (j : Json) (old comma new whole : List ℕ) → i < length js → j ≡ get_or js i j
    → old ++ items_left i (backs paths scene (trees_of (drop i js))) ≡ whole → comma ≡ old ++ comma_of i
    → new ≡ comma ++ compact_text (filled_back paths scene (tree_of j))
    → new ++ items_left (i + 1) (backs paths scene (trees_of (drop (i + 1) js))) ≡ whole
items_step paths scene js i j old comma new whole within is so first second =
    let t = filled_back paths scene (tree_of j) in
    let left = items_left (suc i) (backs paths scene (trees_of (drop (i + 1) js))) in
    let front : drop i js ≡ j ∷ drop (i + 1) js = drop_more js i j within ∙ ap (λ x. x ∷ drop (i + 1) js) (sym is) in
    ap (λ k. new ++ items_left k (backs paths scene (trees_of (drop (i + 1) js)))) (let e : i + 1 ≡ suc i = omega arith in e)
    ∙ ap (λ x. x ++ left) (second ∙ ap (λ x. x ++ compact_text t) first) ∙ append_assoc (old ++ comma_of i) (compact_text t) left
    ∙ append_assoc old (comma_of i) (compact_text t ++ left)
    ∙ ap (λ x. old ++ x) (sym (first_item i t (backs paths scene (trees_of (drop (i + 1) js)))))
    ∙ ap (λ xs. old ++ items_left i (backs paths scene (trees_of xs))) (sym front) ∙ so

regroup : (a b c d e : List ℕ) → (((a ++ b) ++ (c ++ 58 ∷ [])) ++ d) ++ e ≡ a ++ (b ++ (c ++ 58 ∷ (d ++ e)))
regroup a b c d e = simp append_assoc

pub members_step : (paths : Paths) (scene : Scene) (js : List (List ℕ × Json)) (i : ℕ) (j : List ℕ × Json) (old comma keyed new whole : List ℕ) → i < length js
    → j ≡ get_or js i j → old ++ members_left i (pairs_back paths scene (pairs_of (drop i js))) ≡ whole → comma ≡ old ++ comma_of i
    → keyed ≡ comma ++ (quoted (drop 1 j.0) ++ 58 ∷ []) → new ≡ keyed ++ compact_text (filled_back paths scene (tree_of j.1))
    → new ++ members_left (i + 1) (pairs_back paths scene (pairs_of (drop (i + 1) js))) ≡ whole
members_step paths scene js i j old comma keyed new whole within is so first key second =
    let t = filled_back paths scene (tree_of j.1) in
    let rest = pairs_back paths scene (pairs_of (drop (i + 1) js)) in
    let left = members_left (suc i) rest in
    let name = quoted (drop 1 j.0) in
    let front : drop i js ≡ j ∷ drop (i + 1) js = drop_more js i j within ∙ ap (λ x. x ∷ drop (i + 1) js) (sym is) in
    ap (λ k. new ++ members_left k rest) (let e : i + 1 ≡ suc i = omega arith in e)
    ∙ ap (λ x. x ++ left) (second ∙ ap (λ x. x ++ compact_text t) (key ∙ ap (λ x. x ++ (name ++ 58 ∷ [])) first))
    ∙ regroup old (comma_of i) name (compact_text t) left
    ∙ ap (λ x. old ++ x) (sym (first_member i (drop 1 j.0, t) rest))
    ∙ ap (λ xs. old ++ members_left i (pairs_back paths scene (pairs_of xs))) (sym front) ∙ so

-- what a value became
pub becomes : (paths : Paths) (scene : Scene) (old : List ℕ) (j : Json) (t : Tree) → tree_of j ≡ t
    → old ++ compact_text (filled_back paths scene t) ≡ old ++ compact_text (filled_back paths scene (tree_of j))
becomes paths scene old j t e = ap (λ x. old ++ compact_text (filled_back paths scene x)) (sym e)

-- no name
pub named_none : (paths : Paths) (scene : Scene) (n : List ℕ) → source_named paths n ≡ None → named_value paths scene n ≡ text []
named_none paths scene n e = ap (λ o. unwrap_or (option_and_then (value_in scene) o) (text [])) e

-- the parts after bytes that are skipped
parts_skip : (paths : Paths) (n : ℕ) (bs : List ℕ) → parts_after paths n bs ≡ parts_after paths 0 (drop n bs)
parts_skip paths zero bs = refl
parts_skip paths (suc n) [] = refl
parts_skip paths (suc n) (b ∷ bs) = parts_skip paths n bs

pub inside_plain : (paths : Paths) (scene : Scene) (b : ℕ) (bs : List ℕ) → b ≢ 60 → inside_of paths scene (b ∷ bs) ≡ escape b ++ inside_of paths scene bs
inside_plain paths scene b bs other =
    ap (λ ps. flat_map escape (flat_map (part_text scene) ps))
    (cond-false (b == 60) (part_of (name_before paths bs) ∷ parts_after paths (taken_by (name_before paths bs)) bs) (byte b ∷ parts_after paths 0 bs) (ne_eqb b 60 other))

pub inside_itself : (paths : Paths) (scene : Scene) (bs : List ℕ) → name_before paths bs ≡ None → inside_of paths scene (60 ∷ bs) ≡ 60 ∷ inside_of paths scene bs
inside_itself paths scene bs none = ap (λ o. flat_map escape (flat_map (part_text scene) (part_of o ∷ parts_after paths (taken_by o) bs))) none

pub inside_name : (paths : Paths) (scene : Scene) (bs : List ℕ) (source : Source) (n : ℕ) → name_before paths bs ≡ Some (source, n)
    → inside_of paths scene (60 ∷ bs) ≡ flat_map escape (inside_text (value_in scene source)) ++ inside_of paths scene (drop (suc n) bs)
inside_name paths scene bs source n some =
    ap (λ o. flat_map escape (flat_map (part_text scene) (part_of o ∷ parts_after paths (taken_by o) bs))) some
    ∙ flat_map-append escape (inside_text (value_in scene source)) (flat_map (part_text scene) (parts_after paths (suc n) bs))
    ∙ ap (λ ps. flat_map escape (inside_text (value_in scene source)) ++ flat_map escape (flat_map (part_text scene) ps)) (parts_skip paths (suc n) bs)

-- a part more is written
pub part_step : (old new inside before after : List ℕ) → new ≡ old ++ inside → before ≡ inside ++ after → new ++ after ≡ old ++ before
part_step old new inside before after e f = ap (λ x. x ++ after) e ∙ append_assoc old inside after ∙ ap (λ x. old ++ x) (sym f)

long : (n : List ℕ) → length (n ++ 62 ∷ []) ≡ suc (length n)
long [] = refl
long (b ∷ n) = ap suc (long n)

-- the name that `mark_cut` and `known_named` found
pub name_is : (paths : Paths) (bytes n rest : List ℕ) (source : Source) → before_mark bytes ≡ Some n → bytes ≡ n ++ 62 ∷ rest → source_named paths n ≡ Some source
    → (name_before paths bytes ≡ Some (source, length n)) × (rest ≡ drop (suc (length n)) bytes)
name_is paths bytes n rest source mark e known = (
  ap (option_and_then (λ m. option_map (λ s. (s, length m)) (source_named paths m))) mark ∙ ap (option_map (λ s. (s, length n))) known,
  sym (ap (drop (suc (length n))) (e ∙ sym (append_assoc n (62 ∷ []) rest)) ∙ drop_at (n ++ 62 ∷ []) rest (suc (length n)) (long n)),
)

pub name_is_none : (paths : Paths) (bytes n : List ℕ) → before_mark bytes ≡ Some n → source_named paths n ≡ None → name_before paths bytes ≡ None
name_is_none paths bytes n mark none =
    ap (option_and_then (λ m. option_map (λ s. (s, length m)) (source_named paths m))) mark ∙ ap (option_map (λ s. (s, length n))) none

-- quotation marks around
pub quoted_closed : (old start body whole : List ℕ) (c : List ℕ) → start ≡ old ++ 34 ∷ [] → whole ≡ start ++ body → whole ++ c ≡ old ++ 34 ∷ (body ++ c)
quoted_closed old start body whole c e f = ap (λ x. x ++ c) (f ∙ ap (λ x. x ++ body) e) ∙ simp append_assoc

-- a string of the rewritten text
pub string_is_name : (paths : Paths) (scene : Scene) (t rest : List ℕ) (letter : ℕ) → t ≡ letter ∷ rest → letter ≡ 78
    → filled_string paths scene t ≡ named_value paths scene rest
string_is_name paths scene t rest letter e is = ap (filled_string paths scene) (e ∙ ap (λ b. b ∷ rest) is)

pub string_is_text : (paths : Paths) (scene : Scene) (t rest : List ℕ) (letter : ℕ) → t ≡ letter ∷ rest → letter ≢ 78
    → filled_string paths scene t ≡ text (flat_map (part_text scene) (parts_after paths 0 rest))
string_is_text paths scene t rest letter e other =
    ap (filled_string paths scene) e
    ∙ cond-false (letter == 78) (named_value paths scene rest) (text (flat_map (part_text scene) (parts_after paths 0 rest))) (ne_eqb letter 78 other)

pub comma_some : (i : ℕ) → i ≢ 0 → comma_of i ≡ 44 ∷ []
comma_some zero other = absurd (other refl)
comma_some (suc i) other = refl
