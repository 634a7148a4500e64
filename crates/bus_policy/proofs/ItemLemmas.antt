-- Lists of the code and the items of the definitions: `before_none`, `some_sid_items`; copies, one more at a
-- time: `left_out`, `copied`;
-- the value of a changed policy: `made_first`, `made_more`, `made_less`; `some_left`.
use Rattle.std.proofs.Common.{◌≡◌, ◌<◌, ℕ, ◌+◌, true, false, cond, ◌||◌, List, [], ◌∷◌, ◌++◌, length, get_or, drop, refl, sym, ap, ◌∙◌}
use Rattle.std.specs.List.{list_any}
use Rattle.std.specs.Prelude.{unwrap_or, codes}
use Rattle.std.proofs.lemmas.Bool.{cond-true, cond-false}
use Rattle.std.proofs.lemmas.List.{at_drop_more, map-append}
use Rattle.json_text.specs.Tree.{Tree, Items, no_items, item, items_of}
use Rattle.json_text.specs.View.{tree_of, trees_of}
use Rattle.json_text.specs.declared.value.Json.{Json}
use Rattle.json_text.specs.Access.{member_of}
use Rattle.bus_policy.specs.Parts.{statements_of, has_sid}
use Rattle.bus_policy.specs.Stored.{default_version, policy_with}
use Rattle.bus_policy.specs.Change.{with_last, first_policy, with_statement, without_sid, without_statement, some_has_sid}

-- trees before others
abbrev pub items_before : List Tree → Items → Items
items_before [] rest = rest
items_before (t ∷ ts) rest = item t (items_before ts rest)

pub before_none : (ts : List Tree) → items_before ts no_items ≡ items_of ts
before_none [] = refl
before_none (t ∷ ts) = ap (item t) (before_none ts)

before_more : (ts : List Tree) (t : Tree) (rest : Items) → items_before (ts ++ t ∷ []) rest ≡ items_before ts (item t rest)
before_more [] t rest = refl
before_more (u ∷ ts) t rest = ap (item u) (before_more ts t rest)

with_last_items : (ts : List Tree) (t : Tree) → items_of (ts ++ t ∷ []) ≡ with_last (items_of ts) t
with_last_items [] t = refl
with_last_items (u ∷ ts) t = ap (item u) (with_last_items ts t)

-- one pushed value more
pushed_last : (xs pushed : List Json) (x : Json) (t : Tree) (ss : Items) → pushed ≡ xs ++ x ∷ [] → tree_of x ≡ t
    → items_of (trees_of xs) ≡ ss → items_of (trees_of pushed) ≡ with_last ss t
pushed_last xs pushed x t ss more is of =
    ap (λ ys. items_of (trees_of ys)) more ∙ ap items_of (map-append tree_of xs (x ∷ [])) ∙ with_last_items (trees_of xs) (tree_of x)
    ∙ ap (with_last (items_of (trees_of xs))) is ∙ ap (λ i. with_last i t) of

pub some_sid_items : (sid : List ℕ) (ts : List Tree) → list_any (has_sid sid) ts ≡ some_has_sid sid (items_of ts)
some_sid_items sid [] = refl
some_sid_items sid (t ∷ ts) = ap (λ b. has_sid sid t || b) (some_sid_items sid ts)

-- what is stored of the rest
abbrev pub left_of : List ℕ → List Json → Items
left_of sid xs = without_sid sid (items_of (trees_of xs))

cut : (sid : List ℕ) (xs : List Json) (i : ℕ) (x : Json) → i < length xs → x ≡ get_or xs i x
    → left_of sid (drop i xs) ≡ cond (has_sid sid (tree_of x)) (left_of sid (drop (i + 1) xs)) (item (tree_of x) (left_of sid (drop (i + 1) xs)))
cut sid xs i x h e = at_drop_more (left_of sid) xs i x h ∙ ap (λ y. left_of sid (y ∷ drop (i + 1) xs)) (sym e)

pub left_out : (sid : List ℕ) (done : List Tree) (xs : List Json) (i : ℕ) (x : Json) (all : Items) → i < length xs
    → x ≡ get_or xs i x → has_sid sid (tree_of x) ≡ true
    → items_before done (left_of sid (drop i xs)) ≡ all → items_before done (left_of sid (drop (i + 1) xs)) ≡ all
left_out sid done xs i x all h e has so =
    ap (items_before done) (sym (cut sid xs i x h e
    ∙ cond-true (has_sid sid (tree_of x)) (left_of sid (drop (i + 1) xs))
    (item (tree_of x) (left_of sid (drop (i + 1) xs))) has)) ∙ so

pub copied : (sid : List ℕ) (done pushed : List Json) (xs : List Json) (i : ℕ) (x y : Json) (all : Items)
    → i < length xs → x ≡ get_or xs i x → has_sid sid (tree_of x) ≡ false
    → pushed ≡ done ++ y ∷ [] → tree_of y ≡ tree_of x
    → items_before (trees_of done) (left_of sid (drop i xs)) ≡ all → items_before (trees_of pushed) (left_of sid (drop (i + 1) xs)) ≡ all
copied sid done pushed xs i x y all h e has more is so =
    ap (λ ys. items_before (trees_of ys) (left_of sid (drop (i + 1) xs))) more
    ∙ ap (λ ts. items_before ts (left_of sid (drop (i + 1) xs))) (map-append tree_of done (y ∷ []))
    ∙ before_more (trees_of done) (tree_of y) (left_of sid (drop (i + 1) xs))
    ∙ ap (λ t. items_before (trees_of done) (item t (left_of sid (drop (i + 1) xs)))) is
    ∙ ap (items_before (trees_of done))
    (sym (cut sid xs i x h e ∙ cond-false (has_sid sid (tree_of x)) (left_of sid (drop (i + 1) xs))
    (item (tree_of x) (left_of sid (drop (i + 1) xs))) has)) ∙ so

some_items : (xs : List Json) → (xs ≡ [] → ⊥) → items_of (trees_of xs) ≡ no_items → ⊥
some_items [] h e = h refl
some_items (x ∷ xs) h e = cc

-- some statement is left
pub some_left : (sid : List ℕ) (xs all : List Json) (ss : Items) → (xs ≡ [] → ⊥)
    → items_of (trees_of xs) ≡ without_sid sid (items_of (trees_of all)) → items_of (trees_of all) ≡ ss
    → without_sid sid ss ≡ no_items → ⊥
some_left sid xs all ss some is of none = some_items xs some (is ∙ ap (without_sid sid) of ∙ none)

-- the value of a policy with one statement, with one more, and without those of a Sid
pub made_first : (xs pushed : List Json) (x : Json) (version value t : Tree) → xs ≡ [] → pushed ≡ xs ++ x ∷ [] → tree_of x ≡ t → version ≡ default_version
    → value ≡ policy_with version (items_of (trees_of pushed)) → value ≡ first_policy t
made_first xs pushed x version value t none more is v e =
    e ∙ ap (λ w. policy_with w (items_of (trees_of pushed))) v
    ∙ ap (policy_with default_version)
    (pushed_last xs pushed x t no_items more is (ap (λ ys. items_of (trees_of ys)) none))

pub made_more : (xs pushed : List Json) (x : Json) (version value seen policy t : Tree) → seen ≡ policy
    → version ≡ unwrap_or (member_of (codes "Version") seen) default_version
    → items_of (trees_of xs) ≡ statements_of seen → pushed ≡ xs ++ x ∷ [] → tree_of x ≡ t
    → value ≡ policy_with version (items_of (trees_of pushed)) → value ≡ with_statement policy t
made_more xs pushed x version value seen policy t same v ss more is e =
    e ∙ ap (λ w. policy_with w (items_of (trees_of pushed))) v
    ∙ ap (policy_with (unwrap_or (member_of (codes "Version") seen) default_version)) (pushed_last xs pushed x t (statements_of seen) more is ss)
    ∙ ap (λ p. with_statement p t) same

pub made_less : (sid : List ℕ) (xs all : List Json) (version value seen policy : Tree) → seen ≡ policy
    → version ≡ unwrap_or (member_of (codes "Version") seen) default_version
    → items_of (trees_of all) ≡ statements_of policy
    → items_of (trees_of xs) ≡ without_sid sid (items_of (trees_of all))
    → value ≡ policy_with version (items_of (trees_of xs)) → value ≡ without_statement policy sid
made_less sid xs all version value seen policy same v of ss e =
    e ∙ ap (λ w. policy_with w (items_of (trees_of xs))) (v ∙ ap (λ p. unwrap_or (member_of (codes "Version") p) default_version) same)
    ∙ ap (policy_with (unwrap_or (member_of (codes "Version") policy) default_version)) (ss ∙ ap (without_sid sid) of)
