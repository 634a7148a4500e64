-- The values that a template is filled from: each is a JSON value with no more levels than the event (`value_sound`), and becomes
-- UTF-8 in a string (`inside_utf8`). The event without its detail: `detail_gone`. A rule's name: `name_after`, `name_alone`.
use Rattle.std.proofs.Common.{◌≡◌, ◌≢◌, ℕ, zero, suc, ◌+◌, ◌<◌, ◌≤◌, Bool, true, false, cond, ◌==◌, ◌||◌, List, [], ◌∷◌, ◌++◌, length, get_or, take, drop, Option, Some, None, unwrap_or, codes, refl, sym, ap, ◌∙◌, arith, IsUtf8, encode_utf8}
use Rattle.std.specs.Option.{option_and_then}
use Rattle.std.specs.List.{slice_get, list_any}
use Rattle.std.specs.Str.{bytes_eq, NoCharPasses}
use Rattle.std.specs.Str.Pattern.{RFindsChar, SplitsAroundMatch}
use Rattle.std.proofs.lemmas.List.{take_all, map_more, take-append-drop}
use Rattle.std.proofs.lemmas.Str.{IsUtf8-nil, NoCharPasses-byte, encode_ascii}
use Rattle.std.proofs.lemmas.Bool.{false≢true, cond_both, cond-true, cond-false, or_parts, or_right, ne_eqb}
use Rattle.json_text.specs.Tree.{Tree, null, truth, number, text, list, object, Items, no_items, item, Members, no_members, member, members_of}
use Rattle.json_text.specs.Access.{member_in, trees_in}
use Rattle.json_text.specs.Compact.{IsValue, AreItems, AreMembers, LacksKey, tree_levels, items_levels, members_levels}
use Rattle.json_text.specs.View.{tree_of, pairs_of}
use Rattle.json_text.specs.declared.value.Json.{Json}
use Rattle.json_text.proofs.WrittenUtf8.{compact_utf8}
use Rattle.input_transform.specs.declared.path.Step.{Step}
use Rattle.input_transform.specs.declared.path.Step.TheVariants.{Name, Place}
use Rattle.input_transform.specs.Path.{found_at, step_in}
use Rattle.input_transform.specs.Names.{Scene, Source, rule_arn, rule_name, ingestion_time, whole_event, bare_event, found, value_in, after_slash, without_key, without_detail}
use Rattle.input_transform.specs.Filled.{inside_text}
use Rattle.input_transform.specs.Stored.{IsScene}

or_false : (x y : Bool) → x ≡ false → y ≡ false → (x || y) ≡ false
or_false x y h k = ap (λ b. b || y) h ∙ k

members_cond : (b : Bool) (x y : List (List ℕ × Tree)) → members_of (cond b x y) ≡ cond b (members_of x) (members_of y)
members_cond true x y = refl
members_cond false x y = refl

cond_append : (b : Bool) (x y z : List (List ℕ × Tree)) → cond b (x ++ z) (y ++ z) ≡ cond b x y ++ z
cond_append true x y z = refl
cond_append false x y z = refl

-- a JSON value within some levels
abbrev pub IsWithin : ℕ → Tree → Type 0
IsWithin levels t = IsValue t × (tree_levels t ≤ levels)

-- a value, if there is one, within some levels
abbrev pub AreWithin : ℕ → Option Tree → Type 0
AreWithin levels None = Unit {0}
AreWithin levels (Some t) = IsWithin levels t

member_within : (key : List ℕ) (ms : Members) (levels : ℕ) → AreMembers ms → members_levels ms ≤ levels → AreWithin levels (member_in key ms)
member_within key no_members levels h l = tt
member_within key (member name t ms) levels h l =
    cond_both (bytes_eq name key) (Some t) (member_in key ms) (AreWithin levels) (λ _. (h.2, omega arith)) (λ _. member_within key ms levels h.3 (omega arith))

item_within : (items : Items) (n levels : ℕ) → AreItems items → items_levels items ≤ levels → AreWithin levels (slice_get (trees_in items) n)
item_within no_items n levels h l = tt
item_within (item t items) zero levels h l = (h.0, omega arith)
item_within (item t items) (suc n) levels h l = item_within items n levels h.1 (omega arith)

step_within : (step : Step) (t : Tree) (levels : ℕ) → IsWithin levels t → AreWithin levels (step_in step t)
step_within (Name key) null levels h = tt
step_within (Name key) (truth b) levels h = tt
step_within (Name key) (number s) levels h = tt
step_within (Name key) (text s) levels h = tt
step_within (Name key) (list items) levels h = tt
step_within (Name key) (object ms) levels h = member_within key ms levels h.0 (let l = h.1 in omega (arith, l))
step_within (Place n) null levels h = tt
step_within (Place n) (truth b) levels h = tt
step_within (Place n) (number s) levels h = tt
step_within (Place n) (text s) levels h = tt
step_within (Place n) (list items) levels h = item_within items n levels h.0 (let l = h.1 in omega (arith, l))
step_within (Place n) (object ms) levels h = tt

then_within : (f : Tree → Option Tree) (o : Option Tree) (levels : ℕ) → AreWithin levels o → ((t : Tree) → IsWithin levels t → AreWithin levels (f t))
    → AreWithin levels (option_and_then f o)
then_within f None levels h goes = tt
then_within f (Some t) levels h goes = goes t h

pub found_within : (steps : List Step) (t : Tree) (levels : ℕ) → IsWithin levels t → AreWithin levels (found_at steps t)
found_within [] t levels h = h
found_within (step ∷ steps) t levels h =
    then_within (found_at steps) (step_in step t) levels (step_within step t levels h) (λ u k. found_within steps u levels k)

lacks_without : (k key : List ℕ) (ms : Members) → LacksKey k ms → LacksKey k (without_key key ms)
lacks_without k key no_members h = tt
lacks_without k key (member name t ms) h =
    cond_both (bytes_eq name key) (without_key key ms) (member name t (without_key key ms)) (LacksKey k) (λ _. lacks_without k key ms h.1) (λ _. (h.0, lacks_without k key ms h.1))

without_are : (key : List ℕ) (ms : Members) → AreMembers ms → AreMembers (without_key key ms)
without_are key no_members h = tt
without_are key (member name t ms) h =
    cond_both (bytes_eq name key) (without_key key ms) (member name t (without_key key ms)) AreMembers (λ _. without_are key ms h.3)
    (λ _. (h.0, lacks_without name key ms h.1, h.2, without_are key ms h.3))

without_levels : (key : List ℕ) (ms : Members) → members_levels (without_key key ms) ≤ members_levels ms
without_levels key no_members = omega arith
without_levels key (member name t ms) = let k = without_levels key ms in
    cond_both (bytes_eq name key) (without_key key ms) (member name t (without_key key ms)) (λ x. members_levels x ≤ members_levels (member name t ms))
    (λ _. omega (arith, k)) (λ _. omega (arith, k))

bare_within : (t : Tree) (levels : ℕ) → IsWithin levels t → IsWithin levels (without_detail t)
bare_within null levels h = h
bare_within (truth b) levels h = h
bare_within (number s) levels h = h
bare_within (text s) levels h = h
bare_within (list items) levels h = h
bare_within (object ms) levels h = (without_are (codes "detail") ms h.0, let l = h.1 in let k = without_levels (codes "detail") ms in omega (arith, l, k))

-- each name's value
pub value_within : (scene : Scene) → IsScene scene → (source : Source) → AreWithin (tree_levels scene.event) (value_in scene source)
value_within scene h rule_arn = (h.rule_arn, omega arith)
value_within scene h rule_name = (h.rule_name, omega arith)
value_within scene h ingestion_time = (h.time, omega arith)
value_within scene h whole_event = (h.value, omega arith)
value_within scene h bare_event = bare_within scene.event (tree_levels scene.event) (h.value, omega arith)
value_within scene h (found steps) = found_within steps scene.event (tree_levels scene.event) (h.value, omega arith)

inside_of_tree : (t : Tree) → IsValue t → IsUtf8 (inside_text (Some t))
inside_of_tree null h = compact_utf8 null h
inside_of_tree (truth b) h = compact_utf8 (truth b) h
inside_of_tree (number s) h = compact_utf8 (number s) h
inside_of_tree (text s) h = h
inside_of_tree (list items) h = compact_utf8 (list items) h
inside_of_tree (object ms) h = compact_utf8 (object ms) h

inside_of_option : (o : Option Tree) (levels : ℕ) → AreWithin levels o → IsUtf8 (inside_text o)
inside_of_option None levels h = IsUtf8-nil
inside_of_option (Some t) levels h = inside_of_tree t h.0

pub inside_utf8 : (scene : Scene) → IsScene scene → (source : Source) → IsUtf8 (inside_text (value_in scene source))
inside_utf8 scene h source = inside_of_option (value_in scene source) (tree_levels scene.event) (value_within scene h source)

or_empty : (o : Option Tree) (levels : ℕ) → AreWithin levels o → IsWithin levels (unwrap_or o (text []))
or_empty None levels h = (IsUtf8-nil, omega arith)
or_empty (Some t) levels h = h

pub placed_within : (scene : Scene) → IsScene scene → (source : Source) → IsWithin (tree_levels scene.event) (unwrap_or (value_in scene source) (text []))
placed_within scene h source = or_empty (value_in scene source) (tree_levels scene.event) (value_within scene h source)

or_null : (o : Option Tree) (levels : ℕ) → AreWithin levels o → IsWithin levels (unwrap_or o null)
or_null None levels h = (tt, omega arith)
or_null (Some t) levels h = h

pub path_within : (steps : List Step) (t : Tree) → IsValue t → IsWithin (tree_levels t) (unwrap_or (found_at steps t) null)
path_within steps t h = or_null (found_at steps t) (tree_levels t) (found_within steps t (tree_levels t) (h, omega arith))

-- a rule's name
abbrev any_slash : List ℕ → Bool
any_slash = list_any (λ c. c == 47)

slash_in : (front name : List ℕ) → any_slash (front ++ 47 ∷ name) ≡ true
slash_in [] name = refl
slash_in (b ∷ front) name = or_right (b == 47) (any_slash (front ++ 47 ∷ name)) (slash_in front name)

after_cut : (front name : List ℕ) → any_slash name ≡ false → after_slash (front ++ 47 ∷ name) ≡ name
after_cut [] name h = cond-false (any_slash name) (after_slash name) (cond (47 == 47) name (47 ∷ name)) h
after_cut (b ∷ front) name h =
    cond-true (any_slash (front ++ 47 ∷ name)) (after_slash (front ++ 47 ∷ name)) (cond (b == 47) (front ++ 47 ∷ name) (b ∷ (front ++ 47 ∷ name))) (slash_in front name)
    ∙ after_cut front name h

no_cut : (arn : List ℕ) → any_slash arn ≡ false → after_slash arn ≡ arn
no_cut [] h = refl
no_cut (b ∷ bs) h = let p = or_parts (b == 47) (any_slash bs) h in
    cond-false (any_slash bs) (after_slash bs) (cond (b == 47) bs (b ∷ bs)) p.1 ∙ cond-false (b == 47) bs (b ∷ bs) p.0

no_slash : (bytes : List ℕ) → ((k : ℕ) → k < length bytes → get_or bytes k 0 ≢ 47) → any_slash bytes ≡ false
no_slash [] h = refl
no_slash (b ∷ bs) h = or_false (b == 47) (any_slash bs) (ne_eqb b 47 (h 0 (omega arith))) (no_slash bs (λ k lt. h (suc k) (omega arith)))

none_passes : (bytes : List ℕ) → NoCharPasses (λ d. d == 47) bytes → any_slash bytes ≡ false
none_passes bytes none = no_slash bytes
    (λ k lt e. false≢true (sym (NoCharPasses-byte (λ d. d == 47) bytes k none lt (omega (arith, e))) ∙ ap (λ d. d == 47) e))

pub name_after : (arn front back : List ℕ) → SplitsAroundMatch (RFindsChar 47) arn front back → back ≡ after_slash arn
name_after arn front back (i, j, how, is_front, is_back, order, front_length, back_length) =
    let at = how.1 in
    let cut : arn ≡ take i arn ++ (encode_utf8 47 ++ drop j arn) = sym (take-append-drop i arn) ∙ ap (λ x. take i arn ++ x) at.split in
    let whole : arn ≡ take i arn ++ 47 ∷ drop j arn = cut ∙ ap (λ x. take i arn ++ (x ++ drop j arn)) (encode_ascii 47 (omega arith)) in
    is_back ∙ sym (ap after_slash whole ∙ after_cut (take i arn) (drop j arn) (none_passes (drop j arn) how.0))

pub name_alone : (arn : List ℕ) → NoCharPasses (λ d. d == 47) arn → arn ≡ after_slash arn
name_alone arn none = sym (no_cut arn (none_passes arn none))

-- the event without its detail
abbrev pub without_pairs : List ℕ → List (List ℕ × Tree) → List (List ℕ × Tree)
without_pairs key [] = []
without_pairs key (m ∷ ms) = cond (bytes_eq m.0 key) (without_pairs key ms) (m ∷ without_pairs key ms)

pub without_pairs_of : (key : List ℕ) (ms : List (List ℕ × Tree)) → members_of (without_pairs key ms) ≡ without_key key (members_of ms)
without_pairs_of key [] = refl
without_pairs_of key (m ∷ ms) =
    members_cond (bytes_eq m.0 key) (without_pairs key ms) (m ∷ without_pairs key ms) ∙ ap (λ x. cond (bytes_eq m.0 key) x (member m.0 m.1 x)) (without_pairs_of key ms)

pub without_push : (key : List ℕ) (ms : List (List ℕ × Tree)) (m : List ℕ × Tree)
    → without_pairs key (ms ++ m ∷ []) ≡ without_pairs key ms ++ cond (bytes_eq m.0 key) [] (m ∷ [])
without_push key [] m = refl
without_push key (x ∷ ms) m =
    ap (λ r. cond (bytes_eq x.0 key) r (x ∷ r)) (without_push key ms m)
    ∙ cond_append (bytes_eq x.0 key) (without_pairs key ms) (x ∷ without_pairs key ms) (cond (bytes_eq m.0 key) [] (m ∷ []))

-- a member more is kept, or not
pub kept_step : (key : List ℕ) (ms : List (List ℕ × Json)) (i : ℕ) (m : List ℕ × Json) (old new : List (List ℕ × Tree)) → i < length ms → m ≡ get_or ms i m
    → old ≡ without_pairs key (pairs_of (take i ms)) → new ≡ old ++ cond (bytes_eq m.0 key) [] ((m.0, tree_of m.1) ∷ [])
    → new ≡ without_pairs key (pairs_of (take (i + 1) ms))
kept_step key ms i m old new within is so e =
    let longer : pairs_of (take (i + 1) ms) ≡ pairs_of (take i ms) ++ (m.0, tree_of m.1) ∷ [] =
    map_more (λ (x : List ℕ × Json). (x.0, tree_of x.1)) ms i m within ∙ ap (λ (x : List ℕ × Json). pairs_of (take i ms) ++ (x.0, tree_of x.1) ∷ []) (sym is) in
    e ∙ ap (λ x. x ++ cond (bytes_eq m.0 key) [] ((m.0, tree_of m.1) ∷ [])) so
    ∙ sym (ap (without_pairs key) longer ∙ without_push key (pairs_of (take i ms)) (m.0, tree_of m.1))

pub all_kept : (key : List ℕ) (ms : List (List ℕ × Json)) (i : ℕ) (kept : List (List ℕ × Tree)) → length ms ≤ i → kept ≡ without_pairs key (pairs_of (take i ms))
    → members_of kept ≡ without_key key (members_of (pairs_of ms))
all_kept key ms i kept past so =
    ap members_of (so ∙ ap (λ x. without_pairs key (pairs_of x)) (take_all i ms past)) ∙ without_pairs_of key (pairs_of ms)
