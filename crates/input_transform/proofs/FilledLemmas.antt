-- A rewritten tree is filled as its template (`filled_same`), which is a JSON value with at most 100 levels more than the event
-- (`filled_sound`). A text gives one template (`once`).
use Rattle.std.proofs.Common.{◌≡◌, ◌≢◌, ℕ, zero, suc, ◌+◌, ◌<◌, ◌≤◌, max, true, false, cond, ◌==◌, List, [], ◌∷◌, ◌++◌, length, get_or, drop, flat_map, Option, Some, None, unwrap_or, refl, sym, ap, ◌∙◌, subst, ⊎_elim, arith, length-append, IsUtf8, encode_utf8}
use Rattle.std.specs.Option.{option_and_then, option_map}
use Rattle.std.specs.Str.{bytes_eq, encode_utf8_all, all_scalars, IsCharBoundary}
use Rattle.std.proofs.lemmas.Bool.{cond_both, cond-true, cond-false, cases_lt, cases_eq, ne_eqb, eqb-true, and_parts, both_ways}
use Rattle.std.proofs.lemmas.Str.{IsUtf8-append, IsUtf8-encode, IsUtf8-nil, IsUtf8-drop, IsCharBoundary-after_ascii, length-encode, len_utf8_bounds}
use Rattle.std.proofs.lemmas.List.{get_or_at}
use Rattle.std.proofs.lemmas.Slice.Eq.{bytes_eq-Decides}
use Rattle.json_text.specs.Tree.{Tree, text, list, object, items_of, members_of}
use Rattle.json_text.specs.Node.{Node, Nodes, Fields, value_of, values_of, members_after, with_member}
use Rattle.json_text.specs.Compact.{IsValue, AreItems, AreMembers, LacksKey, tree_levels, items_levels, members_levels}
use Rattle.json_text.proofs.CharacterReads.{characters_utf8}
use Rattle.json_text.proofs.NumberReads.{ascii_cons}
use Rattle.json_text.proofs.Encoded.{encode_1, encode_2, encode_3, encode_4}
use Rattle.input_transform.specs.Names.{Scene, Source, Paths, is_name_byte, source_named, value_in}
use Rattle.input_transform.specs.Template.{byte, Content, null_content, truth_content, number_content, text_content, name_content, list_content, object_content, Contents, no_contents, content, Entries, no_entries, entry, before_mark, name_before, part_of, taken_by, parts_after, SpellsContent, SpellsContents, SpellsMoreContents, SpellsEntries, SpellsMoreEntries, content_levels, contents_levels, entries_levels, IsTemplate}
use Rattle.input_transform.specs.Filled.{inside_text, part_text, filled, filled_all, filled_after}
use Rattle.input_transform.specs.Stored.{IsScene, IsFilledValue}
use Rattle.input_transform.specs.Letters.{Lettered, LetteredAll, LetteredEntries, filled_back}
use Rattle.input_transform.proofs.FlatLemmas.{backs, pairs_back, items_back_of, members_back_of}
use Rattle.input_transform.proofs.SceneLemmas.{inside_utf8, placed_within}

-- each key begins with its letter
abbrev AllLettered : List (List ℕ × Tree) → Type 0
AllLettered [] = Unit {0}
AllLettered (m ∷ ms) = ((k : List ℕ) × (m.0 ≡ 83 ∷ k)) × AllLettered ms

same_test : (key name k : List ℕ) → name ≡ 83 ∷ k → bytes_eq (83 ∷ key) name ≡ bytes_eq key (drop 1 name)
same_test key name k e = ap (bytes_eq (83 ∷ key)) e ∙ ap (bytes_eq key) (sym (ap (drop 1) e))

module _ (paths : Paths) (scene : Scene) where
  with_back : (key : List ℕ) (t : Tree) (ms : List (List ℕ × Tree)) → AllLettered ms
      → (pairs_back paths scene (with_member (83 ∷ key) t ms) ≡ with_member key (filled_back paths scene t) (pairs_back paths scene ms)) × AllLettered (with_member (83 ∷ key) t ms)
  with_back key t [] h = (refl, ((key, refl), tt))
  with_back key t (m ∷ ms) ((k, e), h) =
      let f = filled_back paths scene t in
      let rest = with_back key t ms h in
      let head : List ℕ × Tree = (drop 1 m.0, filled_back paths scene m.1) in
      let test = same_test key m.0 k e in
      cond_both (bytes_eq (83 ∷ key) m.0) ((m.0, t) ∷ ms) (m ∷ with_member (83 ∷ key) t ms)
      (λ x. (pairs_back paths scene x ≡ cond (bytes_eq key (drop 1 m.0)) ((drop 1 m.0, f) ∷ pairs_back paths scene ms) (head ∷ with_member key f (pairs_back paths scene ms))) × AllLettered x)
      (λ y. (sym (cond-true (bytes_eq key (drop 1 m.0)) ((drop 1 m.0, f) ∷ pairs_back paths scene ms) (head ∷ with_member key f (pairs_back paths scene ms)) (sym test ∙ y)), ((k, e), h)))
      (λ n. (
        ap (λ x. head ∷ x) rest.0
            ∙ sym (cond-false (bytes_eq key (drop 1 m.0)) ((drop 1 m.0, f) ∷ pairs_back paths scene ms) (head ∷ with_member key f (pairs_back paths scene ms)) (sym test ∙ n)),
        ((k, e), rest.1),
      ))

  mutual
    pub filled_same : (c : Content) (n : Node) → Lettered paths n c → filled_back paths scene (value_of n) ≡ filled scene c
    filled_same null_content n e = ap (λ x. filled_back paths scene (value_of x)) e
    filled_same (truth_content b) n e = ap (λ x. filled_back paths scene (value_of x)) e
    filled_same (number_content s) n e = ap (λ x. filled_back paths scene (value_of x)) e
    filled_same (text_content parts) n (t, e, p) =
        ap (λ x. filled_back paths scene (value_of x)) e ∙ ap (λ ps. text (flat_map (part_text scene) ps)) (sym p)
    filled_same (name_content source) n (m, e, p) =
        ap (λ x. filled_back paths scene (value_of x)) e ∙ ap (λ o. unwrap_or (option_and_then (value_in scene) o) (text [])) p
    filled_same (list_content cs) n (ns, e, l) =
        ap (λ x. filled_back paths scene (value_of x)) e ∙ ap list (items_back_of paths scene (values_of ns) ∙ ap items_of (filled_all_same cs ns l))
    filled_same (object_content es) n (fs, e, l) =
        ap (λ x. filled_back paths scene (value_of x)) e
        ∙ ap object (members_back_of paths scene (members_after [] fs) ∙ ap members_of (filled_after_same es fs [] tt l))

    filled_all_same : (cs : Contents) (ns : Nodes) → LetteredAll paths ns cs → backs paths scene (values_of ns) ≡ filled_all scene cs
    filled_all_same no_contents ns e = ap (λ x. backs paths scene (values_of x)) e
    filled_all_same (content c cs) ns (m, ms, e, l, k) =
        ap (λ x. backs paths scene (values_of x)) e
        ∙ ap (λ x. x ∷ backs paths scene (values_of ms)) (filled_same c m l) ∙ ap (λ x. filled scene c ∷ x) (filled_all_same cs ms k)

    filled_after_same : (es : Entries) (fs : Fields) (before : List (List ℕ × Tree)) → AllLettered before → LetteredEntries paths fs es
        → pairs_back paths scene (members_after before fs) ≡ filled_after scene (pairs_back paths scene before) es
    filled_after_same no_entries fs before h e = ap (λ x. pairs_back paths scene (members_after before x)) e
    filled_after_same (entry key c es) fs before h (place, n, gs, e, l, k) =
        let w = with_back key (value_of n) before h in
        ap (λ x. pairs_back paths scene (members_after before x)) e
        ∙ filled_after_same es gs (with_member (83 ∷ key) (value_of n) before) w.1 k
        ∙ ap (λ x. filled_after scene x es) (w.0 ∙ ap (λ x. with_member key x (pairs_back paths scene before)) (filled_same c n l))

-- a string's text without names
abbrev NoMark : List ℕ → Type 0
NoMark [] = Unit {0}
NoMark (b ∷ bs) = (b ≢ 60) × NoMark bs

encoded_unmarked : (c : ℕ) → c ≢ 60 → NoMark (encode_utf8 c)
encoded_unmarked c q = ⊎_elim (λ h. subst NoMark (sym (encode_1 c h)) (q, tt)) (λ l.
    ⊎_elim (λ h. subst NoMark (sym (encode_2 c l h)) ((λ e. omega arith), ((λ e. omega arith), tt))) (λ m.
    ⊎_elim (λ h. subst NoMark (sym (encode_3 c m h)) ((λ e. omega arith), ((λ e. omega arith), ((λ e. omega arith), tt))))
    (λ u. subst NoMark (sym (encode_4 c u)) ((λ e. omega arith), ((λ e. omega arith), ((λ e. omega arith), ((λ e. omega arith), tt))))) (cases_lt c 65536)) (cases_lt c 2048)) (cases_lt c 128)

-- the bytes up to a mark, as bytes and what is left
abbrev CutAtMark : List ℕ → Option (List ℕ) → Type 0
CutAtMark bs None = Unit {0}
CutAtMark bs (Some n) = bs ≡ n ++ 62 ∷ drop (suc (length n)) bs

cut_further : (b : ℕ) (bs : List ℕ) (o : Option (List ℕ)) → CutAtMark bs o → CutAtMark (b ∷ bs) (option_map (λ m. b ∷ m) o)
cut_further b bs None h = tt
cut_further b bs (Some n) h = ap (λ x. b ∷ x) h

cut_at_mark : (bs : List ℕ) → CutAtMark bs (before_mark bs)
cut_at_mark [] = tt
cut_at_mark (b ∷ bs) = cond_both (b == 62) (Some []) (cond (is_name_byte b) (option_map (λ m. b ∷ m) (before_mark bs)) None) (CutAtMark (b ∷ bs))
    (λ t. ap (λ x. x ∷ bs) (eqb-true b 62 t))
    (λ _. cond_both (is_name_byte b) (option_map (λ m. b ∷ m) (before_mark bs)) None (CutAtMark (b ∷ bs))
    (λ _. cut_further b bs (before_mark bs) (cut_at_mark bs)) (λ _. tt))

short : (n left : List ℕ) → length n < length (n ++ 62 ∷ left)
short [] left = omega arith
short (b ∷ n) left = let k = short n left in omega (arith, k)

shorter : (n : ℕ) (bs : List ℕ) → length (drop n bs) ≤ length bs
shorter zero bs = omega arith
shorter (suc n) [] = omega arith
shorter (suc n) (b ∷ bs) = let k = shorter n bs in omega (arith, k)

encoded_some : (c : ℕ) → 0 < length (encode_utf8 c)
encoded_some c = let l = length-encode c in let b = len_utf8_bounds c in omega (arith, l, b.0)

nothing : (c : ℕ) (cs t : List ℕ) → encode_utf8_all (c ∷ cs) ≡ t → length t ≤ 0 → ⊥
nothing c cs t e s = let k = encoded_some c in let l = length-append (encode_utf8 c) (encode_utf8_all cs) in let m : length (encode_utf8 c ++ encode_utf8_all cs) ≡ length t = ap length e in
    omega (arith, k, l, m)

left_shorter : (c : ℕ) (cs t : List ℕ) → encode_utf8_all (c ∷ cs) ≡ t → suc (length (encode_utf8_all cs)) ≤ length t
left_shorter c cs t e = let k = encoded_some c in let l = length-append (encode_utf8 c) (encode_utf8_all cs) in let m : length (encode_utf8 c ++ encode_utf8_all cs) ≡ length t = ap length e in
    omega (arith, k, l, m)

module _ (paths : Paths) (scene : Scene) (sound : IsScene scene) where
  -- a part's text, and the rest after it
  abbrev IsFilledUtf8 : List ℕ → Type 0
  IsFilledUtf8 t = IsUtf8 (flat_map (part_text scene) (parts_after paths 0 t))

  unmarked : (bs rest : List ℕ) → NoMark bs → flat_map (part_text scene) (parts_after paths 0 (bs ++ rest)) ≡ bs ++ flat_map (part_text scene) (parts_after paths 0 rest)
  unmarked [] rest h = refl
  unmarked (b ∷ bs) rest h =
      ap (flat_map (part_text scene)) (cond-false (b == 60)
      (part_of (name_before paths (bs ++ rest)) ∷ parts_after paths (taken_by (name_before paths (bs ++ rest))) (bs ++ rest))
      (byte b ∷ parts_after paths 0 (bs ++ rest)) (ne_eqb b 60 h.0))
      ∙ ap (λ x. b ∷ x) (unmarked bs rest h.1)

  skip : (n : ℕ) (bs : List ℕ) → parts_after paths n bs ≡ parts_after paths 0 (drop n bs)
  skip zero bs = refl
  skip (suc n) [] = refl
  skip (suc n) (b ∷ bs) = skip n bs

  after_mark : (bs n : List ℕ) → IsUtf8 bs → bs ≡ n ++ 62 ∷ drop (suc (length n)) bs → IsUtf8 (drop (suc (length n)) bs)
  after_mark bs n u e =
      let left = drop (suc (length n)) bs in
      let long : length bs ≡ length (n ++ 62 ∷ left) = ap length e in
      let within : length n < length bs = subst (λ k. length n < k) (sym long) (short n left) in
      let at : get_or bs (length n) 0 ≡ 62 = ap (λ x. get_or x (length n) 0) e ∙ get_or_at n 62 left 0 (length n) refl in
      IsUtf8-drop bs (suc (length n)) u (subst (λ k. IsCharBoundary bs k) (let plus : length n + 1 ≡ suc (length n) = omega arith in plus)
      (IsCharBoundary-after_ascii bs (length n) u within (omega (arith, at))))

  named : (rest n : List ℕ) (o : Option Source) → rest ≡ n ++ 62 ∷ drop (suc (length n)) rest → IsUtf8 rest
      → ((x : List ℕ) → length x ≤ length rest → IsUtf8 x → IsFilledUtf8 x)
      → IsUtf8 (flat_map (part_text scene) (part_of (option_map (λ s. (s, length n)) o) ∷ parts_after paths (taken_by (option_map (λ s. (s, length n)) o)) rest))
  named rest n None h u goes = ascii_cons 60 _ (omega arith) (goes rest (omega arith) u)
  named rest n (Some source) h u goes =
      let left = drop (suc (length n)) rest in
      IsUtf8-append (inside_text (value_in scene source)) (flat_map (part_text scene) (parts_after paths (suc (length n)) rest)) (inside_utf8 scene sound source)
      (subst (λ ps. IsUtf8 (flat_map (part_text scene) ps)) (sym (skip (suc (length n)) rest)) (goes left (shorter (suc (length n)) rest) (after_mark rest n u h)))

  -- a name, or `<` itself, and the rest
  marked : (rest : List ℕ) (o : Option (List ℕ)) → CutAtMark rest o → IsUtf8 rest
      → ((x : List ℕ) → length x ≤ length rest → IsUtf8 x → IsFilledUtf8 x)
      → IsUtf8 (flat_map (part_text scene) (part_of (option_and_then (λ n. option_map (λ s. (s, length n)) (source_named paths n)) o)
      ∷ parts_after paths (taken_by (option_and_then (λ n. option_map (λ s. (s, length n)) (source_named paths n)) o)) rest))
  marked rest None h u goes = ascii_cons 60 _ (omega arith) (goes rest (omega arith) u)
  marked rest (Some n) h u goes = named rest n (source_named paths n) h u goes

  parts_utf8 : (fuel : ℕ) (t : List ℕ) → length t ≤ fuel → IsUtf8 t → IsFilledUtf8 t
  parts_utf8 fuel t near ([], (ok, e)) = subst IsFilledUtf8 e IsUtf8-nil
  parts_utf8 zero t near (c ∷ cs, (ok, e)) = absurd (nothing c cs t e near)
  parts_utf8 (suc fuel) t near (c ∷ cs, (ok, e)) =
      let rest = encode_utf8_all cs in
      let p = and_parts _ (all_scalars cs) ok in
      let u : IsUtf8 rest = (cs, (p.1, refl)) in
      let less = left_shorter c cs t e in
      subst IsFilledUtf8 e (⊎_elim
      (λ is. subst (λ x. IsFilledUtf8 (x ++ rest)) (sym (ap encode_utf8 is ∙ encode_1 60 (omega arith)))
      (marked rest (before_mark rest) (cut_at_mark rest) u (λ x within utf8. parts_utf8 fuel x (omega (arith, less)) utf8)))
      (λ other. subst IsUtf8 (sym (unmarked (encode_utf8 c) rest (encoded_unmarked c other)))
      (IsUtf8-append (encode_utf8 c) _ (IsUtf8-encode c p.0) (parts_utf8 fuel rest (omega (arith, less)) u))) (cases_eq c 60))

  pub text_utf8 : (t : List ℕ) → IsUtf8 t → IsFilledUtf8 t
  text_utf8 t u = parts_utf8 (length t) t (omega arith) u

-- one member more, or another value of one
lacks_with : (k key : List ℕ) (t : Tree) (ms : List (List ℕ × Tree)) → k ≢ key → LacksKey k (members_of ms) → LacksKey k (members_of (with_member key t ms))
lacks_with k key t [] apart h = (apart, tt)
lacks_with k key t (m ∷ ms) apart h = cond_both (bytes_eq key m.0) ((m.0, t) ∷ ms) (m ∷ with_member key t ms) (λ x. LacksKey k (members_of x)) (λ _. (h.0, h.1))
    (λ _. (h.0, lacks_with k key t ms apart h.1))

with_member_are : (key : List ℕ) (t : Tree) (ms : List (List ℕ × Tree)) → IsUtf8 key → IsValue t → AreMembers (members_of ms)
    → AreMembers (members_of (with_member key t ms))
with_member_are key t [] u v h = (u, tt, v, tt)
with_member_are key t (m ∷ ms) u v h =
    cond_both (bytes_eq key m.0) ((m.0, t) ∷ ms) (m ∷ with_member key t ms) (λ x. AreMembers (members_of x)) (λ _. (h.0, h.1, v, h.3))
    (λ f. let other = λ (e : m.0 ≡ key). both_ways (bytes_eq key m.0) f ((bytes_eq-Decides key m.0).1 (sym e)) in
    (h.0, lacks_with m.0 key t ms other h.1, h.2, with_member_are key t ms u v h.3))

with_member_levels : (key : List ℕ) (t : Tree) (ms : List (List ℕ × Tree))
    → members_levels (members_of (with_member key t ms)) ≤ max (members_levels (members_of ms)) (tree_levels t)
with_member_levels key t [] = omega arith
with_member_levels key t (m ∷ ms) = cond_both (bytes_eq key m.0) ((m.0, t) ∷ ms) (m ∷ with_member key t ms)
    (λ x. members_levels (members_of x) ≤ max (members_levels (members_of (m ∷ ms))) (tree_levels t)) (λ _. omega arith)
    (λ _. let h : members_levels (members_of (with_member key t ms)) ≤ max (members_levels (members_of ms)) (tree_levels t) = with_member_levels key t ms in
    omega arith)

module _ (paths : Paths) (scene : Scene) (sound : IsScene scene) where
  mutual
    content_value : (c : Content) (bytes : List ℕ) → SpellsContent paths bytes c → IsValue (filled scene c)
    content_value null_content bytes h = tt
    content_value (truth_content true) bytes h = tt
    content_value (truth_content false) bytes h = tt
    content_value (number_content s) bytes h = h.1
    content_value (text_content parts) bytes (t, s, e) =
        subst (λ ps. IsUtf8 (flat_map (part_text scene) ps)) (sym e) (text_utf8 paths scene sound t (characters_utf8 s.2))
    content_value (name_content source) bytes h = (placed_within scene sound source).0
    content_value (list_content cs) bytes h = contents_values cs h.0 h.2
    content_value (object_content es) bytes h = entries_values es h.0 h.2

    contents_values : (cs : Contents) (bytes : List ℕ) → SpellsContents paths bytes cs → AreItems (items_of (filled_all scene cs))
    contents_values no_contents bytes h = tt
    contents_values (content c cs) bytes h = (content_value c h.3.1 h.3.5, more_values cs h.1 h.4)

    more_values : (cs : Contents) (bytes : List ℕ) → SpellsMoreContents paths bytes cs → AreItems (items_of (filled_all scene cs))
    more_values no_contents bytes h = tt
    more_values (content c cs) bytes h = (content_value c h.3.1 h.3.5, more_values cs h.1 h.4)

    entries_values : (es : Entries) (bytes : List ℕ) → SpellsEntries paths bytes es → AreMembers (members_of (filled_after scene [] es))
    entries_values no_entries bytes h = tt
    entries_values (entry key c es) bytes h = more_entries_values es h.1 ((key, filled scene c) ∷ []) h.4
        (characters_utf8 h.3.6.2, tt, content_value c h.3.8.1 h.3.8.5, tt)

    more_entries_values : (es : Entries) (bytes : List ℕ) (ms : List (List ℕ × Tree)) → SpellsMoreEntries paths bytes es → AreMembers (members_of ms)
        → AreMembers (members_of (filled_after scene ms es))
    more_entries_values no_entries bytes ms h g = g
    more_entries_values (entry key c es) bytes ms h g = more_entries_values es h.1 (with_member key (filled scene c) ms) h.4
        (with_member_are key (filled scene c) ms (characters_utf8 h.3.6.2) (content_value c h.3.8.1 h.3.8.5) g)

  abbrev Most : ℕ
  Most = tree_levels scene.event

  mutual
    levels_filled : (c : Content) → tree_levels (filled scene c) ≤ content_levels c + Most
    levels_filled null_content = omega arith
    levels_filled (truth_content b) = omega arith
    levels_filled (number_content s) = omega arith
    levels_filled (text_content parts) = omega arith
    levels_filled (name_content source) = let k = (placed_within scene sound source).1 in omega (arith, k)
    levels_filled (list_content cs) = let k = levels_filled_all cs in omega (arith, k)
    levels_filled (object_content es) = let k = levels_filled_after es [] in omega (arith, k)

    levels_filled_all : (cs : Contents) → items_levels (items_of (filled_all scene cs)) ≤ contents_levels cs + Most
    levels_filled_all no_contents = omega arith
    levels_filled_all (content c cs) = let k = levels_filled c in let l = levels_filled_all cs in omega (arith, k, l)

    levels_filled_after : (es : Entries) (ms : List (List ℕ × Tree))
        → members_levels (members_of (filled_after scene ms es)) ≤ max (members_levels (members_of ms)) (entries_levels es + Most)
    levels_filled_after no_entries ms = omega arith
    levels_filled_after (entry key c es) ms =
        let k = levels_filled c in let l = levels_filled_after es (with_member key (filled scene c) ms) in let w = with_member_levels key (filled scene c) ms in
        omega (arith, k, l, w)

  pub filled_sound : (bytes : List ℕ) (c : Content) → IsTemplate paths bytes c → IsFilledValue scene (filled scene c)
  filled_sound bytes c h =
      let s = h.spelled in let k = levels_filled c in let w = h.within in
      (content_value c s.1 s.5, omega (arith, k, w))
