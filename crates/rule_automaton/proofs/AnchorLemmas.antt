-- What is added to the anchors of a pattern: `adds_tests`, `adds_nothing`, `adds_field`, `adds_branches`, `branch_more`.
use Rattle.std.proofs.Common.{◌≡◌, ℕ, zero, suc, ◌+◌, ◌<◌, ◌≤◌, Bool, true, false, ◌⊎◌, List, [], ◌∷◌, ◌++◌, length, map, get_or, drop, inl, inr, refl, sym, ap, ◌∙◌, subst, arith}
use Rattle.std.specs.Prelude.{Any, IsTrue, not}
use Rattle.std.specs.List.{list_any}
use Rattle.std.proofs.lemmas.Bool.{false≢true}
use Rattle.std.proofs.lemmas.List.Elements.{Contains-append_left, Contains-push}
use Rattle.json_text.specs.Tree.{Tree}
use Rattle.pattern_meaning.specs.Alternatives.{Part}
use Rattle.pattern_meaning.specs.Pattern.{Test, tests, branches_of}
use Rattle.pattern_meaning.specs.PatternView.{field_of, pattern_of, fields_view}
use Rattle.pattern_meaning.specs.Meets.{is_missing}
use Rattle.pattern_meaning.specs.Holds.{TestHolds, HoldsOnView, FieldsHold, FieldHolds, BranchesHold, SomeHolds}
use Rattle.pattern_meaning.specs.declared.pattern.Field.{Field as CodeField}
use Rattle.pattern_meaning.specs.declared.pattern.Pattern.{Pattern as CodePattern, out-Pattern}
use Rattle.pattern_meaning.proofs.PatternLemmas.{pattern_is}
use Rattle.pattern_meaning.proofs.ViewLemmas.{or_none}
use Rattle.rule_automaton.specs.Anchors.{MeetsSome, Adds}

none_passes : {X : Type 0} (p : X → Bool) (xs : List X) (k : ℕ) (d : X) → list_any p xs ≡ false → k < length xs → p (get_or xs k d) ≡ false
none_passes p [] k d none within = absurd (omega (arith, within))
none_passes p (x ∷ xs) zero d none within = (or_none (p x) (list_any p xs) none).0
none_passes p (x ∷ xs) (suc k) d none within = none_passes p xs k d (or_none (p x) (list_any p xs) none).1 (omega (arith, within))

meets_more : (view : Tree) (parts : List Part) (part : Part) → MeetsSome view parts → MeetsSome view (parts ++ part ∷ [])
meets_more view parts part h = (h.0, Contains-append_left parts (part ∷ []) h.0 h.1, h.2, h.3, h.4, h.5, h.6)

tests_meet : (event view : Tree) (path : List (List ℕ)) (ts : List Test) (parts : List Part) → list_any is_missing ts ≡ false
    → Any (TestHolds event path view) ts → MeetsSome view (parts ++ (path, ts) ∷ [])
tests_meet event view path ts parts none (k, t, within, is, inl met) =
    ((path, ts), Contains-push parts (path, ts), met.0, met.1, t, (k, within, is), met.2)
tests_meet event view path ts parts none (k, t, within, is, inr gone) =
    let passed : is_missing (get_or ts k t) ≡ true = ap is_missing (is ∙ gone.0) in
    absurd (false≢true (sym (none_passes is_missing ts k t none within) ∙ passed))

-- tests without `exists: false`
pub adds_tests : (path : List (List ℕ)) (ts : List Test) (old new : List Part) → list_any is_missing ts ≡ false → new ≡ old ++ (path, ts) ∷ []
    → Adds (FieldHolds (tests ts)) path old new true
adds_tests path ts old new none is = record {
  kept = λ view h. subst (MeetsSome view) (sym is) (meets_more view old (path, ts) h);
  met = λ _ event view holds. subst (MeetsSome view) (sym is) (tests_meet event view path ts old none holds);
}

pub adds_nothing : (holds : Tree → List (List ℕ) → Tree → Type 0) (path : List (List ℕ)) (old : List Part) → Adds holds path old old false
adds_nothing holds path old = record {
  kept = λ view h. h;
  met = λ never. absurd (false≢true never);
}

pub adds_weaker : (P Q : Tree → List (List ℕ) → Tree → Type 0) (p q : List (List ℕ)) (old new : List Part) (found : Bool) → Adds P p old new found
    → (IsTrue found → (event view : Tree) → Q event q view → P event p view) → Adds Q q old new found
adds_weaker P Q p q old new found h weaker = record {
  kept = h.kept;
  met = λ sure event view holds. h.met sure event view (weaker sure event view holds);
}

pub field_at : (fs : List (List ℕ × CodeField)) (n : ℕ) (f : List ℕ × CodeField) (event view : Tree) (path : List (List ℕ)) → n < length fs
    → f ≡ get_or fs n f → FieldsHold (fields_view fs) event path view → FieldHolds (field_of f.1) event (path ++ f.0 ∷ []) view
field_at [] n f event view path within is holds = absurd (omega (arith, within))
field_at (g ∷ gs) zero f event view path within is holds =
    subst (λ (x : List ℕ × CodeField). FieldHolds (field_of x.1) event (path ++ x.0 ∷ []) view) (sym is) holds.0
field_at (g ∷ gs) (suc n) f event view path within is holds = field_at gs n f event view path (omega (arith, within)) is holds.1

-- a `$or` with branches
pub some_branch : (ps : List CodePattern) (event view : Tree) (path : List (List ℕ)) → 0 < length ps
    → BranchesHold (branches_of (map pattern_of ps)) event path view → SomeHolds (branches_of (map pattern_of ps)) event path view
some_branch [] event view path within holds = absurd (omega (arith, within))
some_branch (p ∷ ps) event view path within holds = holds

pub next_branch : (ps : List CodePattern) (i : ℕ) (p : CodePattern) (event view : Tree) (path : List (List ℕ)) → i < length ps → p ≡ get_or ps i p
    → SomeHolds (branches_of (map pattern_of (drop i ps))) event path view
    → HoldsOnView (pattern_of p) event path view ⊎ SomeHolds (branches_of (map pattern_of (drop (i + 1) ps))) event path view
next_branch [] i p event view path within is holds = absurd (omega (arith, within))
next_branch (q ∷ ps) zero p event view path within is holds =
    subst (λ (x : CodePattern). HoldsOnView (pattern_of x) event path view ⊎ SomeHolds (branches_of (map pattern_of ps)) event path view) (sym is) holds
next_branch (q ∷ ps) (suc i) p event view path within is holds =
    let e : suc (i + 1) ≡ suc i + 1 = omega arith in
    subst (λ n. HoldsOnView (pattern_of p) event path view ⊎ SomeHolds (branches_of (map pattern_of (drop n (q ∷ ps)))) event path view) e
    (next_branch ps i p event view path (omega (arith, within)) is holds)

-- Of the branches so far each has its anchors: if one of all holds, an anchor is met, or one of those that are left holds.
pub record AreDone (ps : List CodePattern) (i : ℕ) (path : List (List ℕ)) (old new : List Part) : Type 0 where
  pub kept : (view : Tree) → MeetsSome view old → MeetsSome view new
  pub done : (event view : Tree) → SomeHolds (branches_of (map pattern_of ps)) event path view
      → MeetsSome view new ⊎ SomeHolds (branches_of (map pattern_of (drop i ps))) event path view

pub branches_start : (ps : List CodePattern) (path : List (List ℕ)) (old : List Part) → AreDone ps 0 path old old
branches_start ps path old = record {
  kept = λ view h. h;
  done = λ event view holds. inr holds;
}

pub branches_step : (ps : List CodePattern) (i : ℕ) (p : CodePattern) (path : List (List ℕ)) (old new newer : List Part) → AreDone ps i path old new
    → i < length ps → p ≡ get_or ps i p → Adds (HoldsOnView (pattern_of p)) path new newer true → AreDone ps (i + 1) path old newer
branches_step ps i p path old new newer before within is adds = record {
  kept = λ view h. adds.kept view (before.kept view h);
  done = λ event view holds. elim (before.done event view holds) [
    | inl met ↦ inl (adds.kept view met)
    | inr left ↦ elim (next_branch ps i p event view path within is left) [
      | inl here ↦ inl (adds.met refl event view here)
      | inr more ↦ inr more
    ]
  ];
}

pub branches_stop : (ps : List CodePattern) (i : ℕ) (holds : Tree → List (List ℕ) → Tree → Type 0) (path : List (List ℕ)) (old new newer : List Part)
    → AreDone ps i path old new → Adds holds path new newer false → Adds (BranchesHold (branches_of (map pattern_of ps))) path old newer false
branches_stop ps i holds path old new newer before adds = record {
  kept = λ view h. adds.kept view (before.kept view h);
  met = λ never. absurd (false≢true never);
}

none_left : (ps : List CodePattern) (i : ℕ) (event view : Tree) (path : List (List ℕ)) → length ps ≤ i
    → SomeHolds (branches_of (map pattern_of (drop i ps))) event path view → ⊥
none_left [] zero event view path past h = h
none_left [] (suc i) event view path past h = h
none_left (p ∷ ps) zero event view path past h = omega (arith, past)
none_left (p ∷ ps) (suc i) event view path past h = none_left ps i event view path (omega (arith, past)) h

pub branches_end : (ps : List CodePattern) (i : ℕ) (path : List (List ℕ)) (old new : List Part) (found : Bool) → AreDone ps i path old new → length ps ≤ i
    → (IsTrue found → 0 < length ps) → Adds (BranchesHold (branches_of (map pattern_of ps))) path old new found
branches_end ps i path old new found before past some = record {
  kept = before.kept;
  met = λ sure event view holds. elim (before.done event view (some_branch ps event view path (some sure) holds)) [
    | inl met ↦ met
    | inr left ↦ absurd (none_left ps i event view path past left)
  ];
}

pub branches_hold : (p : CodePattern) (bs : List CodePattern) (event view : Tree) (path : List (List ℕ)) → bs ≡ (out-Pattern p).branches.items
    → HoldsOnView (pattern_of p) event path view → BranchesHold (branches_of (map pattern_of bs)) event path view
branches_hold p bs event view path is holds =
    subst (λ l. BranchesHold (branches_of (map pattern_of l)) event path view) (sym is)
    (subst (λ q. HoldsOnView q event path view) (pattern_is p) holds).1

-- a pattern by one of its fields
pub adds_field : (p : CodePattern) (fs : List (List ℕ × CodeField)) (n : ℕ) (f : List ℕ × CodeField) (path below : List (List ℕ)) (old new : List Part) (found : Bool)
    → fs ≡ (out-Pattern p).fields.items → n < length fs → f ≡ get_or fs n f → below ≡ path ++ f.0 ∷ []
    → Adds (FieldHolds (field_of f.1)) below old new found → Adds (HoldsOnView (pattern_of p)) path old new found
adds_field p fs n f path below old new found is within at under adds =
    adds_weaker (FieldHolds (field_of f.1)) (HoldsOnView (pattern_of p)) below path old new found adds (λ _ event view holds.
    subst (λ l. FieldHolds (field_of f.1) event l view) (sym under)
    (field_at fs n f event view path within at
    (subst (λ l. FieldsHold (fields_view l) event path view) (sym is) (subst (λ q. HoldsOnView q event path view) (pattern_is p) holds).0)))

-- a pattern by its `$or`
pub adds_or : (p : CodePattern) (bs : List CodePattern) (path : List (List ℕ)) (old new : List Part) (found : Bool) → bs ≡ (out-Pattern p).branches.items
    → Adds (BranchesHold (branches_of (map pattern_of bs))) path old new found → Adds (HoldsOnView (pattern_of p)) path old new found
adds_or p bs path old new found is adds =
    adds_weaker (BranchesHold (branches_of (map pattern_of bs))) (HoldsOnView (pattern_of p)) path path old new found adds
    (λ _ event view holds. branches_hold p bs event view path is holds)

pub not_true : (b : Bool) → not b ≡ true → b ≡ false
not_true true h = absurd (false≢true h)
not_true false h = refl
