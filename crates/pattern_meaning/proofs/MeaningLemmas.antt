-- A pattern holds of an event exactly when some view meets what the walk asks, if the paths of `exists: false` are known: `holds_decides`.
-- The steps of finding these paths: `looked_at`, `left_out`, `moved_on`.
use Rattle.std.proofs.Common.{◌≡◌, ◌↔◌, ℕ, Bool, true, false, cond, ◌&&◌, List, [], ◌∷◌, ◌++◌, inl, inr, IsTrue, refl, sym, ap, ◌∙◌, subst}
use Rattle.std.specs.List.{AllByRecursion}
use Rattle.std.proofs.lemmas.Bool.{cases_Bool, and_parts, cond-true, cond-false}
use Rattle.std.proofs.lemmas.List.{append-nil}
use Rattle.json_text.specs.Tree.{Tree}
use Rattle.pattern_meaning.specs.Pattern.{Pattern, below}
use Rattle.pattern_meaning.specs.Holds.{IsAbsent, PatternHolds, HoldsOnView}
use Rattle.pattern_meaning.specs.Meets.{OnSome, PatternMet, Wants, WithKeyMet, same_path, known_in, IsCovered, pattern_paths}
use Rattle.pattern_meaning.proofs.ViewLemmas.{or_parts}
use Rattle.pattern_meaning.proofs.KnownLemmas.{or_first, or_second, known_first, known_second, known_both, same_is, of_known}
use Rattle.pattern_meaning.proofs.PathLemmas.{Decided, pattern_at}

abbrev Paths : Type 0
Paths = List (List (List ℕ))

pub holds_decides : (p : Pattern) (event : Tree) (known todo : Paths) (path : List (List ℕ)) (ws : Wants) (b : Bool)
    → AllByRecursion (IsAbsent event) known → IsCovered event p known todo → todo ≡ [] → path ≡ [] → ws ≡ ([], below p) ∷ []
    → IsTrue b ↔ OnSome event (WithKeyMet (known_in known) path [] ws) → IsTrue b ↔ PatternHolds p event
holds_decides p event known todo path ws b absent covered done root wanted h =
    let met : IsTrue b ↔ OnSome event (WithKeyMet (known_in known) [] [] (([], below p) ∷ [])) =
    subst (λ l. IsTrue b ↔ OnSome event (WithKeyMet (known_in known) [] [] l)) wanted
    (subst (λ l. IsTrue b ↔ OnSome event (WithKeyMet (known_in known) l [] ws)) root h) in
    let all : Decided (known_in known) event (pattern_paths p []) = λ q there. (
      λ is. of_known (IsAbsent event) known q absent is,
      λ gone. subst (λ ps. known_in ps q ≡ true) (ap (λ t. known ++ t) done ∙ append-nil known) (covered q there gone),
    ) in
    let each : (v : Tree) → PatternMet (known_in known) [] p v ↔ HoldsOnView p event [] v =
    λ v. pattern_at (known_in known) event [] v p all in (
      λ g. let r = met.0 g in (r.0, r.1, (each r.0).0 (r.2.0 refl)),
      λ r. met.1 (r.0, r.1, ((λ e. (each r.0).1 r.2), tt)),
    )

-- the same paths are still to be looked at
pub moved_on : (event : Tree) (p : Pattern) (known todo more : Paths) → todo ≡ more → IsCovered event p known todo → IsCovered event p known more
moved_on event p known todo more e covered = subst (IsCovered event p known) e covered

-- a path is absent, and known from now on
pub looked_at : (event : Tree) (p : Pattern) (known todo rest : Paths) (at : List (List ℕ)) → todo ≡ at ∷ rest
    → IsCovered event p known todo → IsCovered event p (at ∷ known) rest
looked_at event p known todo rest at e covered q there gone =
    elim (known_both known (at ∷ rest) q (subst (λ t. known_in (known ++ t) q ≡ true) e (covered q there gone))) [
      | inl first ↦ or_second (same_path at q) (known_in (known ++ rest) q) (known_first known rest q first)
      | inr second ↦ elim (or_parts (same_path at q) (known_in rest q) second) [
        | inl here ↦ or_first (same_path at q) (known_in (known ++ rest) q) here
        | inr more ↦ or_second (same_path at q) (known_in (known ++ rest) q) (known_second known rest q more)
      ]
    ]

-- a path is not absent, or nothing asks for it
pub left_out : (event : Tree) (p : Pattern) (known todo rest : Paths) (at : List (List ℕ)) (asked : Bool)
    → todo ≡ cond asked (at ∷ []) [] ++ rest → (asked ≡ true → ¬ (IsAbsent event at))
    → IsCovered event p known todo → IsCovered event p known rest
left_out event p known todo rest at asked e there covered q is gone =
    elim (known_both known (cond asked (at ∷ []) [] ++ rest) q (subst (λ t. known_in (known ++ t) q ≡ true) e (covered q is gone))) [
      | inl first ↦ known_first known rest q first
      | inr second ↦ elim (cases_Bool asked) [
        | inl yes_asked ↦ elim (or_parts (same_path at q) (known_in rest q)
            (subst (λ ps. known_in (ps ++ rest) q ≡ true) (cond-true asked (at ∷ []) [] yes_asked) second)) [
              | inl here ↦ absurd (there yes_asked (subst (IsAbsent event) (sym (same_is at q here)) gone))
              | inr more ↦ known_second known rest q more
            ]
        | inr none ↦ known_second known rest q (subst (λ ps. known_in (ps ++ rest) q ≡ true) (cond-false asked (at ∷ []) [] none) second)
      ]
    ]

pub asked_absent : (asked gone : Bool) → (asked && gone) ≡ true → (asked ≡ true) × (gone ≡ true)
asked_absent asked gone h = and_parts asked gone h

pub not_gone : (asked gone : Bool) → (asked && gone) ≡ false → asked ≡ true → gone ≡ false
not_gone true gone h a = h
not_gone false gone h a = cc
