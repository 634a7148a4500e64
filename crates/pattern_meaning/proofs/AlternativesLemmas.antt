-- A pattern holds on a view exactly when all parts of one of its alternatives do: `alternatives_decide`; there are as many as are counted: `counted`.
use Rattle.std.proofs.Common.{◌≡◌, ◌↔◌, ℕ, suc, ◌+◌, ◌*◌, List, [], ◌∷◌, ◌++◌, length, map, ◌⊎◌, inl, inr, refl, ap, ◌∙◌, arith}
use Rattle.std.specs.List.{All, AllByRecursion}
use Rattle.json_text.specs.Tree.{Tree}
use Rattle.pattern_meaning.specs.Pattern.{Pattern, pattern, Fields, no_fields, field, Field, tests, below, Branches, no_branches, branch}
use Rattle.pattern_meaning.specs.Holds.{HoldsOnView, FieldsHold, FieldHolds, BranchesHold, SomeHolds}
use Rattle.pattern_meaning.specs.Alternatives.{Part, paired, alternatives, of_fields, of_field, of_branches, of_some, PartHolds, AlternativeHolds}
use Rattle.pattern_meaning.specs.Alternatives.{alternative_count, field_count, one_count, branch_count, sum_count}
use Rattle.pattern_meaning.specs.Meets.{SomeMetOf}
use Rattle.std.proofs.lemmas.List.{length-append, length-map}
use Rattle.std.proofs.lemmas.List.Elements.{recursion_from_All, All-from_recursion}
use Rattle.pattern_meaning.proofs.AnyLemmas.{any_of, of_any}

-- one of some lists of parts, all of which hold
abbrev OneOf : (Part → Type 0) → List (List Part) → Type 0
OneOf holds alts = SomeMetOf (AllByRecursion holds) alts

all_both : (holds : Part → Type 0) (xs ys : List Part) → AllByRecursion holds xs → AllByRecursion holds ys → AllByRecursion holds (xs ++ ys)
all_both holds [] ys h g = g
all_both holds (x ∷ xs) ys h g = (h.0, all_both holds xs ys h.1 g)

all_apart : (holds : Part → Type 0) (xs ys : List Part) → AllByRecursion holds (xs ++ ys) → AllByRecursion holds xs × AllByRecursion holds ys
all_apart holds [] ys h = (tt, h)
all_apart holds (x ∷ xs) ys h = let r = all_apart holds xs ys h.1 in ((h.0, r.0), r.1)

one_of_both : (holds : Part → Type 0) (xs ys : List (List Part)) → OneOf holds (xs ++ ys) ↔ (OneOf holds xs ⊎ OneOf holds ys)
one_of_both holds [] ys = (λ h. inr h, λ h. elim h [ inl none ↦ absurd none | inr some ↦ some ])
one_of_both holds (x ∷ xs) ys =
    let rest = one_of_both holds xs ys in (
      λ h. elim h [
        | inl here ↦ inl (inl here)
        | inr more ↦ elim (rest.0 more) [ inl left ↦ inl (inr left) | inr right ↦ inr right ]
      ],
      λ h. elim h [
        | inl left ↦ elim left [ inl here ↦ inl here | inr more ↦ inr (rest.1 (inl more)) ]
        | inr right ↦ inr (rest.1 (inr right))
      ],
    )

one_after : (holds : Part → Type 0) (x : List Part) (ys : List (List Part))
    → OneOf holds (map (λ y. x ++ y) ys) ↔ (AllByRecursion holds x × OneOf holds ys)
one_after holds x [] = (λ h. absurd h, λ h. absurd h.1)
one_after holds x (y ∷ ys) =
    let rest = one_after holds x ys in (
      λ h. elim h [
        | inl here ↦ let r = all_apart holds x y here in (r.0, inl r.1)
        | inr more ↦ let r = rest.0 more in (r.0, inr r.1)
      ],
      λ h. elim h.1 [
        | inl here ↦ inl (all_both holds x y h.0 here)
        | inr more ↦ inr (rest.1 (h.0, more))
      ],
    )

one_of_pairs : (holds : Part → Type 0) (xs ys : List (List Part)) → OneOf holds (paired xs ys) ↔ (OneOf holds xs × OneOf holds ys)
one_of_pairs holds [] ys = (λ h. absurd h, λ h. absurd h.0)
one_of_pairs holds (x ∷ xs) ys =
    let first = one_after holds x ys in
    let rest = one_of_pairs holds xs ys in
    let both = one_of_both holds (map (λ y. x ++ y) ys) (paired xs ys) in (
      λ h. elim (both.0 h) [
        | inl here ↦ let r = first.0 here in (inl r.0, r.1)
        | inr more ↦ let r = rest.0 more in (inr r.0, r.1)
      ],
      λ h. elim h.0 [
        | inl here ↦ both.1 (inl (first.1 (here, h.1)))
        | inr more ↦ both.1 (inr (rest.1 (more, h.1)))
      ],
    )

mutual
  pattern_chosen : (event v : Tree) (p : Pattern) (path : List (List ℕ)) → HoldsOnView p event path v ↔ OneOf (PartHolds event v) (alternatives p path)
  pattern_chosen event v (pattern fs bs) path =
      let f = fields_chosen event v fs path in
      let b = branches_chosen event v bs path in
      let pairs = one_of_pairs (PartHolds event v) (of_fields fs path) (of_branches bs path) in
      (λ h. pairs.1 (f.0 h.0, b.0 h.1), λ h. let r = pairs.0 h in (f.1 r.0, b.1 r.1))

  fields_chosen : (event v : Tree) (fs : Fields) (path : List (List ℕ)) → FieldsHold fs event path v ↔ OneOf (PartHolds event v) (of_fields fs path)
  fields_chosen event v no_fields path = (λ h. inl tt, λ h. tt)
  fields_chosen event v (field key f fs) path =
      let one = field_chosen event v f (path ++ key ∷ []) in
      let rest = fields_chosen event v fs path in
      let pairs = one_of_pairs (PartHolds event v) (of_field f (path ++ key ∷ [])) (of_fields fs path) in
      (λ h. pairs.1 (one.0 h.0, rest.0 h.1), λ h. let r = pairs.0 h in (one.1 r.0, rest.1 r.1))

  field_chosen : (event v : Tree) (f : Field) (path : List (List ℕ)) → FieldHolds f event path v ↔ OneOf (PartHolds event v) (of_field f path)
  field_chosen event v (tests ts) path = (λ h. inl (h, tt), λ h. elim h [ inl here ↦ here.0 | inr none ↦ absurd none ])
  field_chosen event v (below p) path = pattern_chosen event v p path

  branches_chosen : (event v : Tree) (bs : Branches) (path : List (List ℕ)) → BranchesHold bs event path v ↔ OneOf (PartHolds event v) (of_branches bs path)
  branches_chosen event v no_branches path = (λ h. inl tt, λ h. tt)
  branches_chosen event v (branch p bs) path =
      let one = pattern_chosen event v p path in
      let rest = some_chosen event v bs path in
      let both = one_of_both (PartHolds event v) (alternatives p path) (of_some bs path) in (
        λ h. elim h [ inl here ↦ both.1 (inl (one.0 here)) | inr more ↦ both.1 (inr (rest.0 more)) ],
        λ h. elim (both.0 h) [ inl here ↦ inl (one.1 here) | inr more ↦ inr (rest.1 more) ],
      )

  some_chosen : (event v : Tree) (bs : Branches) (path : List (List ℕ)) → SomeHolds bs event path v ↔ OneOf (PartHolds event v) (of_some bs path)
  some_chosen event v no_branches path = (λ h. h, λ h. h)
  some_chosen event v (branch p bs) path =
      let one = pattern_chosen event v p path in
      let rest = some_chosen event v bs path in
      let both = one_of_both (PartHolds event v) (alternatives p path) (of_some bs path) in (
        λ h. elim h [ inl here ↦ both.1 (inl (one.0 here)) | inr more ↦ both.1 (inr (rest.0 more)) ],
        λ h. elim (both.0 h) [ inl here ↦ inl (one.1 here) | inr more ↦ inr (rest.1 more) ],
      )

-- all of a list, by place and by recursion, for each list of some
some_all : {X : Type 0} (P Q : X → Type 0) (xs : List X) → ((x : X) → P x → Q x) → SomeMetOf P xs → SomeMetOf Q xs
some_all P Q [] each h = h
some_all P Q (x ∷ xs) each h = elim h [ inl here ↦ inl (each x here) | inr more ↦ inr (some_all P Q xs each more) ]

pub alternatives_decide : (p : Pattern) (event v : Tree) → HoldsOnView p event [] v ↔ AlternativeHolds p event v
alternatives_decide p event v =
    let chosen = pattern_chosen event v p [] in
    let holds = PartHolds event v in (
      λ h. of_any (All holds) (alternatives p []) (some_all (AllByRecursion holds) (All holds) (alternatives p []) (λ ps. All-from_recursion holds ps) (chosen.0 h)),
      λ h. chosen.1 (some_all (All holds) (AllByRecursion holds) (alternatives p []) (λ ps. recursion_from_All holds ps) (any_of (All holds) (alternatives p []) h)),
    )

one_more_times : (n m : ℕ) → m + n * m ≡ suc n * m
one_more_times n m = grind arith

paired_length : (xs ys : List (List Part)) → length (paired xs ys) ≡ length xs * length ys
paired_length [] ys = omega arith
paired_length (x ∷ xs) ys =
    length-append (map (λ y. x ++ y) ys) (paired xs ys)
    ∙ ap (λ n. n + length (paired xs ys)) (length-map ys (λ y. x ++ y))
    ∙ ap (λ n. length ys + n) (paired_length xs ys) ∙ one_more_times (length xs) (length ys)

mutual
  pub counted : (p : Pattern) (path : List (List ℕ)) → length (alternatives p path) ≡ alternative_count p
  counted (pattern fs bs) path =
      paired_length (of_fields fs path) (of_branches bs path)
      ∙ ap (λ n. n * length (of_branches bs path)) (fields_counted fs path) ∙ ap (λ n. field_count fs * n) (branches_counted bs path)

  fields_counted : (fs : Fields) (path : List (List ℕ)) → length (of_fields fs path) ≡ field_count fs
  fields_counted no_fields path = refl
  fields_counted (field key f fs) path =
      paired_length (of_field f (path ++ key ∷ [])) (of_fields fs path)
      ∙ ap (λ n. n * length (of_fields fs path)) (field_counted f (path ++ key ∷ [])) ∙ ap (λ n. one_count f * n) (fields_counted fs path)

  field_counted : (f : Field) (path : List (List ℕ)) → length (of_field f path) ≡ one_count f
  field_counted (tests ts) path = refl
  field_counted (below p) path = counted p path

  branches_counted : (bs : Branches) (path : List (List ℕ)) → length (of_branches bs path) ≡ branch_count bs
  branches_counted no_branches path = refl
  branches_counted (branch p bs) path =
      length-append (alternatives p path) (of_some bs path) ∙ ap (λ n. n + length (of_some bs path)) (counted p path)
      ∙ ap (λ n. alternative_count p + n) (some_counted bs path)

  some_counted : (bs : Branches) (path : List (List ℕ)) → length (of_some bs path) ≡ sum_count bs
  some_counted no_branches path = refl
  some_counted (branch p bs) path =
      length-append (alternatives p path) (of_some bs path) ∙ ap (λ n. n + length (of_some bs path)) (counted p path)
      ∙ ap (λ n. alternative_count p + n) (some_counted bs path)
