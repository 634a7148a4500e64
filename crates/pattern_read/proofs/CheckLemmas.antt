-- The first check that does not pass: of two lists `first_front`, `first_behind`; below a key `first_under`; and what is reported of them.
use Rattle.std.proofs.Common.{◌≡◌, ℕ, List, [], ◌∷◌, ◌++◌, inl, inr, Option, Some, None, flat_map, refl, ap, ◌∙◌, subst}
use Rattle.pattern_read.specs.Check.{Condition, Checks, Passes, cause_of, AllPass, IsFirst, here, under}
use Rattle.pattern_read.specs.Refusal.{before_dot}
use Rattle.pattern_read.specs.Reading.{IsReported}
use Rattle.pattern_read.specs.Test.{AreEach}
use Rattle.pattern_read.specs.declared.fault.Why.{Why}
use Rattle.pattern_read.specs.declared.fault.Fault.{Fault}
use Rattle.pattern_read.specs.declared.fault.Fault.TheVariants as fault

first_front : (a b : Checks) (keys : List (List ℕ)) (why : Why) → IsFirst a keys why → IsFirst (a ++ b) keys why
first_front [] b keys why h = absurd h
first_front (c ∷ a) b keys why h = elim h [
  | inl now ↦ inl now
  | inr later ↦ inr (later.0, first_front a b keys why later.1)
]

first_behind : (a b : Checks) (keys : List (List ℕ)) (why : Why) → AllPass a → IsFirst b keys why → IsFirst (a ++ b) keys why
first_behind [] b keys why all h = h
first_behind (c ∷ a) b keys why all h = inr (all.0, first_behind a b keys why all.1 h)

pub first_under : (key : List ℕ) (a : Checks) (keys : List (List ℕ)) (why : Why) → IsFirst a keys why → IsFirst (under key a) (key ∷ keys) why
first_under key [] keys why h = absurd h
first_under key (c ∷ a) keys why h = elim h [
  | inl now ↦ inl (now.0, ap (λ k. key ∷ k) now.1, now.2)
  | inr later ↦ inr (later.0, first_under key a keys why later.1)
]

pub pass_both : (a b : Checks) → AllPass a → AllPass b → AllPass (a ++ b)
pass_both [] b h g = g
pass_both (c ∷ a) b h g = (h.0, pass_both a b h.1 g)

pub pass_front : (a b : Checks) → AllPass (a ++ b) → AllPass a
pass_front [] b h = tt
pass_front (c ∷ a) b h = (h.0, pass_front a b h.1)

pub pass_behind : (a b : Checks) → AllPass (a ++ b) → AllPass b
pass_behind [] b h = h
pass_behind (c ∷ a) b h = pass_behind a b h.1

pub pass_under : (key : List ℕ) (a : Checks) → AllPass a → AllPass (under key a)
pass_under key [] h = tt
pass_under key (c ∷ a) h = (h.0, pass_under key a h.1)

pub pass_off : (key : List ℕ) (a : Checks) → AllPass (under key a) → AllPass a
pass_off key [] h = tt
pass_off key (c ∷ a) h = (h.0, pass_off key a h.1)

-- where each passes, none is the first that does not
pub none_first : (a : Checks) (keys : List (List ℕ)) (why : Why) → AllPass a → IsFirst a keys why → ⊥
none_first [] keys why all h = h
none_first (c ∷ a) keys why all h = elim h [
  | inl now ↦ now.0 all.0
  | inr later ↦ none_first a keys why all.1 later.1
]

pub reported_front : (a b : Checks) (e : Fault) → IsReported a e → IsReported (a ++ b) e
reported_front a b (fault.Refused why path) h = (h.0, first_front a b h.0 why h.1, h.2)
reported_front a b fault.NoMemory h = tt

pub reported_behind : (a b : Checks) (e : Fault) → AllPass a → IsReported b e → IsReported (a ++ b) e
reported_behind a b (fault.Refused why path) all h = (h.0, first_behind a b h.0 why all h.1, h.2)
reported_behind a b fault.NoMemory all h = tt

pub reported_here : (c : Condition) → ¬ Passes c → IsReported (here c) (fault.Refused (cause_of c) None)
reported_here c failing = ([], inl (failing, refl, refl), refl)

-- one key more in front
pub under_reported : (key : List ℕ) (checks : Checks) (why : Why) (path : Option (List ℕ)) (whole : List ℕ) (self : Fault)
    → self ≡ fault.Refused why path → whole ≡ before_dot key path → IsReported checks self → IsReported (under key checks) (fault.Refused why (Some whole))
under_reported key checks why path whole self is joins h =
    let g = subst (IsReported checks) is h in
    (key ∷ g.0, first_under key checks g.0 why g.1, ap Some (joins ∙ ap (before_dot key) g.2))

-- each part passes
pub each_passes : {X Y : Type 0} (Is : X → Y → Type 0) (checks : X → Checks) → ((x : X) (y : Y) → Is x y → AllPass (checks x))
    → (xs : List X) (ys : List Y) → AreEach Is xs ys → AllPass (flat_map checks xs)
each_passes Is checks one [] ys h = tt
each_passes Is checks one (x ∷ xs) ys h = pass_both (checks x) (flat_map checks xs) (one x h.0 h.3) (each_passes Is checks one xs h.1 h.4)
