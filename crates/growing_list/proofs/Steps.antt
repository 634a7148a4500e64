-- The ghost side of each step. Assumes `Logic`.
use Rattle.std.proofs.Common.{◌≡◌, ℕ, suc, ◌≤◌, Bool, true, false, List, [], ◌∷◌, ◌++◌, map, length, refl, ap, arith, inl, inr}
use mathlib.Core.List.{IsPrefix}
use seplogic.Ra.Ura.{Ura}
use base.Fraction.{full_share}
use base.Stored.{Gv, Coded}
use base.Logic.{SProp, ent, sep, wand, ex, guard, emp, via, apply∗}
use base.Fml.{Lft, Fml, fbor}
use base.Growing.{Least, latest, at_least, prefix_refl}
use base.Shift.{Keyless}
use types.Logic.{Logic, sem, lfts}
use types.Owned.{basic}
use types.Growing.{latest_new, latest_grows, latest_shows, latest_bounds, at_least_dup, at_least_join}
use types.Kit.{‵, raw, ◌⊛◌, some, given, ◌$◌, ◌∵◌, !, qed, by, move, keep, drop, split, pick, learn, check, done, use1, use2, later, updating, await, now}
use denote.Sharing.{said}
use denote.Struct.Lending.{Lends}
use Rattle.logbook.specs.Kept.{logs, reached}
use Rattle.logbook.proofs.Roster.{prefix_out, prefix_in}
use Rattle.growing_list.specs.Owned.{list_owns}

-- of two beginnings of one list the shorter begins the longer
pub prefix_shorter : {A : Type 0} (xs ys zs : List A) → IsPrefix xs zs → IsPrefix ys zs → length xs ≤ length ys → IsPrefix xs ys
prefix_shorter [] ys zs p q le = (ys, refl)
prefix_shorter (x ∷ xs) [] zs p q le = absurd (omega arith)
prefix_shorter (x ∷ xs) (y ∷ ys) [] p q le = absurd (cc (p.1))
prefix_shorter (x ∷ xs) (y ∷ ys) (z ∷ zs) p q le =
    let heads : x ≡ y = cc (p.1, q.1) in
    let rest = prefix_shorter xs ys zs (p.0, cc (p.1)) (q.0, cc (q.1)) (omega arith) in
    (rest.0, cc (heads, rest.1))

same_length : {A B : Type 0} (f : A → B) (xs : List A) → length (map f xs) ≡ length xs
same_length f [] = refl
same_length f (x ∷ xs) = ap suc (same_length f xs)

-- whether xs has no more items than ys
abbrev pub no_longer : {A : Type 0} → List A → List A → Bool
no_longer [] ys = true
no_longer (x ∷ xs) [] = false
no_longer (x ∷ xs) (y ∷ ys) = no_longer xs ys

shorter : {A : Type 0} (xs ys : List A) → no_longer xs ys ≡ true → length xs ≤ length ys
shorter [] ys e = omega arith
shorter (x ∷ xs) [] e = absurd cc
shorter (x ∷ xs) (y ∷ ys) e = omega (arith, shorter xs ys e)

not_shorter : {A : Type 0} (xs ys : List A) → no_longer xs ys ≡ false → length ys ≤ length xs
not_shorter [] ys e = absurd cc
not_shorter (x ∷ xs) [] e = omega arith
not_shorter (x ∷ xs) (y ∷ ys) e = omega (arith, not_shorter xs ys e)

abbrev pub pick_by : {A : Type 0} → Bool → List A → List A → List A
pick_by true xs ys = ys
pick_by false xs ys = xs

abbrev pub longer : {A : Type 0} → List A → List A → List A
longer xs ys = pick_by (no_longer xs ys) xs ys

-- it is one of the two
pub one_of : {A : Type 0} (t : Bool) (xs ys : List A) → mathlib.Core.Logic.◌⊎◌ (pick_by t xs ys ≡ xs) (pick_by t xs ys ≡ ys)
one_of true xs ys = inr refl
one_of false xs ys = inl refl

pub list_keyless : {E : Type 0} (c : E → Gv) (η : ℕ) (log : List E) → Keyless (list_owns c η log)
unfolding list_owns latest
list_keyless c η log = tt

pub reached_keyless : {E : Type 0} (c : E → Gv) (η : ℕ) (log : List E) → Keyless (reached c η log)
unfolding at_least
reached_keyless c η log = tt

module _ {M : Type 1} {𝓤 : Ura M} (𝓛 : Logic 𝓤) where
  open 𝓛 use {H}

  abbrev Pr : Type 2
  Pr = SProp 𝓤

  abbrev ◌⊢◌ : Pr → Pr → Type 1
  P ⊢ Q = ent 𝓤 P Q

  abbrev ◌∗◌ : Pr → Pr → Pr
  P ∗ Q = sep 𝓤 P Q

  abbrev ⟦◌⟧ : Fml → Pr
  ⟦ P ⟧ = sem 𝓛 P

  infix 26 ◌⊢◌
  infixr 35 ◌∗◌
  module _ {E : Type 0} (cv : Coded E) where
    pub begins : emp 𝓤 ⊢ H.⇛ (ex 𝓤 (λ (η : ℕ). ⟦ list_owns cv.code η [] ⟧))
    unfolding list_owns
    begins = via 𝓤 _ (latest_new logs 𝓛 []) (basic 𝓛 _)

    module _ (η : ℕ) where
      abbrev top : List E → Fml
      top = list_owns cv.code η

      abbrev had : List E → Fml
      had = reached cv.code η

      pub grows : (log : List E) (e : E) → ⟦ top log ⟧ ⊢ H.⇛ ⟦ top (log ++ e ∷ []) ⟧
      unfolding list_owns
      grows log e = via 𝓤 _ (latest_grows logs 𝓛 η (map cv.code log) (map cv.code (log ++ e ∷ [])) (prefix_in cv log (e ∷ []))) (basic 𝓛 _)

      pub shows : (log : List E) → ⟦ top log ⟧ ⊢ ⟦ top log ⟧ ∗ ⟦ had log ⟧
      unfolding list_owns
      shows log = latest_shows logs 𝓛 full_share η (map cv.code log) (map cv.code log) (logs.same (map cv.code log))

      pub bounds : (log l : List E) → ⟦ top log ⟧ ∗ ⟦ had l ⟧ ⊢ guard 𝓤 (IsPrefix l log) (⟦ top log ⟧ ∗ ⟦ had l ⟧)
      unfolding list_owns
      bounds log l = qed 𝓛 (‵ (top log) ∷ ‵ (had l) ∷ []) ∵ use2 𝓛 (given (IsPrefix (map cv.code l) (map cv.code log)) (‵ (top log) ⊛ ‵ (had l))) (latest_bounds logs 𝓛 full_share η (map cv.code log) (map cv.code l)) $
          learn ! (λ p. check ! (prefix_out cv l log p) $ done !)

      pub had_twice : (log : List E) → ⟦ had log ⟧ ⊢ ⟦ had log ⟧ ∗ ⟦ had log ⟧
      had_twice log = at_least_dup logs 𝓛 η (map cv.code log)

      abbrev pub Joined : List E → List E → List E → Pr
      Joined a b c = guard 𝓤 (IsPrefix a c × IsPrefix b c) ⟦ had c ⟧

      least : (a b : List E) → ⟦ had a ⟧ ∗ ⟦ had b ⟧ ⊢ ex 𝓤 (λ (c : List Gv). guard 𝓤 (Least IsPrefix (map cv.code a) (map cv.code b) c) (sem 𝓛 (at_least logs η c)))
      least a b = at_least_join logs 𝓛 η (map cv.code a) (map cv.code b)

      abbrev Met : List E → List E → types.Kit.Item 𝓤
      Met a b = some (λ (c : List Gv). given (Least IsPrefix (map cv.code a) (map cv.code b) c) (‵ (at_least logs η c)))

      joins_by : (a b : List E) (t : Bool) → no_longer a b ≡ t → ⟦ had a ⟧ ∗ ⟦ had b ⟧ ⊢ Joined a b (pick_by t a b)
      joins_by a b true is = qed 𝓛 (‵ (had a) ∷ ‵ (had b) ∷ []) ∵ move ! (1 ∷ []) $ use1 𝓛 (‵ (had b) ⊛ ‵ (had b)) (had_twice b) $ split ! $ move ! (2 ∷ 0 ∷ []) $
          use2 𝓛 (Met a b) (least a b) $ pick ! (λ c. learn ! (λ l. drop ! $
          let less : length (map cv.code a) ≤ length (map cv.code b) = omega (arith, shorter a b is, same_length cv.code a, same_length cv.code b) in
          check ! (prefix_out cv a b (prefix_shorter (map cv.code a) (map cv.code b) c l.0 l.1 less), prefix_refl b) $ done !))
      joins_by a b false is = qed 𝓛 (‵ (had a) ∷ ‵ (had b) ∷ []) ∵ use1 𝓛 (‵ (had a) ⊛ ‵ (had a)) (had_twice a) $ split ! $ move ! (0 ∷ 2 ∷ []) $
          use2 𝓛 (Met a b) (least a b) $ pick ! (λ c. learn ! (λ l. drop ! $
          let less : length (map cv.code b) ≤ length (map cv.code a) = omega (arith, not_shorter a b is, same_length cv.code a, same_length cv.code b) in
          check ! (prefix_refl a, prefix_out cv b a (prefix_shorter (map cv.code b) (map cv.code a) c l.1 l.0 less)) $ done !))

      pub joins : (a b : List E) → ⟦ had a ⟧ ∗ ⟦ had b ⟧ ⊢ Joined a b (longer a b)
      joins a b = joins_by a b (no_longer a b) refl

-- a borrow of P lends what P shows for good
pub lends_shown : {M : Type 1} {𝓤 : Ura M} (𝓛 : Logic 𝓤) (P Q : Fml) → ent 𝓤 (sem 𝓛 P) (sep 𝓤 (sem 𝓛 P) (sem 𝓛 Q)) → (l : Lft) → Lends 𝓛 P (said Q) l
lends_shown {𝓤 = 𝓤} 𝓛 P Q shown l κ ts inc sp = let Back = 𝓛.H.⇛ (sep 𝓤 (𝓛.A.bor κ P) (lfts 𝓛 ts)) in
    qed 𝓛 (‵ (fbor κ P) ∷ raw (lfts 𝓛 ts) ∷ []) ∵ updating ! $ use2 𝓛 (later (‵ P ⊛ raw (wand 𝓤 (sem 𝓛 P) Back))) (𝓛.more.bor_acc_by κ ts P sp) $ await ! tt $ split ! $ use1 𝓛 (‵ P ⊛ ‵ Q) shown $ split ! $ move ! (0 ∷ 2 ∷ []) $
    use2 𝓛 (later (‵ (fbor κ P) ⊛ raw (lfts 𝓛 ts))) (apply∗ 𝓤 (sem 𝓛 P) Back) $ await ! tt $ split ! $ drop ! $ move ! (1 ∷ 0 ∷ []) $ now ! $ done !
