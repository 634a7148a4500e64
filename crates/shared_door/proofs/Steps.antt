-- Each step on the table of tickets keeps its rule: `opens`, `adds`, `cuts`, `puts`, `ends`.
use Rattle.std.proofs.Common.{◌≡◌, ◌≢◌, ◌⊎◌, ℕ, zero, suc, ◌-◌, ◌<◌, ◌≤◌, List, [], ◌∷◌, ◌++◌, length, get_or, set, Some, sym, refl, ap, ◌∙◌, subst, ⊎_elim, inl, inr, arith, length-append, All}
use Rattle.std.specs.Prelude.{slice_get}
use Rattle.std.specs.List.{AllPairs}
use Rattle.std.proofs.lemmas.List.{get_or_append_left}
use Rattle.std.proofs.Math.Seq.{get_or-append_seam}
use Rattle.std.proofs.lemmas.List.Elements.{All-nil, All-cons, All-append, All-weaker}
use Rattle.std.proofs.lemmas.Option.{slice_get_within}
use mathlib.Core.Option.{none, some, some-injective, some-ne-none}
use native.Mathlib.Decide.{dec_lt}
use mathlib.Core.Logic.{dite}
use lib.ListN.{get_elem?}
use Rattle.atomic_table.specs.Table.{State, Me, step, keeps, Allows, Splits, Joins}
use Rattle.atomic_table.proofs.Lists.{at_set, set_else}
use Rattle.shared_door.specs.declared.known.Known.{Known}
use Rattle.shared_door.specs.Tickets.{IsPlace, HasOtherNumber, keeper, holder, ticket, Apart, Fits, AreTickets, Holds, without_ticket, ticket_of, with_ticket, numbered, ended}

module _ {A : Type 0} where
  at_end : (l : List A) (a b : A) (j : ℕ) → get_elem? (l ++ a ∷ []) j ≡ some b → (get_elem? l j ≡ some b) ⊎ ((j ≡ length l) × (a ≡ b))
  at_end [] a b zero e = inr (refl, some-injective a b e)
  at_end [] a b (suc j) e = absurd (some-ne-none b (sym e))
  at_end (x ∷ xs) a b zero e = inl e
  at_end (x ∷ xs) a b (suc j) e = ⊎_elim (λ t. inl t) (λ t. inr (ap suc t.0, t.1)) (at_end xs a b j e)

  set_swap : (l : List A) (i j : ℕ) (a b : A) → i ≢ j → set (set l i a) j b ≡ set (set l j b) i a
  set_swap [] i j a b ne = refl
  set_swap (x ∷ xs) zero zero a b ne = absurd (ne refl)
  set_swap (x ∷ xs) zero (suc j) a b ne = refl
  set_swap (x ∷ xs) (suc i) zero a b ne = refl
  set_swap (x ∷ xs) (suc i) (suc j) a b ne = ap (λ (l : List A). x ∷ l) (set_swap xs i j a b (λ e. ne (ap suc e)))

  each_set : (K : A → Type 0) (vs : List A) (id : ℕ) (w : A) → K w → ((j : ℕ) (u : A) → j ≢ id → get_elem? vs j ≡ some u → K u)
      → (j : ℕ) (u : A) → get_elem? (set vs id w) j ≡ some u → K u
  each_set K vs id w mine rest j u e = ⊎_elim (λ (t : (j ≡ id) × (w ≡ u)). subst K t.1 mine) (λ (t : (j ≢ id) × (get_elem? vs j ≡ some u)). rest j u t.0 t.1) (at_set vs id j w u e)

  each_end : (K : A → Type 0) (vs : List A) (w : A) → K w → ((j : ℕ) (u : A) → get_elem? vs j ≡ some u → K u)
      → (j : ℕ) (u : A) → get_elem? (vs ++ w ∷ []) j ≡ some u → K u
  each_end K vs w mine rest j u e = ⊎_elim (λ (t : get_elem? vs j ≡ some u). rest j u t) (λ (t : (j ≡ length vs) × (w ≡ u)). subst K t.1 mine) (at_end vs w u j e)

module _ {A : Type 0} (R : A → A → Type 0) where
  abbrev AllApart : List A → Type 0
  AllApart vs = (i j : ℕ) (v w : A) → i ≢ j → get_elem? vs i ≡ some v → get_elem? vs j ≡ some w → R v w

  abbrev Both : A → A → Type 0
  Both w u = R w u × R u w

  apart_set : (vs : List A) (id : ℕ) (w : A) → AllApart vs → ((j : ℕ) (u : A) → j ≢ id → get_elem? vs j ≡ some u → Both w u) → AllApart (set vs id w)
  apart_set vs id w old new i j a b ne ei ej = ⊎_elim
      (λ (t : (i ≡ id) × (w ≡ a)). ⊎_elim
      (λ (r : (j ≡ id) × (w ≡ b)). absurd (ne (t.0 ∙ sym r.0)))
      (λ (r : (j ≢ id) × (get_elem? vs j ≡ some b)). subst (λ (z : A). R z b) t.1 (new j b r.0 r.1).0)
      (at_set vs id j w b ej))
      (λ (t : (i ≢ id) × (get_elem? vs i ≡ some a)). ⊎_elim
      (λ (r : (j ≡ id) × (w ≡ b)). subst (λ (z : A). R a z) r.1 (new i a t.0 t.1).1)
      (λ (r : (j ≢ id) × (get_elem? vs j ≡ some b)). old i j a b ne t.1 r.1)
      (at_set vs id j w b ej))
      (at_set vs id i w a ei)

  apart_end : (vs : List A) (w : A) → AllApart vs → ((j : ℕ) (u : A) → get_elem? vs j ≡ some u → Both w u) → AllApart (vs ++ w ∷ [])
  apart_end vs w old new i j a b ne ei ej = ⊎_elim
      (λ (t : get_elem? vs i ≡ some a). ⊎_elim
      (λ (r : get_elem? vs j ≡ some b). old i j a b ne t r)
      (λ (r : (j ≡ length vs) × (w ≡ b)). subst (λ (z : A). R a z) r.1 (new i a t).1)
      (at_end vs w b j ej))
      (λ (t : (i ≡ length vs) × (w ≡ a)). ⊎_elim
      (λ (r : get_elem? vs j ≡ some b). subst (λ (z : A). R z b) t.1 (new j b r).0)
      (λ (r : (j ≡ length vs) × (w ≡ b)). absurd (ne (t.0 ∙ sym r.0)))
      (at_end vs w b j ej))
      (at_end vs w a i ei)

module _ {C : Type 0} where
  get_front : (xs ys : List C) (k : ℕ) (c : C) → slice_get xs k ≡ Some c → slice_get (xs ++ ys) k ≡ Some c
  get_front [] ys k c e = absurd (cc)
  get_front (x ∷ xs) ys zero c e = e
  get_front (x ∷ xs) ys (suc k) c e = get_front xs ys k c e

  get_last : (xs : List C) (c : C) → slice_get (xs ++ c ∷ []) (length xs) ≡ Some c
  get_last [] c = refl
  get_last (x ∷ xs) c = get_last xs c

  pub place_front : (given more : List C) (t : ℕ × C) → IsPlace given t → IsPlace (given ++ more) t
  place_front given more t (pos, at) = (pos, get_front given more (t.0 - 1) t.1 at)

  place_last : (given : List C) (c : C) → IsPlace (given ++ c ∷ []) (suc (length given), c)
  place_last given c = let e : suc (length given) - 1 ≡ length given = omega arith in (omega arith, rw e (get_last given c))

  place_bound : (given : List C) (t : ℕ × C) → IsPlace given t → t.0 ≤ length given
  place_bound given t (pos, at) = let h = slice_get_within given (t.0 - 1) t.1 at in omega arith

  abbrev Below : List C → ℕ × C → Type 0
  Below given t = t.0 ≤ length given

  pub opens : AreTickets (keeper {C = C} [] [] ∷ [])
  opens = record {
    given = [];
    back = [];
    each = each_end (Fits [] []) [] (keeper [] [])
        record { keeps = λ _. (refl, refl); place = λ l. absurd (omega arith); out = λ l. absurd (omega arith) }
        (λ j u there. absurd (some-ne-none u (sym there)));
    apart = apart_end Apart [] (keeper [] []) (λ i j a b ne there. absurd (some-ne-none a (sym there))) (λ j u there. absurd (some-ne-none u (sym there)));
    bound = All-nil (Below []);
  }

  -- what the rule says, in the keeper's words
  known : (views : List (Known C)) (k : AreTickets views) (id : ℕ) (v : Known C) → get_elem? views id ≡ some v → 0 < v.keeps
      → ((j : ℕ) (u : Known C) → get_elem? views j ≡ some u → Fits v.given v.back u) × All (Below v.given) v.back
  known views k id v at l = let (p, q) = (k.each id v at).keeps l in
      subst (λ (x : List C × List (ℕ × C)). ((j : ℕ) (u : Known C) → get_elem? views j ≡ some u → Fits x.0 x.1 u) × All (Below x.0) x.1)
      (λ i. (sym p i, sym q i)) (k.each, k.bound)

  -- The next number goes to a thing
  numbers : (views : List (Known C)) (k : AreTickets views) (id : ℕ) (g : List C) (b : List (ℕ × C)) (c : C) → get_elem? views id ≡ some (keeper g b)
      → AreTickets (set views id (holder (g ++ c ∷ []) b (suc (length g)) (c ∷ [])))
  numbers views k id g b c at = let w = holder (g ++ c ∷ []) b (suc (length g)) (c ∷ []) in
      let (each, bound) = known views k id (keeper g b) at (omega arith) in record {
        given = g ++ c ∷ [];
        back = b;
        each = each_set (Fits (g ++ c ∷ []) b) views id w
            record {
              keeps = λ _. (refl, refl);
              place = λ _. (c, refl, place_last g c);
              out = λ _. All-weaker (Below g) (λ t. t.0 ≢ suc (length g)) (λ t h e. absurd (omega arith)) b bound;
            }
            (λ j u ne there. let f = each j u there in let a = k.apart j id u (keeper g b) ne there at in
            record {
              keeps = λ l. let z = a.keepers l in absurd (omega arith);
              place = λ l. let (x, is, p) = f.place l in (x, is, place_front g (c ∷ []) (u.number, x) p);
              out = f.out;
            });
        apart = apart_set Apart views id w k.apart (λ j u ne there. let f = each j u there in
            let one = k.apart id j (keeper g b) u (λ e. ne (sym e)) at there in let other = k.apart j id u (keeper g b) ne there at in (
              record {
                keepers = one.keepers;
                numbers = λ _ e. let (x, is, p) = f.place (omega arith) in let h = place_bound g (u.number, x) p in absurd (omega arith);
              },
              record {
                keepers = λ l. let z = other.keepers l in absurd (omega arith);
                numbers = λ l e. let (x, is, p) = f.place l in let h = place_bound g (u.number, x) p in absurd (omega arith);
              },
            ));
        bound = All-weaker (Below g) (Below (g ++ c ∷ [])) (λ t h. let e = length-append g (c ∷ []) in omega arith) b bound;
      }

  nothing_apart : (u : Known C) → Both Apart (ticket 0 []) u
  nothing_apart u = (record { keepers = λ l. absurd (omega arith); numbers = λ l. absurd (omega arith) }, record { keepers = λ _. refl; numbers = λ l e. absurd (omega arith) })

  -- A ticket that is back ends
  stops : (views : List (Known C)) (k : AreTickets views) (id : ℕ) (v : Known C) (c : C) → get_elem? views id ≡ some v → 0 < v.keeps → 0 < v.number
      → IsPlace v.given (v.number, c)
      → AreTickets (set views id (keeper v.given (v.back ++ (v.number, c) ∷ [])))
  stops views k id v c at keeping has place = let w = keeper v.given (v.back ++ (v.number, c) ∷ []) in
      let (each, bound) = known views k id v at keeping in record {
        given = v.given;
        back = v.back ++ (v.number, c) ∷ [];
        each = each_set (Fits v.given (v.back ++ (v.number, c) ∷ [])) views id w
            record { keeps = λ _. (refl, refl); place = λ l. absurd (omega arith); out = λ l. absurd (omega arith) }
            (λ j u ne there. let f = each j u there in let a = k.apart j id u v ne there at in
            record {
              keeps = λ l. let z = a.keepers l in absurd (omega arith);
              place = f.place;
              out = λ l. All-append (λ t. t.0 ≢ u.number) v.back ((v.number, c) ∷ []) (f.out l)
                  (All-cons (λ t. t.0 ≢ u.number) (v.number, c) [] ((k.apart id j v u (λ e. ne (sym e)) at there).numbers has) (All-nil (λ t. t.0 ≢ u.number)));
            });
        apart = apart_set Apart views id w k.apart (λ j u ne there. let one = k.apart id j v u (λ e. ne (sym e)) at there in
            let other = k.apart j id u v ne there at in (
              record { keepers = λ _. one.keepers keeping; numbers = λ l. absurd (omega arith) },
              record { keepers = λ l. let z = other.keepers l in absurd (omega arith); numbers = λ l e. absurd (omega arith) },
            ));
        bound = All-append (Below v.given) v.back ((v.number, c) ∷ []) bound
            (All-cons (Below v.given) (v.number, c) [] (place_bound v.given (v.number, c) place) (All-nil (Below v.given)));
      }

module _ {S C : Type 0} where
  abbrev Rule : State S (Known C) → Type 0
  Rule = Holds

  pub adds : (value : S → C) (slots id : ℕ) (me : Me S (Known C)) (x : S) (f : ℕ → ℕ) → me ≡ (keeper me.0.given me.0.back, [])
      → Allows Rule slots id me 0 f (numbered value (step slots 0 0 0 (some x)) me)
  adds value slots id me x f is = let g = me.0.given in let b = me.0.back in
      subst (λ (m : Me S (Known C)). Allows Rule slots id m 0 f (numbered value (step slots 0 0 0 (some x)) m)) (sym is)
      (λ s k len at small. (holder (g ++ value x ∷ []) b (suc (length g)) (value x ∷ []), keeps, tt, numbers s.views k id g b (value x) at, (x, refl, refl)))

  pub ends : (slots id : ℕ) (me : Me S (Known C)) → 0 < me.0.keeps → 0 < me.0.number
      → Allows Rule slots id me 0 (λ n. n) (ended (step slots 0 0 0 none) me)
  ends slots id me keeping has s k len at small = let v = me.0 in let (each, bound) = known s.views k id v at keeping in
      let f = each id v at in let (c, came, place) = f.place has in
      (keeper v.given (v.back ++ (v.number, c) ∷ []), keeps, tt, stops s.views k id v c at keeping has place, (c, came, place, f.out has, refl))

  pub cuts : (id : ℕ) (v : Known C) → Splits Rule id v (without_ticket v) (ticket_of v)
  cuts id v s k at = let f = k.each id v at in let w = without_ticket v in let t = ticket_of v in record {
    given = k.given;
    back = k.back;
    each = each_end (Fits k.given k.back) (set s.views id w) t
        record { keeps = λ l. absurd (omega arith); place = f.place; out = f.out }
        (each_set (Fits k.given k.back) s.views id w
        record { keeps = f.keeps; place = λ l. absurd (omega arith); out = λ l. absurd (omega arith) }
        (λ j u ne there. k.each j u there));
    apart = apart_end Apart (set s.views id w) t
        (apart_set Apart s.views id w k.apart (λ j u ne there. (
          record { keepers = (k.apart id j v u (λ e. ne (sym e)) at there).keepers; numbers = λ l. absurd (omega arith) },
          record { keepers = (k.apart j id u v ne there at).keepers; numbers = λ l e. absurd (omega arith) },
        )))
        (each_set (Both Apart t) s.views id w
        (record { keepers = λ l. absurd (omega arith); numbers = λ l e. absurd (omega arith) }, record { keepers = λ _. refl; numbers = λ l. absurd (omega arith) })
        (λ j u ne there. (
          record { keepers = λ l. absurd (omega arith); numbers = (k.apart id j v u (λ e. ne (sym e)) at there).numbers },
          record { keepers = λ _. refl; numbers = (k.apart j id u v ne there at).numbers },
        )));
    bound = k.bound;
  }

  pub puts : (id other : ℕ) (v w : Known C) → v.number ≡ 0 → w.keeps ≡ 0 → Joins Rule id v other w (with_ticket v w) (ticket 0 [])
  puts id other v w empty idle s k at not there = let l = with_ticket v w in let n : Known C = ticket 0 [] in
      let beside : get_elem? s.views other ≡ some w = sym (set_else s.views id other l not) ∙ there in
      let f = k.each id v at in let g = k.each other w beside in
      record {
        given = k.given;
        back = k.back;
        each = each_set (Fits k.given k.back) (set s.views id l) other n
            record { keeps = λ l. absurd (omega arith); place = λ l. absurd (omega arith); out = λ l. absurd (omega arith) }
            (λ j u ne there. each_set (Fits k.given k.back) s.views id l record { keeps = f.keeps; place = g.place; out = g.out } (λ j u ne there. k.each j u there) j u there);
        apart = subst (AllApart Apart) (set_swap s.views other id n l not)
            (apart_set Apart (set s.views other n) id l
            (apart_set Apart s.views other n k.apart (λ j u ne there. nothing_apart u))
            (λ j u ne there. ⊎_elim
            (λ (t : (j ≡ other) × (n ≡ u)). subst (Both Apart l) t.1 ((nothing_apart l).1, (nothing_apart l).0))
            (λ (t : (j ≢ other) × (get_elem? s.views j ≡ some u)). (
              record {
                keepers = (k.apart id j v u (λ e. ne (sym e)) at t.1).keepers;
                numbers = (k.apart other j w u (λ e. t.0 (sym e)) beside t.1).numbers;
              },
              record { keepers = (k.apart j id u v ne t.1 at).keepers; numbers = (k.apart j other u w t.0 t.1 beside).numbers },
            ))
            (at_set s.views other j n u there)));
        bound = k.bound;
      }

-- No two of a list's elements are alike, if one more comes that is like none of them
pub pairs_more : {X : Type 0} (R : X → X → Type 0) (xs : List X) (x : X) → AllPairs R xs → All (λ y. R y x) xs → AllPairs R (xs ++ x ∷ [])
pairs_more R xs x all new i j d below within = let e = length-append xs (x ∷ []) in dite (dec_lt j (length xs))
    (λ (h : j < length xs). rw (get_or_append_left xs (x ∷ []) d i (omega arith), get_or_append_left xs (x ∷ []) d j h) (all i j d below h))
    (λ (h : ¬ (j < length xs)). let is : j ≡ length xs = omega arith in
    rw (get_or_append_left xs (x ∷ []) d i (omega arith), is, get_or-append_seam xs x [] d) (new i d (omega arith)))

module _ {C : Type 0} where
  -- what `Tickets` keeps of the keeper's seat
  pub record IsKeeper {S : Type 0} (m : Me S (Known C)) (given : List C) (back : List (ℕ × C)) : Type 0 where
    pub keeps : m ≡ (keeper m.0.given m.0.back, [])
    pub given_is : m.0.given ≡ given
    pub back_is : m.0.back ≡ back
    pub places : All (IsPlace m.0.given) m.0.back
    pub apart : AllPairs HasOtherNumber m.0.back

  is_keeper : {S : Type 0} (m : Me S (Known C)) (given : List C) (back : List (ℕ × C)) → m ≡ (keeper given back, []) → All (IsPlace given) back
      → AllPairs HasOtherNumber back → IsKeeper m given back
  is_keeper {S} m given back is places apart = subst (λ (x : Me S (Known C)). IsKeeper x given back) (sym is)
      record { keeps = refl; given_is = refl; back_is = refl; places = places; apart = apart }

module _ {S C : Type 0} where
  -- a number and a cut
  pub gave : (value : S → C) (slots n : ℕ) (me found new own : Me S (Known C)) (x : S) → me ≡ (keeper me.0.given me.0.back, [])
      → numbered value (step slots 0 0 0 (some x)) me n found → new ≡ (without_ticket found.0, found.1) → own ≡ (ticket_of found.0, [])
      → All (IsPlace me.0.given) me.0.back → AllPairs HasOtherNumber me.0.back
      → IsKeeper new (me.0.given ++ value x ∷ []) me.0.back × (own ≡ (ticket (suc (length me.0.given)) (value x ∷ []), []))
  gave value slots n me found new own x is (y, said, then) cut other places apart = let g = me.0.given in let b = me.0.back in
      let same : x ≡ y = some-injective x y said in
      let empty : me.1 ≡ [] = ap (λ (m : Me S (Known C)). m.1) is in
      let now : found ≡ (holder (g ++ value x ∷ []) b (suc (length g)) (value x ∷ []), []) =
      subst (λ (z : S). found ≡ (holder (g ++ value z ∷ []) b (suc (length g)) (value z ∷ []), [])) (sym same)
      (then ∙ ap (λ (h : List (ℕ × S)). (holder (g ++ value y ∷ []) b (suc (length g)) (value y ∷ []), h)) empty) in (
        is_keeper new (g ++ value x ∷ []) b (cut ∙ ap (λ (m : Me S (Known C)). (without_ticket m.0, m.1)) now)
            (All-weaker (IsPlace g) (IsPlace (g ++ value x ∷ [])) (λ t h. place_front g (value x ∷ []) t h) b places) apart,
        other ∙ ap (λ (m : Me S (Known C)). (ticket_of m.0, [])) now,
      )

  -- a ticket comes back and ends
  pub took : (slots n k : ℕ) (me own joined new : Me S (Known C)) (c : C) → me ≡ (keeper me.0.given me.0.back, []) → own ≡ (ticket k (c ∷ []), [])
      → joined ≡ (with_ticket me.0 own.0, me.1) → ended (step slots 0 0 0 none) joined n new
      → All (IsPlace me.0.given) me.0.back → AllPairs HasOtherNumber me.0.back
      → IsKeeper new me.0.given (me.0.back ++ (k, c) ∷ [])
  took slots n k me own joined new c is own_is put end places apart = let g = me.0.given in let b = me.0.back in
      let now : joined ≡ (holder g b k (c ∷ []), []) = put ∙ (λ i. (with_ticket (is i).0 (own_is i).0, (is i).1)) in
      let (x, came, place, fresh, then) = subst (λ (m : Me S (Known C)). ended (step slots 0 0 0 none) m n new) now end in
      let same : x ≡ c = sym (ap (λ (l : List C). get_or l 0 c) came) in
      let at : IsPlace g (k, c) = subst (λ (z : C). IsPlace g (k, z)) same place in
      is_keeper new g (b ++ (k, c) ∷ []) (then ∙ ap (λ (z : C). (keeper g (b ++ (k, z) ∷ []), [])) same)
      (All-append (IsPlace g) b ((k, c) ∷ []) places (All-cons (IsPlace g) (k, c) [] at (All-nil (IsPlace g))))
      (pairs_more HasOtherNumber b (k, c) apart fresh)
