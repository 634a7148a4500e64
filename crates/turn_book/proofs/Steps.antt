-- Each step on the hall's table keeps its rule: `opens`, `asks`, `comes`, `gives`, `looks`, `notes`, `makes`, `joins`, `gathers`. At the end the value is at home: `closes`.
use Rattle.std.proofs.Common.{◌≡◌, ◌≢◌, ◌⊎◌, ℕ, zero, suc, ◌+◌, ◌%◌, ◌^◌, ◌<◌, ◌≤◌, Bool, true, false, eqb, List, [], ◌∷◌, ◌++◌, length, get_or, set, map, All, Option, Some, None, MatchBool, sym, refl, ap, ◌∙◌, subst, ⊎_elim, inl, inr, arith, append-nil, append_assoc, mod-eq_of_lt, eq-eqb, ne_eqb}
use Rattle.std.proofs.lemmas.Bool.Decides.{nat_tests}
use Rattle.std.proofs.lemmas.List.Elements.{filter-append, All-head, All-tail, All-nil, All-cons, All-weaker}
use mathlib.Core.Logic.{dite}
use mathlib.Core.Option.{none, some, some-injective, some-ne-none}
use mathlib.Core.Option as maybe
use mathlib.Core.List.{IsPrefix}
use native.Mathlib.Decide.{ℕ_discrete}
use lib.ListN.{get_elem?}
use prog.Atomic.{either}
use Rattle.atomic_table.specs.Table.{State, Me, step, Act, keeps, takes, gives, Valid, homes_after, carried_after, Allows, Splits, Joins, opening, Final, Seen}
use Rattle.atomic_table.proofs.Lists.{at_set, set_here, set_else, set_again}
use Rattle.turn_book.specs.declared.view.View.{View}
use Rattle.turn_book.specs.Rule.{is_number, turns_by, total, Apart, IsJoined, Fits, IsHome, Kept, Holds, opener, note, newcomer, making, learning, gathering, waiting, holding, giving, looking, Learns, names_only, AreOf, asked, came, gave, looked, IsUnmade}

abbrev Homes : Type 0 → Type 0
Homes V = List (maybe.Option (Option V))

abbrev Seated : Type 0 → Type 0 → Type 0
Seated V T = Me (Option V) (View T)

module _ {A : Type 0} where
  at_end : (l : List A) (a b : A) (j : ℕ) → get_elem? (l ++ a ∷ []) j ≡ some b → (get_elem? l j ≡ some b) ⊎ ((j ≡ length l) × (a ≡ b))
  at_end [] a b zero e = inr (refl, some-injective a b e)
  at_end [] a b (suc j) e = absurd (some-ne-none b (sym e))
  at_end (x ∷ xs) a b zero e = inl e
  at_end (x ∷ xs) a b (suc j) e = ⊎_elim (λ t. inl t) (λ t. inr (ap suc t.0, t.1)) (at_end xs a b j e)

  inside : (l : List A) (i : ℕ) (a : A) → get_elem? l i ≡ some a → i < length l
  inside [] i a e = absurd (some-ne-none a (sym e))
  inside (x ∷ xs) zero a e = omega arith
  inside (x ∷ xs) (suc i) a e = let h = inside xs i a e in omega arith

  one_there : (l : List A) (i : ℕ) (a b : A) → get_elem? l i ≡ some a → get_elem? l i ≡ some b → a ≡ b
  one_there l i a b e f = some-injective a b (sym e ∙ f)

  at_front : (l m : List A) (i : ℕ) (a : A) → get_elem? l i ≡ some a → get_elem? (l ++ m) i ≡ some a
  at_front [] m i a e = absurd (some-ne-none a (sym e))
  at_front (x ∷ xs) m zero a e = e
  at_front (x ∷ xs) m (suc i) a e = at_front xs m i a e

  pub prefix_refl : (xs : List A) → IsPrefix xs xs
  prefix_refl xs = ([], append-nil xs)

  pub prefix_trans : (xs ys zs : List A) → IsPrefix xs ys → IsPrefix ys zs → IsPrefix xs zs
  prefix_trans xs ys zs (r, e) (q, f) = (r ++ q, sym (append_assoc xs r q) ∙ (ap (λ (l : List A). l ++ q) e ∙ f))

  -- two places may be set in either order
  set_swap : (l : List A) (i j : ℕ) (a b : A) → i ≢ j → set (set l i a) j b ≡ set (set l j b) i a
  set_swap [] i j a b ne = refl
  set_swap (x ∷ xs) zero zero a b ne = absurd (ne refl)
  set_swap (x ∷ xs) zero (suc j) a b ne = refl
  set_swap (x ∷ xs) (suc i) zero a b ne = refl
  set_swap (x ∷ xs) (suc i) (suc j) a b ne = ap (λ (l : List A). x ∷ l) (set_swap xs i j a b (λ e. ne (ap suc e)))

  nil_left : (xs ys : List A) → xs ++ ys ≡ [] → xs ≡ []
  nil_left [] ys e = refl
  nil_left (x ∷ xs) ys e = absurd (let h : suc (length (xs ++ ys)) ≡ 0 = ap length e in omega arith)

module _ {T : Type 0} (made_by : T → Option ℕ) where
  abbrev own : ℕ → List T → List T
  own = turns_by made_by

  own_before : (n : ℕ) (xs ys : List T) → IsPrefix xs ys → own n ys ≡ [] → own n xs ≡ []
  own_before n xs ys (r, e) empty = nil_left (own n xs) (own n r) (sym (filter-append (λ t. is_number (made_by t) n) xs r) ∙ (ap (own n) e ∙ empty))

  other_number : (k n : ℕ) (m : Option ℕ) → k ≢ n → names_only n m ≡ true → is_number m k ≡ false
  other_number k n None ne e = refl
  other_number k n (Some m) ne e = let is : m ≡ n = grind (arith, nat_tests) in ne_eqb m k (λ (h : m ≡ k). ne (sym h ∙ is))

  others : (k n : ℕ) (ts : List T) → k ≢ n → AreOf made_by n ts → own k ts ≡ []
  others k n [] ne all = refl
  others k n (t ∷ ts) ne all = rw (other_number k n (made_by t) ne (All-head (λ (r : T). names_only n (made_by r) ≡ true) t ts all)) (others k n ts ne (All-tail (λ (r : T). names_only n (made_by r) ≡ true) t ts all))

  unchanged : (k n : ℕ) (xs ts : List T) → k ≢ n → AreOf made_by n ts → own k (xs ++ ts) ≡ own k xs
  unchanged k n xs ts ne all = filter-append (λ t. is_number (made_by t) k) xs ts ∙ (ap (λ (l : List T). own k xs ++ l) (others k n ts ne all) ∙ append-nil (own k xs))

  -- a pass that was joined, in a longer history without more turns of it; and once one more pass is made
  joined_later : (made n : ℕ) (log longer : List T) (p : ℕ × List T) → IsPrefix log longer → own p.0 log ≡ own p.0 longer → IsJoined made_by made n log p
      → IsJoined made_by made n longer p
  joined_later made n log longer p after same j = record { seen = prefix_trans p.1 log longer j.seen after; own = sym same ∙ j.own; below = j.below; other = j.other }

  joined_below : (made n : ℕ) (log : List T) (p : ℕ × List T) → IsJoined made_by made n log p → IsJoined made_by (suc made) n log p
  joined_below made n log p j = record { seen = j.seen; own = j.own; below = let b = j.below in omega arith; other = j.other }

  none_joined : (made n : ℕ) (log : List T) → All (IsJoined made_by made n log) []
  none_joined made n log = All-nil (IsJoined made_by made n log)

module _ {T : Type 0} where
  -- no pass is joined to a seat that represents no other
  none_apart : (n : ℕ) → All (λ (p : ℕ × List T). p.0 ≢ n) []
  none_apart n = All-nil (λ (p : ℕ × List T). p.0 ≢ n)

  total_set : (vs : List (View T)) (i : ℕ) (v w : View T) → get_elem? vs i ≡ some v → total (set vs i w) + v.passes ≡ total vs + w.passes
  total_set [] i v w e = absurd (some-ne-none v (sym e))
  total_set (x ∷ xs) zero v w e = let h : x.passes ≡ v.passes = ap (λ (z : View T). z.passes) (some-injective x v e) in omega arith
  total_set (x ∷ xs) (suc i) v w e = let h = total_set xs i v w e in omega arith

  total_end : (vs : List (View T)) (w : View T) → total (vs ++ w ∷ []) ≡ total vs + w.passes
  total_end [] w = omega arith
  total_end (x ∷ xs) w = let h = total_end xs w in omega arith

  total_at : (vs : List (View T)) (i : ℕ) (v : View T) → get_elem? vs i ≡ some v → v.passes ≤ total vs
  total_at [] i v e = absurd (some-ne-none v (sym e))
  total_at (x ∷ xs) zero v e = let h : x.passes ≡ v.passes = ap (λ (z : View T). z.passes) (some-injective x v e) in omega arith
  total_at (x ∷ xs) (suc i) v e = let h = total_at xs i v e in omega arith

  total_two : (vs : List (View T)) (i j : ℕ) (v w : View T) → i ≢ j → get_elem? vs i ≡ some v → get_elem? vs j ≡ some w → v.passes + w.passes ≤ total vs
  total_two [] i j v w ne e f = absurd (some-ne-none v (sym e))
  total_two (x ∷ xs) zero zero v w ne e f = absurd (ne refl)
  total_two (x ∷ xs) zero (suc j) v w ne e f = let h : x.passes ≡ v.passes = ap (λ (z : View T). z.passes) (some-injective x v e) in
      let g = total_at xs j w f in omega arith
  total_two (x ∷ xs) (suc i) zero v w ne e f = let h : x.passes ≡ w.passes = ap (λ (z : View T). z.passes) (some-injective x w f) in
      let g = total_at xs i v e in omega arith
  total_two (x ∷ xs) (suc i) (suc j) v w ne e f = let h = total_two xs i j v w (λ q. ne (ap suc q)) e f in omega arith

  each_set : (K : View T → Type 0) (vs : List (View T)) (id : ℕ) (w : View T) → K w → ((j : ℕ) (u : View T) → j ≢ id → get_elem? vs j ≡ some u → K u)
      → (j : ℕ) (u : View T) → get_elem? (set vs id w) j ≡ some u → K u
  each_set K vs id w mine rest j u e = ⊎_elim (λ (t : (j ≡ id) × (w ≡ u)). subst K t.1 mine) (λ (t : (j ≢ id) × (get_elem? vs j ≡ some u)). rest j u t.0 t.1) (at_set vs id j w u e)

  each_end : (K : View T → Type 0) (vs : List (View T)) (w : View T) → K w → ((j : ℕ) (u : View T) → get_elem? vs j ≡ some u → K u)
      → (j : ℕ) (u : View T) → get_elem? (vs ++ w ∷ []) j ≡ some u → K u
  each_end K vs w mine rest j u e = ⊎_elim (λ (t : get_elem? vs j ≡ some u). rest j u t) (λ (t : (j ≡ length vs) × (w ≡ u)). subst K t.1 mine) (at_end vs w u j e)

  abbrev AllApart : List (View T) → Type 0
  AllApart vs = (i j : ℕ) (v w : View T) → i ≢ j → get_elem? vs i ≡ some v → get_elem? vs j ≡ some w → Apart v w

  abbrev FromAll : View T → List (View T) → ℕ → Type 0
  FromAll w vs id = (j : ℕ) (u : View T) → j ≢ id → get_elem? vs j ≡ some u → Apart w u × Apart u w

  apart_set : (vs : List (View T)) (id : ℕ) (w : View T) → AllApart vs → FromAll w vs id → AllApart (set vs id w)
  apart_set vs id w old new i j a b ne ei ej = ⊎_elim
      (λ (t : (i ≡ id) × (w ≡ a)). ⊎_elim
      (λ (r : (j ≡ id) × (w ≡ b)). absurd (ne (t.0 ∙ sym r.0)))
      (λ (r : (j ≢ id) × (get_elem? vs j ≡ some b)). subst (λ (z : View T). Apart z b) t.1 (new j b r.0 r.1).0)
      (at_set vs id j w b ej))
      (λ (t : (i ≢ id) × (get_elem? vs i ≡ some a)). ⊎_elim
      (λ (r : (j ≡ id) × (w ≡ b)). subst (λ (z : View T). Apart a z) r.1 (new i a t.0 t.1).1)
      (λ (r : (j ≢ id) × (get_elem? vs j ≡ some b)). old i j a b ne t.1 r.1)
      (at_set vs id j w b ej))
      (at_set vs id i w a ei)

  apart_end : (vs : List (View T)) (w : View T) → AllApart vs → ((j : ℕ) (u : View T) → get_elem? vs j ≡ some u → Apart w u × Apart u w)
      → AllApart (vs ++ w ∷ [])
  apart_end vs w old new i j a b ne ei ej = ⊎_elim
      (λ (t : get_elem? vs i ≡ some a). ⊎_elim
      (λ (r : get_elem? vs j ≡ some b). old i j a b ne t r)
      (λ (r : (j ≡ length vs) × (w ≡ b)). subst (λ (z : View T). Apart a z) r.1 (new i a t).1)
      (at_end vs w b j ej))
      (λ (t : (i ≡ length vs) × (w ≡ a)). ⊎_elim
      (λ (r : get_elem? vs j ≡ some b). subst (λ (z : View T). Apart z b) t.1 (new j b r).0)
      (λ (r : (j ≡ length vs) × (w ≡ b)). absurd (ne (t.0 ∙ sym r.0)))
      (at_end vs w b j ej))
      (at_end vs w a i ei)

module _ {V T : Type 0} (turns : V → List T) (made_by : T → Option ℕ) (sound : V → Type 0) where
  abbrev Rule : State (Option V) (View T) → Type 0
  Rule = Holds turns made_by sound

  abbrev KeptAt : ℕ → ℕ → Homes V → List (View T) → Type 0
  KeptAt = Kept made_by turns sound

  abbrev FitsAt : ℕ → ℕ → ℕ → List T → View T → Type 0
  FitsAt = Fits made_by

  -- how a step goes on from a state
  record Goes (me : Seated V T) (ticket serving : ℕ) (homes : Homes V) (views : List (View T)) (id : ℕ) (then : Seated V T → Type 0) : Type 0 where
    view : View T
    act : Act (Option V)
    valid : Valid homes me.1 act
    kept : KeptAt ticket serving (homes_after homes me.1 act) (set views id view)
    shows : then (view, carried_after me.1 act)

  at_ticket : (slots id : ℕ) (me : Seated V T) (f : ℕ → ℕ) (then : ℕ → Seated V T → Type 0)
      → ((ticket serving : ℕ) (homes : Homes V) (views : List (View T)) → KeptAt ticket serving homes views → get_elem? views id ≡ some me.0
      → Goes me (f ticket) serving homes views id (then ticket))
      → Allows Rule slots id me 0 f then
  at_ticket slots id me f then go s h len at small = let g = go h.ticket h.serving s.homes s.views h.kept at in (
    g.view,
    g.act,
    g.valid,
    record { ticket = f h.ticket; serving = h.serving; words = ap (λ (ws : List ℕ). set ws 0 (f (get_or ws 0 0))) h.words; kept = g.kept },
    subst (λ (ws : List ℕ). then (get_or ws 0 0) (g.view, carried_after me.1 g.act)) (sym h.words) g.shows,
  )

  at_serving : (slots id : ℕ) (me : Seated V T) (f : ℕ → ℕ) (then : ℕ → Seated V T → Type 0)
      → ((ticket serving : ℕ) (homes : Homes V) (views : List (View T)) → KeptAt ticket serving homes views → get_elem? views id ≡ some me.0
      → Goes me ticket (f serving) homes views id (then serving))
      → Allows Rule slots id me 1 f then
  at_serving slots id me f then go s h len at small = let g = go h.ticket h.serving s.homes s.views h.kept at in (
    g.view,
    g.act,
    g.valid,
    record { ticket = h.ticket; serving = f h.serving; words = ap (λ (ws : List ℕ). set ws 1 (f (get_or ws 1 0))) h.words; kept = g.kept },
    subst (λ (ws : List ℕ). then (get_or ws 1 0) (g.view, carried_after me.1 g.act)) (sym h.words) g.shows,
  )

  -- what is at home stays there, if the seat still holds the turn that it held
  home_set : (log : List T) (homes : Homes V) (views : List (View T)) (id : ℕ) (v w : View T) → get_elem? views id ≡ some v → (1 < v.stage → 1 < w.stage)
      → IsHome made_by turns sound log homes views → IsHome made_by turns sound log homes (set views id w)
  home_set log homes views id v w at same (inl h) = inl h
  home_set log homes views id v w at same (inr (e, (i, u, there, held))) = dite (ℕ_discrete i id)
      (λ (is : i ≡ id). let u_is : u ≡ v = one_there views id u v (subst (λ (k : ℕ). get_elem? views k ≡ some u) is there) at in
      let held' : 1 < w.stage = same (subst (λ (z : View T). 1 < z.stage) u_is held) in
      inr (e, (id, w, set_here views id w (inside views id v at), held')))
      (λ (not : i ≢ id). inr (e, (i, u, set_else views id i w not ∙ there, held)))

  home_end : (log : List T) (homes : Homes V) (views more : List (View T)) → IsHome made_by turns sound log homes views
      → IsHome made_by turns sound log homes (views ++ more)
  home_end log homes views more (inl h) = inl h
  home_end log homes views more (inr (e, (i, u, there, held))) = inr (e, (i, u, at_front views more i u there, held))

  same_total : (views : List (View T)) (id : ℕ) (v w : View T) → get_elem? views id ≡ some v → w.passes ≡ v.passes → total (set views id w) ≡ total views
  same_total views id v w at same = let h = total_set views id v w at in omega arith

  -- A pass draws the next ticket
  draws : (ticket serving : ℕ) (homes : Homes V) (views : List (View T)) (id : ℕ) (v : View T) → KeptAt ticket serving homes views
      → get_elem? views id ≡ some v
      → ticket < 2 ^ 63 → v.stage ≡ 0 → 0 < v.passes → KeptAt (ticket + 1) serving homes (set views id (waiting v ticket))
  draws ticket serving homes views id v k at room idle one = let f = k.each id v at in let bound = k.bound.0 in record {
    made = k.made;
    log = k.log;
    bound = (omega arith, omega arith);
    each = each_set (FitsAt k.made (ticket + 1) serving k.log) views id (waiting v ticket)
        record {
          seen = f.seen;
          also = f.also;
          own = f.own;
          number = f.number;
          maker = f.maker;
          waits = λ _. (one, bound, omega arith);
          holds = λ l. absurd (omega arith);
          joined = f.joined;
        }
        (λ j u ne there. let g = k.each j u there in
        record {
          seen = g.seen;
          also = g.also;
          own = g.own;
          number = g.number;
          maker = g.maker;
          waits = λ l. let (p, a, b) = g.waits l in
              (p, a, omega arith);
          holds = g.holds;
          joined = g.joined;
        });
    apart = apart_set views id (waiting v ticket) k.apart (λ j u ne there. let g = k.each j u there in
        let one_way = k.apart id j v u (λ e. ne (sym e)) at there in let other_way = k.apart j id u v ne there at in (
          record { numbers = one_way.numbers; tickets = λ _ l e. let (p, a, b) = g.waits l in omega arith; makers = one_way.makers; joined = one_way.joined },
          record { numbers = other_way.numbers; tickets = λ l _ e. let (p, a, b) = g.waits l in omega arith; makers = other_way.makers; joined = other_way.joined },
        ));
    home = home_set k.log homes views id v (waiting v ticket) at (λ l. absurd (omega arith)) k.home;
    passes = same_total views id v (waiting v ticket) at refl ∙ k.passes;
    later = k.later;
  }

  pub asks : (slots id t : ℕ) (v : View T) (held : List (ℕ × Option V)) → t < 2 ^ 63 → v.stage ≡ 0 → 0 < v.passes
      → Allows Rule slots id (v, held) 0 (λ n. either (eqb n t) (t + 1) n) (asked (step slots 0 t (t + 1) none) (v, held))
  asks slots id t v held room idle one = at_ticket slots id (v, held) (λ n. either (eqb n t) (t + 1) n) (asked (step slots 0 t (t + 1) none) (v, held))
      (λ ticket serving homes views k at. dite (ℕ_discrete ticket t)
      (λ (is : ticket ≡ t). subst (λ b. Goes (v, held) (either b (t + 1) ticket) serving homes views id (λ m'. MatchBool b (m' ≡ (
        waiting v ticket,
        held,
      )) (m' ≡ (v, held)))) (sym (eq-eqb ticket t is)) record {
        view = waiting v ticket;
        act = keeps;
        valid = tt;
        kept = subst (λ (n : ℕ). KeptAt n serving homes (set views id (waiting v ticket))) (ap (λ (n : ℕ). n + 1) is)
            (draws ticket serving homes views id v k at (subst (λ (n : ℕ). n < 2 ^ 63) (sym is) room) idle one);
        shows = refl;
      })
      (λ (not : ticket ≢ t). subst (λ b. Goes (v, held) (either b (t + 1) ticket) serving homes views id (λ m'. MatchBool b (m' ≡ (
        waiting v ticket,
        held,
      )) (m' ≡ (v, held)))) (sym (ne_eqb ticket t not)) record {
        view = v;
        act = keeps;
        valid = tt;
        kept = subst (KeptAt ticket serving homes) (sym (set_again views id v at)) k;
        shows = refl;
      }))

  -- A pass takes its turn
  enters : (ticket serving : ℕ) (homes : Homes V) (views : List (View T)) (id : ℕ) (v : View T) (x : V) (k : KeptAt ticket serving homes views)
      → get_elem? views id ≡ some v
      → v.stage ≡ 1 → serving ≡ v.ticket → homes ≡ some (Some x) ∷ [] → turns x ≡ k.log
      → KeptAt ticket serving (set homes 0 none) (set views id (holding v (turns x)))
  enters ticket serving homes views id v x k at waits is full story = let f = k.each id v at in let w = holding v (turns x) in let stage = waits in
      record {
        made = k.made;
        log = k.log;
        bound = k.bound;
        each = each_set (FitsAt k.made ticket serving k.log) views id w
            record {
              seen = ([], append-nil (turns x) ∙ story);
              also = f.also;
              own = λ _. ap (turns_by made_by v.number) story;
              number = f.number;
              maker = f.maker;
              waits = λ _. f.waits (omega arith);
              holds = λ _. (sym is, story);
              joined = f.joined;
            }
            (λ j u ne there. k.each j u there);
        apart = apart_set views id w k.apart (λ j u ne there. let one_way = k.apart id j v u (λ e. ne (sym e)) at there in
            let other_way = k.apart j id u v ne there at in (
              record { numbers = one_way.numbers; tickets = λ _. one_way.tickets (omega arith); makers = one_way.makers; joined = one_way.joined },
              record { numbers = other_way.numbers; tickets = λ l _. other_way.tickets l (omega arith); makers = other_way.makers; joined = other_way.joined },
            ));
        home = inr (ap (λ (hs : Homes V). set hs 0 none) full, (id, w, set_here views id w (inside views id v at), omega arith));
        passes = same_total views id v w at refl ∙ k.passes;
        later = k.later;
      }

  pub comes : (slots id : ℕ) (v : View T) (held : List (ℕ × Option V)) → v.stage ≡ 1 → 0 < v.passes
      → Allows Rule slots id (v, held) 1 (λ n. n) (came turns made_by sound (step slots 1 0 0 none) (v, held))
  comes slots id v held waits one = at_serving slots id (v, held) (λ n. n) (came turns made_by sound (step slots 1 0 0 none) (v, held))
      (λ ticket serving homes views k at.
      let P : Bool → Seated V T → Type 0 = λ b m'. MatchBool b ((x : V) × (m' ≡ (
        holding v (turns x),
        (
          0,
          Some x,
        ) ∷ held,
      )) × sound x × Learns made_by v (turns x)) (m' ≡ (v, held)) in
      dite (ℕ_discrete serving v.ticket)
      (λ (is : serving ≡ v.ticket). subst (λ b. Goes (v, held) ticket serving homes views id (P b)) (sym (eq-eqb serving v.ticket is)) (⊎_elim
      (λ (h : (x : V) × (homes ≡ some (Some x) ∷ []) × (turns x ≡ k.log) × sound x). let (x, full, story, fine) = h in let f = k.each id v at in record {
        view = holding v (turns x);
        act = takes 0 (Some x);
        valid = ap (λ (hs : Homes V). get_elem? hs 0) full;
        kept = enters ticket serving homes views id v x k at waits is full story;
        shows = (x, refl, fine, (subst (IsPrefix v.seen) (sym story) f.seen, ap (turns_by made_by v.number) story ∙ sym (f.own one)));
      })
      (λ (h : (homes ≡ none ∷ []) × ((i : ℕ) × (u : View T) × (get_elem? views i ≡ some u) × (1 < u.stage))). let (empty, (i, u, there, held)) = h in
      dite (ℕ_discrete i id)
      (λ (same : i ≡ id). let u_is : u ≡ v = one_there views id u v (subst (λ (n : ℕ). get_elem? views n ≡ some u) same there) at in
      let l : 1 < v.stage = subst (λ (z : View T). 1 < z.stage) u_is held in absurd (omega arith))
      (λ (not : i ≢ id). absurd ((k.apart i id u v not there at).tickets (omega arith) (omega arith) (((k.each i u there).holds held).0 ∙ is))))
      k.home))
      (λ (not : serving ≢ v.ticket). subst (λ b. Goes (v, held) ticket serving homes views id (P b)) (sym (ne_eqb serving v.ticket not)) record {
        view = v;
        act = keeps;
        valid = tt;
        kept = subst (KeptAt ticket serving homes) (sym (set_again views id v at)) k;
        shows = refl;
      }))

  -- A turn ends, and its additions enter the history
  leaves : (ticket serving : ℕ) (homes : Homes V) (views : List (View T)) (id : ℕ) (v : View T) (x : V) (added : List T) (k : KeptAt ticket serving homes views) → get_elem? views id ≡ some v
      → v.stage ≡ 2 → 0 < v.passes → turns x ≡ v.seen ++ added → AreOf made_by v.number added → sound x
      → KeptAt ticket ((serving + 1) % 18446744073709551616) (set homes 0 (some (Some x))) (set views id (giving v (turns x)))
  leaves ticket serving homes views id v x added k at held one story only fine = let f = k.each id v at in let w = giving v (turns x) in
      let (mine, all) = f.holds (omega arith) in
      let (_, low, high) = f.waits (omega arith) in
      let (_, top) = k.bound in
      let longer : k.log ++ added ≡ turns x = sym (story ∙ ap (λ (l : List T). l ++ added) all) in
      let after : IsPrefix k.log (turns x) = (added, longer) in
      let same : (n : ℕ) → n ≢ v.number
      → turns_by made_by n k.log ≡ turns_by made_by n (turns x) = λ n ne. sym (ap (turns_by made_by n) (sym longer) ∙ unchanged made_by n v.number k.log added ne only) in
      let one_more : (serving + 1) % 18446744073709551616 ≡ serving + 1 = mod-eq_of_lt (omega arith) in
      subst (λ (n : ℕ). KeptAt ticket n (set homes 0 (some (Some x))) (set views id w)) (sym one_more) record {
        made = k.made;
        log = turns x;
        bound = (omega arith, top);
        each = each_set (FitsAt k.made ticket (serving + 1) (turns x)) views id w
            record {
              seen = prefix_refl (turns x);
              also = prefix_trans v.also k.log (turns x) f.also after;
              own = λ _. refl;
              number = f.number;
              maker = f.maker;
              waits = λ l. absurd (omega arith);
              holds = λ l. absurd (omega arith);
              joined = All-weaker (IsJoined made_by k.made v.number k.log) (IsJoined made_by k.made v.number (turns x))
                  (λ p j. joined_later made_by k.made v.number k.log (turns x) p after (same p.0 j.other) j) v.joined f.joined;
            }
            (λ j u ne there. let g = k.each j u there in let a = k.apart j id u v ne there at in
            record {
              seen = prefix_trans u.seen k.log (turns x) g.seen after;
              also = prefix_trans u.also k.log (turns x) g.also after;
              own = λ l. g.own l ∙ same u.number (a.numbers l one);
              number = g.number;
              maker = g.maker;
              waits = λ l. let (p, b, c) = g.waits l in let d : u.ticket ≢ v.ticket = a.tickets l (omega arith) in (p, omega arith, c);
              holds = λ l. absurd (a.tickets (omega arith) (omega arith) ((g.holds l).0 ∙ sym mine));
              joined = λ i d inside. joined_later made_by k.made u.number k.log (turns x) (get_or u.joined i d) after
                  (same (get_or u.joined i d).0 (a.joined one i d inside)) (g.joined i d inside);
            });
        apart = apart_set views id w k.apart (λ j u ne there. let one_way = k.apart id j v u (λ e. ne (sym e)) at there in
            let other_way = k.apart j id u v ne there at in (
              record { numbers = one_way.numbers; tickets = λ l. absurd (omega arith); makers = one_way.makers; joined = one_way.joined },
              record { numbers = other_way.numbers; tickets = λ _ l. absurd (omega arith); makers = other_way.makers; joined = other_way.joined },
            ));
        home = inl (
          x,
          ⊎_elim
              (λ (h : (y : V) × (homes ≡ some (Some y) ∷ []) × (turns y ≡ k.log) × sound y). let (y, full, _, _) = h in
              ap (λ (hs : Homes V). set hs 0 (some (Some x))) full)
              (λ (h : (homes ≡ none ∷ []) × ((i : ℕ) × (u : View T) × (get_elem? views i ≡ some u) × (1 < u.stage))). ap (λ (hs : Homes V). set hs 0 (some (Some x))) h.0)
              k.home,
          refl,
          fine,
        );
        passes = same_total views id v w at refl ∙ k.passes;
        later = λ n l. let below = f.number one in sym (same n (λ e. omega arith)) ∙ k.later n l;
      }

  pub gives_back : (slots id : ℕ) (v : View T) (x : V) (added : List T) → v.stage ≡ 2 → 0 < v.passes → turns x ≡ v.seen ++ added
      → AreOf made_by v.number added → sound x
      → Allows Rule slots id (v, (0, Some x) ∷ []) 1 (λ n. (n + 1) % 18446744073709551616) (gave turns (step slots 1 1 0 none) (v, (0, Some x) ∷ []))
  gives_back slots id v x added held one story only fine = at_serving slots id (
    v,
    (
      0,
      Some x,
    ) ∷ [],
  ) (λ n. (n + 1) % 18446744073709551616) (gave turns (step slots 1 1 0 none) (v, (0, Some x) ∷ []))
      (λ ticket serving homes views k at. record {
        view = giving v (turns x);
        act = gives;
        valid = tt;
        kept = leaves ticket serving homes views id v x added k at held one story only fine;
        shows = refl;
      })

  -- A seat sees the history as it is
  sees : (ticket serving : ℕ) (homes : Homes V) (views : List (View T)) (id : ℕ) (v : View T) (k : KeptAt ticket serving homes views)
      → get_elem? views id ≡ some v
      → KeptAt ticket serving homes (set views id (looking v k.log))
  sees ticket serving homes views id v k at = let f = k.each id v at in let w = looking v k.log in record {
    made = k.made;
    log = k.log;
    bound = k.bound;
    each = each_set (FitsAt k.made ticket serving k.log) views id w
        record {
          seen = prefix_refl k.log;
          also = (k.log, refl);
          own = λ _. refl;
          number = f.number;
          maker = f.maker;
          waits = f.waits;
          holds = λ l. ((f.holds l).0, refl);
          joined = f.joined;
        }
        (λ j u ne there. k.each j u there);
    apart = apart_set views id w k.apart (λ j u ne there. let one_way = k.apart id j v u (λ e. ne (sym e)) at there in
        let other_way = k.apart j id u v ne there at in (
          record { numbers = one_way.numbers; tickets = one_way.tickets; makers = one_way.makers; joined = one_way.joined },
          record { numbers = other_way.numbers; tickets = other_way.tickets; makers = other_way.makers; joined = other_way.joined },
        ));
    home = home_set k.log homes views id v w at (λ l. l) k.home;
    passes = same_total views id v w at refl ∙ k.passes;
    later = k.later;
  }

  pub looks : (slots id : ℕ) (v : View T) (held : List (ℕ × Option V)) → 0 < v.passes → Allows Rule slots id (
    v,
    held,
  ) 0 (λ n. n) (looked made_by (step slots 0 0 0 none) (v, held))
  looks slots id v held one = at_ticket slots id (v, held) (λ n. n) (looked made_by (step slots 0 0 0 none) (v, held))
      (λ ticket serving homes views k at. let f = k.each id v at in record {
        view = looking v k.log;
        act = keeps;
        valid = tt;
        kept = sees ticket serving homes views id v k at;
        shows = (k.log, refl, f.also, (f.seen, sym (f.own one)), λ n maker l. let is = f.maker maker in k.later n (omega arith));
      })

  note_fits : (made ticket serving : ℕ) (log xs : List T) → IsPrefix xs log → FitsAt made ticket serving log (note xs)
  note_fits made ticket serving log xs part = record {
    seen = part;
    also = (log, refl);
    own = λ l. absurd (omega arith);
    number = λ l. absurd (omega arith);
    maker = λ l. absurd (omega arith);
    waits = λ l. absurd (omega arith);
    holds = λ l. absurd (omega arith);
    joined = none_joined made_by made 0 log;
  }

  note_apart : (xs : List T) (u : View T) → Apart (note xs) u × Apart u (note xs)
  note_apart xs u = (
    record { numbers = λ l. absurd (omega arith); tickets = λ l. absurd (omega arith); makers = λ l. absurd (omega arith); joined = λ _. none_apart u.number },
    record { numbers = λ _ l. absurd (omega arith); tickets = λ _ l. absurd (omega arith); makers = λ _. refl; joined = λ l. absurd (omega arith) },
  )

  pub notes : (id : ℕ) (v : View T) → Splits Rule id v v (note v.seen)
  notes id v s h at = let k = h.kept in let f = k.each id v at in
      subst (λ (vs : List (View T)). Rule record {
        words = s.words;
        homes = s.homes;
        views = vs ++ note v.seen ∷ [];
      }) (sym (set_again s.views id v at)) record {
        ticket = h.ticket;
        serving = h.serving;
        words = h.words;
        kept = record {
          made = k.made;
          log = k.log;
          bound = k.bound;
          each = each_end (FitsAt k.made h.ticket h.serving k.log) s.views (note v.seen) (note_fits k.made h.ticket h.serving k.log v.seen f.seen) k.each;
          apart = apart_end s.views (note v.seen) k.apart (λ j u there. note_apart v.seen u);
          home = home_end k.log s.homes s.views (note v.seen ∷ []) k.home;
          passes = let a = total_end s.views (note v.seen) in let b = k.passes in omega arith;
          later = k.later;
        };
      }

  pub makes : (id : ℕ) (v : View T) → 0 < v.made → Splits Rule id v (making v) (newcomer v.made v.seen)
  makes id v maker s h at = let k = h.kept in let f = k.each id v at in let w = making v in let n = newcomer v.made v.seen in let is = f.maker maker in
      let empty : turns_by made_by v.made k.log ≡ [] = k.later v.made (omega arith) in
      let not_made : (u : View T) → All (IsJoined made_by k.made u.number k.log) u.joined → All (λ (p : ℕ × List T). p.0 ≢ v.made) u.joined =
      λ u all. All-weaker (IsJoined made_by k.made u.number k.log) (λ (p : ℕ × List T). p.0 ≢ v.made) (λ p j e. let b = j.below in omega arith) u.joined all in
      record {
        ticket = h.ticket;
        serving = h.serving;
        words = h.words;
        kept = record {
          made = suc k.made;
          log = k.log;
          bound = k.bound;
          each = each_end (FitsAt (suc k.made) h.ticket h.serving k.log) (set s.views id w) n
              record {
                seen = f.seen;
                also = (k.log, refl);
                own = λ _. own_before made_by v.made v.seen k.log f.seen empty ∙ sym empty;
                number = λ _. omega arith;
                maker = λ l. absurd (omega arith);
                waits = λ l. absurd (omega arith);
                holds = λ l. absurd (omega arith);
                joined = none_joined made_by (suc k.made) v.made k.log;
              }
              (each_set (FitsAt (suc k.made) h.ticket h.serving k.log) s.views id w
              record {
                seen = f.seen;
                also = f.also;
                own = f.own;
                number = λ l. let b = f.number l in
                    omega arith;
                maker = λ _. ap suc is;
                waits = f.waits;
                holds = f.holds;
                joined = All-weaker (IsJoined made_by k.made v.number k.log) (IsJoined made_by (suc k.made) v.number k.log)
                    (λ p j. joined_below made_by k.made v.number k.log p j) v.joined f.joined;
              }
              (λ j u ne there. let g = k.each j u there in let a = k.apart id j v u (λ e. ne (sym e)) at there in
              record {
                seen = g.seen;
                also = g.also;
                own = g.own;
                number = λ l. let b = g.number l in
                    omega arith;
                maker = λ l. let b = a.makers maker in absurd (omega arith);
                waits = g.waits;
                holds = g.holds;
                joined = All-weaker (IsJoined made_by k.made u.number k.log) (IsJoined made_by (suc k.made) u.number k.log)
                    (λ p j. joined_below made_by k.made u.number k.log p j) u.joined g.joined;
              }));
          apart = apart_end (set s.views id w) n
              (apart_set s.views id w k.apart (λ j u ne there. let one_way = k.apart id j v u (λ e. ne (sym e)) at there in
              let other_way = k.apart j id u v ne there at in (
                record { numbers = one_way.numbers; tickets = one_way.tickets; makers = λ _. one_way.makers maker; joined = one_way.joined },
                record { numbers = other_way.numbers; tickets = other_way.tickets; makers = λ l. let b = one_way.makers maker in absurd (omega arith); joined = other_way.joined },
              )))
              (each_set (λ (u : View T). Apart n u × Apart u n) s.views id w (
                record { numbers = λ _ l e. let b = f.number l in omega arith; tickets = λ l. absurd (omega arith); makers = λ l. absurd (omega arith); joined = λ _. none_apart v.number },
                record { numbers = λ l _ e. let b = f.number l in omega arith; tickets = λ _ l. absurd (omega arith); makers = λ _. refl; joined = λ _. not_made v f.joined },
              )
              (λ j u ne there. let g = k.each j u there in (
                record { numbers = λ _ l e. let b = g.number l in omega arith; tickets = λ l. absurd (omega arith); makers = λ l. absurd (omega arith); joined = λ _. none_apart u.number },
                record { numbers = λ l _ e. let b = g.number l in omega arith; tickets = λ _ l. absurd (omega arith); makers = λ _. refl; joined = λ _. not_made u g.joined },
              )));
          home = home_end k.log s.homes (set s.views id w) (n ∷ []) (home_set k.log s.homes s.views id v w at (λ l. l) k.home);
          passes = let a = total_end (set s.views id w) n in let b = same_total s.views id v w at refl in let c = k.passes in omega arith;
          later = λ m l. k.later m (omega arith);
        };
      }

  pub joins : (id other : ℕ) (v w : View T) → 0 < v.passes → w.stage ≡ 0 → Joins Rule id v other w (learning v w) (note [])
  joins id other v w one idle s h at not there = let k = h.kept in let f = k.each id v at in let l = learning v w in
      let beside : get_elem? s.views other ≡ some w = sym (set_else s.views id other l not) ∙ there in
      let g = k.each other w beside in
      record {
        ticket = h.ticket;
        serving = h.serving;
        words = h.words;
        kept = record {
          made = k.made;
          log = k.log;
          bound = k.bound;
          each = each_set (FitsAt k.made h.ticket h.serving k.log) (set s.views id l) other (note []) (note_fits k.made h.ticket h.serving k.log [] (k.log, refl))
              (λ j u ne there. each_set (FitsAt k.made h.ticket h.serving k.log) s.views id l
              record {
                seen = f.seen;
                also = g.seen;
                own = λ _. f.own one;
                number = λ _. f.number one;
                maker = f.maker;
                waits = λ p. let (a, b, c) = f.waits p in (omega arith, b, c);
                holds = f.holds;
                joined = f.joined;
              }
              (λ j u ne there. k.each j u there) j u there);
          apart = apart_set (set s.views id l) other (note [])
              (apart_set s.views id l k.apart (λ j u ne there. let one_way = k.apart id j v u (λ e. ne (sym e)) at there in
              let other_way = k.apart j id u v ne there at in (
                record { numbers = λ _. one_way.numbers one; tickets = one_way.tickets; makers = one_way.makers; joined = one_way.joined },
                record { numbers = λ p _. other_way.numbers p one; tickets = other_way.tickets; makers = other_way.makers; joined = λ _. other_way.joined one },
              )))
              (λ j u ne there. note_apart [] u);
          home = home_set k.log s.homes (set s.views id l) other w (note []) there (λ p. absurd (omega arith)) (home_set k.log s.homes s.views id v l at (λ p. p) k.home);
          passes = let a = total_set s.views id v l at in let b = total_set (set s.views id l) other w (note []) there in let c = k.passes in omega arith;
          later = k.later;
        };
      }

  pub gathers : (id other : ℕ) (v w : View T) → 0 < v.passes → 0 < w.passes → w.stage ≡ 0 → Joins Rule id v other w (gathering v w) (note [])
  gathers id other v w one pass idle s h at not there = let k = h.kept in let f = k.each id v at in let l = gathering v w in
      let beside : get_elem? s.views other ≡ some w = sym (set_else s.views id other l not) ∙ there in
      let g = k.each other w beside in let theirs = k.apart other id w v not beside at in
      record {
        ticket = h.ticket;
        serving = h.serving;
        words = h.words;
        kept = record {
          made = k.made;
          log = k.log;
          bound = k.bound;
          each = each_set (FitsAt k.made h.ticket h.serving k.log) (set s.views id l) other (note []) (note_fits k.made h.ticket h.serving k.log [] (k.log, refl))
              (λ j u ne there. each_set (FitsAt k.made h.ticket h.serving k.log) s.views id l
              record {
                seen = f.seen;
                also = g.seen;
                own = λ _. f.own one;
                number = λ _. f.number one;
                maker = f.maker;
                waits = λ p. let (a, b, c) = f.waits p in (omega arith, b, c);
                holds = f.holds;
                joined = All-cons (IsJoined made_by k.made v.number k.log) (w.number, w.seen) v.joined
                    record { seen = g.seen; own = sym (g.own pass); below = g.number pass; other = theirs.numbers pass one } f.joined;
              }
              (λ j u ne there. k.each j u there) j u there);
          apart = subst AllApart (sym (set_swap s.views id other l (note []) (λ e. not (sym e))))
              (apart_set (set s.views other (note [])) id l (apart_set s.views other (note []) k.apart (λ j u ne there. note_apart [] u))
              (λ j u ne there. ⊎_elim
              (λ (t : (j ≡ other) × (note [] ≡ u)). subst (λ (z : View T). Apart l z × Apart z l) t.1 ((note_apart [] l).1, (note_apart [] l).0))
              (λ (t : (j ≢ other) × (get_elem? s.views j ≡ some u)). let one_way = k.apart id j v u (λ e. ne (sym e)) at t.1 in
              let other_way = k.apart j id u v ne t.1 at in let third = k.apart other j w u (λ e. t.0 (sym e)) beside t.1 in (
                record {
                  numbers = λ _. one_way.numbers one;
                  tickets = one_way.tickets;
                  makers = one_way.makers;
                  joined = λ p. All-cons (λ (q : ℕ × List T). q.0 ≢ u.number) (w.number, w.seen) v.joined (third.numbers pass p) (one_way.joined p);
                },
                record { numbers = λ p _. other_way.numbers p one; tickets = other_way.tickets; makers = other_way.makers; joined = λ _. other_way.joined one },
              ))
              (at_set s.views other j (note []) u there)));
          home = home_set k.log s.homes (set s.views id l) other w (note []) there (λ p. absurd (omega arith)) (home_set k.log s.homes s.views id v l at (λ p. p) k.home);
          passes = let a = total_set s.views id v l at in let b = total_set (set s.views id l) other w (note []) there in let c = k.passes in omega arith;
          later = k.later;
        };
      }

  pub opens : (x : V) → sound x → ((n : ℕ) → turns_by made_by n (turns x) ≡ []) → Rule (opening (0 ∷ 0 ∷ []) (Some x ∷ []) (opener (turns x)))
  opens x fine unmade = let w : View T = opener (turns x) in record {
    ticket = 0;
    serving = 0;
    words = refl;
    kept = record {
      made = 1;
      log = turns x;
      bound = (omega arith, omega arith);
      each = each_end (FitsAt 1 0 0 (turns x)) [] w
          record {
            seen = prefix_refl (turns x);
            also = (turns x, refl);
            own = λ _. refl;
            number = λ _. omega arith;
            maker = λ _. refl;
            waits = λ l. absurd (omega arith);
            holds = λ l. absurd (omega arith);
            joined = none_joined made_by 1 0 (turns x);
          }
          (λ j u there. absurd (some-ne-none u (sym there)));
      apart = apart_end [] w (λ i j a b ne there. absurd (some-ne-none a (sym there))) (λ j u there. absurd (some-ne-none u (sym there)));
      home = inl (x, refl, refl, fine);
      passes = refl;
      later = λ n l. unmade n;
    };
  }

  -- If one seat represents all passes and holds no turn, the value is at home
  pub closes : (id : ℕ) (v : View T) (s : State (Option V) (View T)) → Rule s → get_elem? s.views id ≡ some v → 0 < v.made → v.passes ≡ v.made
      → v.stage ≡ 0
      → (x : V) × (s.homes ≡ some (Some x) ∷ []) × sound x × Learns made_by v (turns x) × IsUnmade made_by v.made (turns x)
      × All (λ p. IsPrefix p.1 (turns x) × (turns_by made_by p.0 (turns x) ≡ turns_by made_by p.0 p.1)) v.joined
  closes id v s h at maker whole idle = let k = h.kept in let f = k.each id v at in let is = f.maker maker in let all = k.passes in ⊎_elim
      (λ (t : (x : V) × (s.homes ≡ some (Some x) ∷ []) × (turns x ≡ k.log) × sound x). let (x, full, story, fine) = t in (
        x,
        full,
        fine,
        (subst (IsPrefix v.seen) (sym story) f.seen, ap (turns_by made_by v.number) story ∙ sym (f.own (omega arith))),
        λ n most. ap (turns_by made_by n) story ∙ k.later n (omega (arith, is, most)),
        All-weaker (IsJoined made_by k.made v.number k.log) (λ p. IsPrefix p.1 (turns x) × (turns_by made_by p.0 (turns x) ≡ turns_by made_by p.0 p.1))
            (λ p j. (subst (IsPrefix p.1) (sym story) j.seen, ap (turns_by made_by p.0) story ∙ j.own)) v.joined f.joined,
      ))
      (λ (t : (s.homes ≡ none ∷ []) × ((i : ℕ) × (u : View T) × (get_elem? s.views i ≡ some u) × (1 < u.stage))). let (
        empty,
        (
          i,
          u,
          there,
          held,
        ),
      ) = t in dite (ℕ_discrete i id)
      (λ (same : i ≡ id). let u_is : u ≡ v = one_there s.views id u v (subst (λ (n : ℕ). get_elem? s.views n ≡ some u) same there) at in
      let l : 1 < v.stage = subst (λ (z : View T). 1 < z.stage) u_is held in absurd (omega arith))
      (λ (not : i ≢ id). let two = total_two s.views i id u v not there at in let (p, _, _) = (k.each i u there).waits (omega arith) in
      absurd (omega arith)))
      k.home

-- what holds of the images of a list, and of more, holds of each image
pub of_images : {A B : Type 0} (P : B → Type 0) (f : A → B) (xs : List A) (more : List B) → All P (map f xs ++ more) → All (λ x. P (f x)) xs
of_images P f [] more all = All-nil (λ x. P (f x))
of_images P f (x ∷ xs) more all =
    All-cons (λ x. P (f x)) x xs (All-head P (f x) (map f xs ++ more) all) (of_images P f xs more (All-tail P (f x) (map f xs ++ more) all))

-- What a `MatchBool` on a test of two numbers says, once they are known to be equal
pub if_equal : (P Q : Type 0) (n m : ℕ) → n ≡ m → MatchBool (eqb n m) P Q → P
if_equal P Q n m e h = subst (λ b. MatchBool b P Q) (eq-eqb n m e) h

module _ {V T : Type 0} (made_by : T → Option ℕ) where
  -- A join and a look: the seat has seen what the other one had
  pub learned : (v w : View T) (held : List (ℕ × Option V)) (joined new : Seated V T) → joined ≡ (learning v w, held)
      → looked made_by (step 0 0 0 0 none) joined 0 new
      → (log : List T) × (new ≡ (looking (learning v w) log, held)) × IsPrefix w.seen log × Learns made_by v log
  learned v w held joined new j (log, is, also, learns, _) = (
    log,
    is ∙ ap (λ (m : Seated V T). (looking m.0 log, m.1)) j,
    subst (λ (m : Seated V T). IsPrefix m.0.also log) j also,
    subst (λ (m : Seated V T). Learns made_by m.0 log) j learns,
  )

module _ {V T : Type 0} (made_by : T → Option ℕ) where
  -- The same, if the seat then represents the other one's pass too
  pub gathered : (v w : View T) (held : List (ℕ × Option V)) (joined new : Seated V T) → joined ≡ (gathering v w, held)
      → looked made_by (step 0 0 0 0 none) joined 0 new
      → (log : List T) × (new ≡ (looking (gathering v w) log, held)) × Learns made_by v log
  gathered v w held joined new j (log, is, also, learns, _) = (
    log,
    is ∙ ap (λ (m : Seated V T). (looking m.0 log, m.1)) j,
    subst (λ (m : Seated V T). Learns made_by m.0 log) j learns,
  )

pub learns_twice : {T : Type 0} (made_by : T → Option ℕ) (u v : View T) (log : List T) → v.number ≡ u.number → Learns made_by u v.seen
    → Learns made_by v log → Learns made_by u log
learns_twice made_by u v log same (front, own_same) (further, then) = (
  prefix_trans u.seen v.seen log front further,
  subst (λ (n : ℕ). turns_by made_by n log ≡ turns_by made_by n v.seen) same then ∙ own_same,
)

module _ {V T : Type 0} (turns : V → List T) (made_by : T → Option ℕ) (sound : V → Type 0) where
  -- the slot has a value, which represents the history
  abbrev pub IsLast : View T → Option V → Type 0
  IsLast v None = 1 < 1
  IsLast v (Some x) = sound x × Learns made_by v (turns x) × IsUnmade made_by v.made (turns x)
      × All (λ p. IsPrefix p.1 (turns x) × (turns_by made_by p.0 (turns x) ≡ turns_by made_by p.0 p.1)) v.joined

  pub taken : (id : ℕ) (v : View T) (words : List ℕ) (slots : List (Option V)) (r : Option V)
      → Final (Seen (Holds turns made_by sound) id v) words slots → get_elem? slots 0 ≡ some r
      → 0 < v.made → v.passes ≡ v.made → v.stage ≡ 0 → IsLast v r
  taken id v words slots r (s, (h, at), _, _, same) there maker whole idle = let (
    x,
    full,
    fine,
    learns,
    unmade,
    joined,
  ) = closes turns made_by sound id v s h at maker whole idle in
      let is : Some x ≡ r = one_there slots 0 (Some x) r (same 0 (Some x) (ap (λ (hs : Homes V). get_elem? hs 0) full)) there in
      subst (IsLast v) is (fine, learns, unmade, joined)
