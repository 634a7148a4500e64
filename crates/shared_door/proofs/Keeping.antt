-- What a porch keeps when it opens (`opens`), and once its pass has seen more turns (`sees`), a connection was given (`enters`), one ended
-- (`leaves`), or it is over (`finishes`); what its parts show (`parts`). Whoever has a front that is over cites `over_later`.
use Rattle.std.proofs.Common.{◌≡◌, ℕ, ◌+◌, ◌≤◌, Bool, List, [], ◌∷◌, ◌++◌, map, length, All, Option, Some, None, inl, inr, refl, sym, ap, ◌∙◌, subst, arith, append_assoc, length-append}
use Rattle.std.proofs.lemmas.List.{map-append, append-nil}
use Rattle.std.proofs.lemmas.List.Elements.{All-nil, All-cons, All-append, All-weaker}
use mathlib.Core.List.{IsPrefix}
use Rattle.router_disk.specs.Faults.{Rose}
use Rattle.bus_host.specs.Doors.{Lengthened, Shortened, HasNone}
use Rattle.shared_door.specs.declared.acts.Arrival.{Arrival}
use Rattle.shared_door.specs.declared.acts.Visit.{Visit}
use Rattle.shared_door.specs.declared.acts.Act.{Act}
use Rattle.shared_door.specs.declared.acts.Act.TheVariants as act
use Rattle.shared_door.specs.declared.connection.Over.{Over}
use Rattle.shared_door.specs.declared.connection.Over.TheVariants.{Closed, Failed, Stopped}
use Rattle.shared_door.specs.declared.connection.Standing.{Standing}
use Rattle.std.specs.List.{AllPairs}
use Rattle.shared_door.specs.Tickets.{IsPlace, IsNew, HasOtherNumber}
use Rattle.shared_door.specs.Shown.{Shown, HasGiven}
use Rattle.shared_door.specs.Acts.{arrivals_of, visits_of, over_in, given_of, IsOver, numbered_of, ended_of, IsFit}
use Rattle.shared_door.specs.Acts as acted
use Rattle.shared_door.specs.Visits.{IsLeft, IsOneFewer, IsDone, Visited}
use Rattle.shared_door.specs.Porches.{PorchState, Keeps}

module _ {A : Type 0} where
  lengthened : (a b c : Option (List A)) (xs ys : List A) → Lengthened a b xs → Lengthened b c ys → Lengthened a c (xs ++ ys)
  lengthened None b c xs ys h k = record { in_order = tt }
  lengthened (Some o) None c xs ys h k = absurd h.in_order
  lengthened (Some o) (Some m) None xs ys h k = absurd k.in_order
  lengthened (Some o) (Some m) (Some n) xs ys h k = record { in_order = k.in_order ∙ (ap (λ (l : List A). l ++ ys) h.in_order ∙ append_assoc o xs ys) }

  shortened : (a b c : Option (List A)) (xs ys : List A) → Shortened a b xs → Shortened b c ys → Shortened a c (xs ++ ys)
  shortened None b c xs ys h k = record { in_order = tt }
  shortened (Some o) None c xs ys h k = absurd h.in_order
  shortened (Some o) (Some m) None xs ys h k = absurd k.in_order
  shortened (Some o) (Some m) (Some n) xs ys h k = record { in_order = h.in_order ∙ (ap (λ (l : List A). xs ++ l) k.in_order ∙ sym (append_assoc xs ys n)) }

  pub prefix_self : (xs : List A) → IsPrefix xs xs
  prefix_self xs = ([], append-nil xs)

  pub prefix_again : (a b c : List A) → IsPrefix a b → IsPrefix b c → IsPrefix a c
  prefix_again a b c (xs, one) (ys, two) = (xs ++ ys, sym (append_assoc a xs ys) ∙ (ap (λ (l : List A). l ++ ys) one ∙ two))

  -- the same list by one equation more
  pub prefix_to : (a b c : List A) → IsPrefix a b → b ≡ c → IsPrefix a c
  prefix_to a b c (xs, one) e = (xs, one ∙ e)

module _ {I O T : Type 0} where
  arrivals_more : (xs ys : List (Act I O T)) → arrivals_of (xs ++ ys) ≡ arrivals_of xs ++ arrivals_of ys
  arrivals_more [] ys = refl
  arrivals_more (act.Gave a ∷ xs) ys = ap (λ (l : List (Arrival I O T)). a ∷ l) (arrivals_more xs ys)
  arrivals_more (act.Ended v ∷ xs) ys = arrivals_more xs ys
  arrivals_more (act.Over o ∷ xs) ys = arrivals_more xs ys

  visits_more : (xs ys : List (Act I O T)) → visits_of (xs ++ ys) ≡ visits_of xs ++ visits_of ys
  visits_more [] ys = refl
  visits_more (act.Gave a ∷ xs) ys = visits_more xs ys
  visits_more (act.Ended v ∷ xs) ys = ap (λ (l : List (Visit I O T)). v ∷ l) (visits_more xs ys)
  visits_more (act.Over o ∷ xs) ys = visits_more xs ys

  over_more : (xs ys : List (Act I O T)) → over_in xs ≡ None → over_in (xs ++ ys) ≡ over_in ys
  over_more [] ys h = refl
  over_more (act.Gave a ∷ xs) ys h = over_more xs ys h
  over_more (act.Ended v ∷ xs) ys h = over_more xs ys h
  over_more (act.Over o ∷ xs) ys h = absurd (cc (h))

  over_stays : (xs ys : List (Act I O T)) (o : Over) → over_in xs ≡ Some o → over_in (xs ++ ys) ≡ Some o
  over_stays [] ys o h = absurd (cc (h))
  over_stays (act.Gave a ∷ xs) ys o h = over_stays xs ys o h
  over_stays (act.Ended v ∷ xs) ys o h = over_stays xs ys o h
  over_stays (act.Over p ∷ xs) ys o h = h

  -- a visit changes neither
  over_same : (xs : List (Act I O T)) (v : Visit I O T) → over_in (xs ++ act.Ended v ∷ []) ≡ over_in xs
  over_same [] v = refl
  over_same (act.Gave a ∷ xs) v = over_same xs v
  over_same (act.Ended w ∷ xs) v = over_same xs v
  over_same (act.Over o ∷ xs) v = refl

  -- the list of a front that is over
  pub over_later : (front whole : List (Act I O T)) → IsPrefix front whole → IsOver front → IsOver whole
  over_later front whole (more, is) (o, over) = (o, subst (λ (l : List (Act I O T)). over_in l ≡ Some o) is (over_stays front more o over))

one_left : (most : Option ℕ) (gave : ℕ) (left new : Option ℕ) → IsLeft most gave left → IsOneFewer left new → IsLeft most (gave + 1) new
one_left most gave None None h e = h
one_left most gave None (Some m) h e = absurd (cc)
one_left most gave (Some n) None h e = absurd e
one_left most gave (Some n) (Some m) h e = let s : gave + n ≡ gave + 1 + m = omega arith in h ∙ ap Some s

pub no_more : {A : Type 0} (a : Option (List A)) → Lengthened a a []
no_more None = record { in_order = tt }
no_more (Some l) = record { in_order = sym (append-nil l) }

pub no_fewer : {A : Type 0} (a : Option (List A)) → Shortened a a []
no_fewer None = record { in_order = tt }
no_fewer (Some l) = record { in_order = refl }

all_left : (left : Option ℕ) → IsLeft left 0 left
all_left None = refl
all_left (Some n) = let e : n ≡ 0 + n = omega arith in ap Some e

is_empty : {A : Type 0} (xs : List A) → length xs ≡ 0 → xs ≡ []
is_empty [] e = refl
is_empty (x ∷ xs) e = absurd (omega arith)

-- the door gave all that were to come, or all that it may
pub has_given : {A : Type 0} (start now : Option (List A)) (given : List A) → Shortened start now given → HasNone now → HasGiven start given
has_given None now given h none = tt
has_given (Some all) None given h none = absurd h.in_order
has_given (Some all) (Some left) given h none = h.in_order ∙ (ap (λ l. given ++ l) none ∙ append-nil given)

pub given_all : (most : Option ℕ) (gave : ℕ) (left : Option ℕ) → IsLeft most gave left → left ≡ Some 0 → most ≡ Some gave
given_all most gave None h e = absurd (cc (e))
given_all most gave (Some n) h e = let z : n ≡ 0 = cc (e) in let q : gave + n ≡ gave = omega arith in h ∙ ap Some q

pub rose_later : (a b c : ℕ) → a ≤ b → Rose b c → Rose a c
rose_later a b c le rose = omega arith

-- it is over by the act that was just added
pub over_now : {I O T : Type 0} (acts acts' : List (Act I O T)) (o : Over) → over_in acts ≡ None → acts' ≡ acts ++ act.Over o ∷ [] → over_in acts' ≡ Some o
over_now acts acts' o none is = ap over_in is ∙ over_more acts (act.Over o ∷ []) none

done_same : {I O : Type 0} (most : Option ℕ) (start old now : Shown I O) (gave : ℕ) (given given' : List (I × O)) → now.closed ≡ old.closed
    → given' ≡ given → IsDone most start old gave given → IsDone most start now gave given'
done_same most start old now gave given given' closed is (inl (said, all)) = inl (closed ∙ said, subst (HasGiven start.ahead) (sym is) all)
done_same most start old now gave given given' closed is (inr all) = inr all

module _ {I O T : Type 0} (fits : ℕ → I × O → I × O → Bool → List T → List T → Type 0)
    (lasts : (n : ℕ) (came went : I × O) (cut : Bool) (before turns more : List T) → fits n came went cut before turns → fits n came went cut before (turns ++ more)) where
  fit_later : (turns turns' : List T) → IsPrefix turns turns' → (v : Visit I O T) → IsFit fits turns v → IsFit fits turns' v
  fit_later turns turns' (more, is) v h = subst (λ (l : List T). IsFit fits l v) is
      (lasts v.number v.arrival.value.came.value v.went.value v.cut v.before.items turns more h)

  pub fits_later : (turns turns' : List T) → IsPrefix turns turns' → (visits : List (Visit I O T)) → All (IsFit fits turns) visits → All (IsFit fits turns') visits
  fits_later turns turns' pre visits all = All-weaker (IsFit fits turns) (IsFit fits turns') (fit_later turns turns' pre) visits all

module _ {I O T : Type 0} (most : Option ℕ) (start : Shown I O) (fits : ℕ → I × O → I × O → Bool → List T → List T → Type 0)
    (lasts : (n : ℕ) (came went : I × O) (cut : Bool) (before turns more : List T) → fits n came went cut before turns → fits n came went cut before (turns ++ more))
    (stops : List T → Type 0) (stays : (seen turns : List T) → IsPrefix seen turns → stops seen → stops turns) where
  abbrev State : Type 0
  State = PorchState I O T

  abbrev Tickets : Type 0
  Tickets = List (ℕ × Arrival I O T)

  abbrev KeepsAt : Shown I O → State → List (Arrival I O T) → Tickets → Type 0
  KeepsAt now p given back = Keeps most start now fits stops p given back

  abbrev at : Standing → List (Act I O T) → List T → State
  at s acts seen = record { standing = s; acts = acts; seen = seen }

  pub opens : (now : Shown I O) (left : Option ℕ) (acts : List (Act I O T)) (turns : List T) (given : List (Arrival I O T)) (back : Tickets)
      → now ≡ start → left ≡ most → acts ≡ [] → length given ≡ 0 → back ≡ []
      → KeepsAt now (at (record { gave = 0; left = left; over = None }) acts turns) given back
  opens now left acts turns given back shown all none empty fresh =
      subst (λ (n : Shown I O). KeepsAt n (at (record { gave = 0; left = left; over = None }) acts turns) given back) (sym shown)
      (subst (λ (l : List (Act I O T)). KeepsAt start (at (record { gave = 0; left = left; over = None }) l turns) given back) (sym none) record {
        gave = record {
          count = refl;
          left = subst (λ (m : Option ℕ). IsLeft m 0 left) all (all_left left);
          over_is = refl;
          given_is = no_more start.given;
          ahead_is = no_fewer start.ahead;
          gave_is = sym (append-nil start.gave);
          later = omega arith;
          failed = λ e. absurd (cc (e));
          closed = λ e. absurd (cc (e));
        };
        fit = All-nil (IsFit fits turns);
        given_is = is_empty given empty;
        tickets_are = fresh;
        ended_is = no_more start.ended;
        back_is = sym (append-nil start.took_back);
        seen = turns;
        order = acted.begins turns;
        reached = prefix_self turns;
        stopped = λ e. absurd (cc (e));
      })

  -- what its parts show at the end
  pub parts : (now : Shown I O) (p : State) (acts : List (Act I O T)) (given : List (Arrival I O T)) (back : Tickets) → KeepsAt now p given back → acts ≡ p.acts
      → All (IsPlace given) back → AllPairs HasOtherNumber back → Visited start now fits p.seen acts
  parts now p acts given back k is places numbers = subst (Visited start now fits p.seen) (sym is) record {
    fit = k.fit;
    places = subst (λ l. All (IsPlace l) (map numbered_of (visits_of p.acts))) k.given_is (subst (All (IsPlace given)) k.tickets_are places);
    numbers = subst (AllPairs HasOtherNumber) k.tickets_are numbers;
    ended_is = k.ended_is;
    back_is = k.back_is;
    seen = k.seen;
    order = k.order;
    reached = k.reached;
  }

  pub sees : (now : Shown I O) (s : Standing) (acts : List (Act I O T)) (turns turns' : List T) (given : List (Arrival I O T)) (back : Tickets)
      → KeepsAt now (at s acts turns) given back → IsPrefix turns turns' → KeepsAt now (at s acts turns') given back
  sees now s acts turns turns' given back k pre = record {
    gave = k.gave;
    fit = fits_later fits lasts turns turns' pre (visits_of acts) k.fit;
    given_is = k.given_is;
    tickets_are = k.tickets_are;
    ended_is = k.ended_is;
    back_is = k.back_is;
    seen = k.seen;
    order = k.order;
    reached = prefix_again k.seen turns turns' k.reached pre;
    stopped = λ e. stays turns turns' pre (k.stopped e);
  }

  pub enters : (old now : Shown I O) (turns : List T) (s : Standing) (left : Option ℕ) (acts acts' : List (Act I O T)) (given given' : List (Arrival I O T))
      (back back' : Tickets) (a : Arrival I O T) (pair : I × O)
      → KeepsAt old (at s acts turns) given back → s.over ≡ None
      → old.faults ≤ now.faults → Lengthened old.given now.given (pair ∷ []) → Shortened old.ahead now.ahead (pair ∷ []) → now.ended ≡ old.ended
      → now.gave ≡ old.gave ++ pair ∷ [] → now.took_back ≡ old.took_back
      → IsOneFewer s.left left → given' ≡ given ++ a ∷ [] → back' ≡ back → acts' ≡ acts ++ act.Gave a ∷ []
      → a.number ≡ s.gave + 1 → a.came.value ≡ pair → a.seen.items ≡ turns
      → KeepsAt now (at (record { gave = s.gave + 1; left = left; over = s.over }) acts' turns) given' back'
  enters old now turns s left acts acts' given given' back back' a pair k going later more fewer ended more' same one given_is back_is acts_is number came seen =
      let g = k.gave in
      let arrived : arrivals_of (acts ++ act.Gave a ∷ []) ≡ arrivals_of acts ++ a ∷ [] = arrivals_more acts (act.Gave a ∷ []) in
      let visited : visits_of (acts ++ act.Gave a ∷ []) ≡ visits_of acts = visits_more acts (act.Gave a ∷ []) ∙ append-nil (visits_of acts) in
      let none : over_in acts ≡ None = sym g.over_is ∙ going in
      let shown : given_of (acts ++ act.Gave a ∷ []) ≡ given_of acts ++ pair ∷ [] =
      ap (λ l. map (λ a. a.came.value) l) arrived ∙ (map-append (λ a. a.came.value) (arrivals_of acts) (a ∷ []) ∙ ap (λ (p : I × O). given_of acts ++ p ∷ []) came) in
      subst (λ (l : List (Act I O T)). KeepsAt now (at (record { gave = s.gave + 1; left = left; over = s.over }) l turns) given' back') (sym acts_is) record {
        gave = record {
          count = let e = ap length arrived in let f = length-append (arrivals_of acts) (a ∷ []) in let h = g.count in omega arith;
          left = one_left most s.gave s.left left g.left one;
          over_is = going ∙ sym (over_more acts (act.Gave a ∷ []) none);
          given_is = subst (Lengthened start.given now.given) (sym shown) (lengthened start.given old.given now.given (given_of acts) (pair ∷ []) g.given_is more);
          ahead_is = subst (Shortened start.ahead now.ahead) (sym shown) (shortened start.ahead old.ahead now.ahead (given_of acts) (pair ∷ []) g.ahead_is fewer);
          gave_is = more' ∙ (ap (λ (l : List (I × O)). l ++ pair ∷ []) g.gave_is ∙ (append_assoc start.gave (given_of acts) (pair ∷ []) ∙ ap (λ (l : List (I × O)). start.gave ++ l) (sym shown)));
          later = let h = g.later in omega arith;
          failed = λ e. absurd (cc (e, going));
          closed = λ e. absurd (cc (e, going));
        };
        fit = subst (All (IsFit fits turns)) (sym visited) k.fit;
        given_is = given_is ∙ (ap (λ (l : List (Arrival I O T)). l ++ a ∷ []) k.given_is ∙ sym arrived);
        tickets_are = back_is ∙ (k.tickets_are ∙ ap (map numbered_of) (sym visited));
        ended_is = subst (λ e. Lengthened start.ended e (map ended_of (visits_of (acts ++ act.Gave a ∷ [])))) (sym ended)
            (subst (λ l. Lengthened start.ended old.ended (map ended_of l)) (sym visited) k.ended_is);
        back_is = same ∙ (k.back_is ∙ ap (λ l. start.took_back ++ map ended_of l) (sym visited));
        seen = a.seen.items;
        order = acted.gives acts k.seen a k.order none (let h = g.count in omega (arith, number)) (prefix_to k.seen turns a.seen.items k.reached (sym seen));
        reached = prefix_to a.seen.items a.seen.items turns (prefix_self a.seen.items) seen;
        stopped = λ e. absurd (cc (e, going));
      }

  -- it is over, for a reason that holds
  pub finishes : (old now : Shown I O) (turns : List T) (s s' : Standing) (acts acts' : List (Act I O T)) (given : List (Arrival I O T)) (back : Tickets) (o : Over)
      → KeepsAt old (at s acts turns) given back → s.over ≡ None
      → old.faults ≤ now.faults → now.ended ≡ old.ended → now.took_back ≡ old.took_back
      → Lengthened old.given now.given [] → Shortened old.ahead now.ahead [] → now.gave ≡ old.gave
      → s' ≡ record s { over = Some o } → acts' ≡ acts ++ act.Over o ∷ []
      → (o ≡ Failed → Rose start.faults now.faults) → (o ≡ Closed → IsDone most start now s.gave (given_of acts)) → (o ≡ Stopped → stops turns)
      → KeepsAt now (at s' acts' turns) given back
  finishes old now turns s s' acts acts' given back o k going later ended same more fewer gave is acts_is failed closed stopped =
      let g = k.gave in
      let arrived : arrivals_of (acts ++ act.Over o ∷ []) ≡ arrivals_of acts = arrivals_more acts (act.Over o ∷ []) ∙ append-nil (arrivals_of acts) in
      let visited : visits_of (acts ++ act.Over o ∷ []) ≡ visits_of acts = visits_more acts (act.Over o ∷ []) ∙ append-nil (visits_of acts) in
      let none : over_in acts ≡ None = sym g.over_is ∙ going in
      let shown : given_of (acts ++ act.Over o ∷ []) ≡ given_of acts = ap (λ l. map (λ a. a.came.value) l) arrived in
      let longer : Lengthened start.given now.given (given_of acts) = subst (Lengthened start.given now.given) (append-nil (given_of acts))
      (lengthened start.given old.given now.given (given_of acts) [] g.given_is more) in
      let shorter : Shortened start.ahead now.ahead (given_of acts) = subst (Shortened start.ahead now.ahead) (append-nil (given_of acts))
      (shortened start.ahead old.ahead now.ahead (given_of acts) [] g.ahead_is fewer) in
      subst (λ (r : Standing). KeepsAt now (at r acts' turns) given back) (sym is)
      (subst (λ (l : List (Act I O T)). KeepsAt now (at (record s { over = Some o }) l turns) given back) (sym acts_is) record {
        gave = record {
          count = ap length arrived ∙ g.count;
          left = g.left;
          over_is = sym (over_more acts (act.Over o ∷ []) none);
          given_is = subst (Lengthened start.given now.given) (sym shown) longer;
          ahead_is = subst (Shortened start.ahead now.ahead) (sym shown) shorter;
          gave_is = gave ∙ (g.gave_is ∙ ap (λ (l : List (I × O)). start.gave ++ l) (sym shown));
          later = let h = g.later in omega arith;
          failed = λ e. failed (cc (e));
          closed = λ e. subst (IsDone most start now s.gave) (sym shown) (closed (cc (e)));
        };
        fit = subst (All (IsFit fits turns)) (sym visited) k.fit;
        given_is = k.given_is ∙ sym arrived;
        tickets_are = k.tickets_are ∙ ap (map numbered_of) (sym visited);
        ended_is = subst (λ e. Lengthened start.ended e (map ended_of (visits_of (acts ++ act.Over o ∷ [])))) (sym ended)
            (subst (λ l. Lengthened start.ended old.ended (map ended_of l)) (sym visited) k.ended_is);
        back_is = same ∙ (k.back_is ∙ ap (λ l. start.took_back ++ map ended_of l) (sym visited));
        seen = k.seen;
        order = acted.closes acts k.seen o k.order none;
        reached = k.reached;
        stopped = λ e. stopped (cc (e));
      })

  pub leaves : (old now : Shown I O) (turns : List T) (s : Standing) (acts acts' : List (Act I O T)) (given given' : List (Arrival I O T)) (back back' : Tickets)
      (v : Visit I O T) (n : ℕ) (a : Arrival I O T) (went : I × O)
      → KeepsAt old (at s acts turns) given back
      → now.faults ≡ old.faults → now.given ≡ old.given → now.ahead ≡ old.ahead → now.gave ≡ old.gave → now.closed ≡ old.closed
      → Lengthened old.ended now.ended (record { input = went.0; output = went.1; cut = v.cut } ∷ [])
      → now.took_back ≡ old.took_back ++ record { input = went.0; output = went.1; cut = v.cut } ∷ []
      → given' ≡ given → back' ≡ back ++ (n, a) ∷ [] → acts' ≡ acts ++ act.Ended v ∷ []
      → IsPlace given (n, a) → IsNew back n
      → v.number ≡ n → v.arrival.value ≡ a → v.went.value ≡ went → v.seen.items ≡ turns
      → IsPrefix a.seen.items v.before.items → fits n a.came.value went v.cut v.before.items turns
      → KeepsAt now (at s acts' turns) given' back'
  leaves old now turns s acts acts' given given' back back' v n a went k faults shown ahead gave closed more took given_is back_is acts_is place new number_is came_is went_is seen_is after fit =
      let g = k.gave in let visits = visits_of acts in let all = acts ++ act.Ended v ∷ [] in
      let arrived : arrivals_of all ≡ arrivals_of acts = arrivals_more acts (act.Ended v ∷ []) ∙ append-nil (arrivals_of acts) in
      let visited : visits_of all ≡ visits ++ v ∷ [] = visits_more acts (act.Ended v ∷ []) in
      let given_same : given_of all ≡ given_of acts = ap (λ l. map (λ a. a.came.value) l) arrived in
      let is : (n, a) ≡ numbered_of v = λ i. (sym number_is i, sym came_is i) in
      let ends : record { input = went.0; output = went.1; cut = v.cut } ≡ ended_of v = λ i. record { input = (sym went_is i).0; output = (sym went_is i).1; cut = v.cut } in
      let here : IsPlace (arrivals_of acts) (numbered_of v) = subst (IsPlace (arrivals_of acts)) is (subst (λ l. IsPlace l (n, a)) k.given_is place) in
      let fresh : IsNew (map numbered_of visits) v.number = subst (IsNew (map numbered_of visits)) (sym number_is) (subst (λ l. IsNew l n) k.tickets_are new) in
      let fit_now : IsFit fits turns v = subst (λ (m : ℕ). fits m v.arrival.value.came.value v.went.value v.cut v.before.items turns) (sym number_is)
      (subst (λ (b : Arrival I O T). fits n b.came.value v.went.value v.cut v.before.items turns) (sym came_is)
      (subst (λ (x : I × O). fits n a.came.value x v.cut v.before.items turns) (sym went_is) fit)) in
      subst (λ (l : List (Act I O T)). KeepsAt now (at s l turns) given' back') (sym acts_is) record {
        gave = record {
          count = ap length arrived ∙ g.count;
          left = g.left;
          over_is = g.over_is ∙ sym (over_same acts v);
          given_is = subst (Lengthened start.given now.given) (sym given_same) (subst (λ e. Lengthened start.given e (given_of acts)) (sym shown) g.given_is);
          ahead_is = subst (Shortened start.ahead now.ahead) (sym given_same) (subst (λ e. Shortened start.ahead e (given_of acts)) (sym ahead) g.ahead_is);
          gave_is = gave ∙ (g.gave_is ∙ ap (λ (l : List (I × O)). start.gave ++ l) (sym given_same));
          later = let h = g.later in omega arith;
          failed = λ e. subst (Rose start.faults) (sym faults) (g.failed e);
          closed = λ e. done_same most start old now s.gave (given_of acts) (given_of all) closed given_same (g.closed e);
        };
        fit = subst (All (IsFit fits turns)) (sym visited) (All-append (IsFit fits turns) visits (v ∷ []) k.fit (All-cons (IsFit fits turns) v [] fit_now (All-nil (IsFit fits turns))));
        given_is = given_is ∙ (k.given_is ∙ sym arrived);
        tickets_are = back_is ∙ ((λ i. k.tickets_are i ++ is i ∷ []) ∙ (sym (map-append numbered_of visits (v ∷ [])) ∙ ap (map numbered_of) (sym visited)));
        ended_is = subst (λ l. Lengthened start.ended now.ended (map ended_of l)) (sym visited)
            (subst (Lengthened start.ended now.ended) (sym (map-append ended_of visits (v ∷ [])))
            (lengthened start.ended old.ended now.ended (map ended_of visits) (ended_of v ∷ []) k.ended_is
            (subst (λ e. Lengthened old.ended now.ended (e ∷ [])) ends more)));
        back_is = took ∙ ((λ i. k.back_is i ++ ends i ∷ []) ∙ (append_assoc start.took_back (map ended_of visits) (ended_of v ∷ [])
            ∙ (ap (λ l. start.took_back ++ l) (sym (map-append ended_of visits (v ∷ []))) ∙ ap (λ l. start.took_back ++ map ended_of l) (sym visited))));
        seen = v.seen.items;
        order = acted.ends acts k.seen v k.order here fresh (subst (λ (b : Arrival I O T). IsPrefix b.seen.items v.before.items) (sym came_is) after)
            (subst (λ (l : List T). IsFit fits l v) (sym seen_is) fit_now) (prefix_to k.seen turns v.seen.items k.reached (sym seen_is));
        reached = prefix_to v.seen.items v.seen.items turns (prefix_self v.seen.items) seen_is;
        stopped = k.stopped;
      }
