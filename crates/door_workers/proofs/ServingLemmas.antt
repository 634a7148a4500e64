-- From what a porch kept to what the caller's pass knows: `has_served`, `door_failed`. A longer history: `served_later`. A pass that learns
-- more: `learns_again`, `same_again`, and has nothing open: `newcomer_rests`, `resting_again`. What a worker did: `worked_new`, `worked_later`,
-- `worked_still`, `worked_more`, `worked_on`, `ended_now`, `same_session`; what all did: `crew_none`, `crew_on`, `all_done`. Numbers: `numbers_more`,
-- `distinct_more`, `below_more`.
use Rattle.std.proofs.Common.{◌≡◌, ◌≢◌, ◌⊎◌, ◌+◌, ◌<◌, ◌≤◌, ℕ, zero, suc, Bool, List, [], ◌∷◌, ◌++◌, All, Contains, get_or, length, map, reverse, take, refl, Option, inl, inr, ⊎_elim, sym, ap, ◌∙◌, subst, arith, append_assoc}
use Rattle.std.proofs.lemmas.List.{map-append, reverse-append, reverse-reverse}
use Rattle.std.proofs.lemmas.List.Elements.{All-nil, All-more, All-push, All-weaker, Contains-append_left, Contains-push}
use Rattle.std.proofs.lemmas.List.Sorted.{IsPermutation-reverse, Contains-permutation, All-permutation}
use Rattle.std.specs.List.{AllPairs}
use mathlib.Core.List.{IsPrefix}
use Rattle.atomic_table.specs.declared.shared.Seat.{Seat}
use Rattle.router_disk.specs.Faults.{Rose}
use Rattle.turn_book.specs.declared.view.View.{View}
use Rattle.turn_book.specs.Rule.{Learns, newcomer, turns_by}
use Rattle.turn_book.specs.Passes.{known_by, IsSamePass, HasSameTurn}
use Rattle.atomic_table.specs.Seated.{TableId}
use Rattle.shared_door.specs.declared.connection.Standing.{Standing}
use Rattle.shared_door.specs.declared.acts.Act.{Act}
use Rattle.shared_door.specs.declared.acts.Act.TheVariants as act
use Rattle.shared_door.specs.declared.acts.Visit.{Visit}
use Rattle.shared_door.specs.Shown.{Shown}
use Rattle.shared_door.specs.Acts.{visits_of, over_in}
use Rattle.shared_door.specs.declared.connection.Over.TheVariants.{Closed, Failed, Stopped}
use Rattle.shared_door.specs.declared.connection.Knocked.{Knocked}
use Rattle.shared_door.specs.declared.connection.Knocked.TheVariants as knocked
use Rattle.shared_door.specs.Porches.{PorchState}
use Rattle.shared_door.specs.Knocks.{Knocks}
use Rattle.shared_door.specs.Visits.{Gave, Visited}
use Rattle.shared_door.proofs.Keeping.{prefix_again, fits_later}
use Rattle.shared_door.proofs.Steps.{pairs_more}
use Rattle.shared_door.proofs.RestLemmas.{still_rests}
use Rattle.door_workers.specs.declared.door.DoorEnd.{DoorEnd}
use Rattle.door_workers.specs.declared.door.DoorEnd.TheVariants.{DoorFault}
use Rattle.door_workers.specs.Serving.{over_of, IsIdlePass, IsRestingPass, HasServed, IsKnocked, Session, session_of, IsAmong, Worked, hired_as, known_of, HasWorked, IsWorker, HasCrew, IsGathered, AreDone}

module _ {T : Type 0} where
  -- a pass, whose number stays, learns more and then more
  pub learns_again : (made_by : T → Option ℕ) (old mid : View T) (new : List T) → mid.number ≡ old.number → Learns made_by old mid.seen
      → Learns made_by mid new → Learns made_by old new
  learns_again made_by old mid new number (one, same) (two, still) =
      (prefix_again old.seen mid.seen new one two, subst (λ (n : ℕ). turns_by made_by n new ≡ turns_by made_by n mid.seen) number still ∙ same)

-- the first part of a list, if another one follows
taken : {X : Type 0} (ws rest : List X) → take (length ws) (ws ++ rest) ≡ ws
taken [] rest = refl
taken (w ∷ ws) rest = ap (λ l. w ∷ l) (taken ws rest)

pub taken_is : {X : Type 0} (n : ℕ) (ws rest : List X) → n ≡ length ws → take n (ws ++ rest) ≡ ws
taken_is n ws rest is = ap (λ k. take k (ws ++ rest)) is ∙ taken ws rest

pub all_taken : {X : Type 0} (P : X → Type 0) (n : ℕ) (ws rest : List X) → n ≡ length ws → All P ws → All P (take n (ws ++ rest))
all_taken P n ws rest is all = subst (All P) (sym (ap (λ k. take k (ws ++ rest)) is ∙ taken ws rest)) all

module _ {V T : Type 0} where
  -- one pass at three times
  pub same_again : (first mid last : Seat (Option V) (View T)) → IsSamePass first mid → IsSamePass mid last → IsSamePass first last
  same_again first mid last (t, n, p, m) (t2, n2, p2, m2) = (t2 ∙ t, n2 ∙ n, p2 ∙ p, m2 ∙ m)

module _ {V T : Type 0} (made_by : T → Option ℕ) (rests : ℕ → List T → Type 0) where
  -- a new pass has nothing open
  pub newcomer_rests : (unturned : (n : ℕ) (turns : List T) → turns_by made_by n turns ≡ [] → rests n turns) (hall : TableId) (seat : Seat (Option V) (View T))
      (n : ℕ) (seen : List T) → IsIdlePass hall seat → seat.me.0 ≡ newcomer n seen → turns_by made_by n seen ≡ [] → IsRestingPass rests hall seat
  newcomer_rests unturned hall seat n seen idle new none =
      (idle, subst (λ (v : View T). rests v.number v.seen) (sym new) (unturned n seen none))

  -- an idle pass that has nothing open, once it learned more
  pub resting_again : (keeps : (n : ℕ) (seen turns : List T) → IsPrefix seen turns → turns_by made_by n turns ≡ turns_by made_by n seen → rests n seen → rests n turns)
      (hall : TableId) (old new : Seat (Option V) (View T)) → IsSamePass old new → HasSameTurn old new → Learns made_by old.me.0 new.me.0.seen
      → IsRestingPass rests hall old → IsRestingPass rests hall new
  resting_again keeps hall old new (table, number, _, _) (stage, _, held) learns ((here, (free, none)), rested) =
      ((table ∙ here, (stage ∙ free, held ∙ none)), still_rests made_by rests keeps old.me.0 new.me.0 number learns rested)

module _ {I O T : Type 0} (fits : ℕ → I × O → I × O → Bool → List T → List T → Type 0)
    (lasts : (n : ℕ) (came went : I × O) (cut : Bool) (before turns more : List T) → fits n came went cut before turns → fits n came went cut before (turns ++ more)) where
  -- the visits fit each longer history
  pub visited_later : (start now : Shown I O) (turns turns' : List T) (acts : List (Act I O T)) → IsPrefix turns turns'
      → Visited start now fits turns acts → Visited start now fits turns' acts
  visited_later start now turns turns' acts pre v = record {
    fit = fits_later fits lasts turns turns' pre (visits_of acts) v.fit;
    places = v.places;
    numbers = v.numbers;
    ended_is = v.ended_is;
    back_is = v.back_is;
    seen = v.seen;
    order = v.order;
    reached = prefix_again v.seen turns turns' v.reached pre;
  }

  pub has_served : (most : Option ℕ) (start now : Shown I O) (standing : Standing) (end : DoorEnd) (turns turns' : List T) (acts : List (Act I O T))
      → standing.over ≡ over_of end → Gave most start now standing acts
      → Visited start now fits turns acts → IsPrefix turns turns' → HasServed most start now fits turns' end
  has_served most start now standing end turns turns' acts over gave visited pre = record {
    standing = standing;
    over_is = over;
    acts = acts;
    gave = gave;
    visited = visited_later start now turns turns' acts pre visited;
  }

  pub served_later : (most : Option ℕ) (start now : Shown I O) (turns turns' : List T) (end : DoorEnd) → HasServed most start now fits turns end
      → IsPrefix turns turns' → HasServed most start now fits turns' end
  served_later most start now turns turns' end h pre =
      has_served most start now h.standing end turns turns' h.acts h.over_is h.gave h.visited pre

module _ {I O T : Type 0} where
  pub door_failed : (most : Option ℕ) (start now : Shown I O) (standing : Standing) (end : DoorEnd) (acts : List (Act I O T)) → standing.over ≡ over_of end
      → Gave most start now standing acts → end ≡ DoorFault → Rose start.faults now.faults
  door_failed most start now standing end acts over gave is = gave.failed (over ∙ ap over_of is)

module _ {I O T : Type 0} where
  visits_more : (xs ys : List (Act I O T)) → visits_of (xs ++ ys) ≡ visits_of xs ++ visits_of ys
  visits_more [] ys = refl
  visits_more (act.Gave a ∷ xs) ys = visits_more xs ys
  visits_more (act.Ended v ∷ xs) ys = ap (λ (l : List (Visit I O T)). v ∷ l) (visits_more xs ys)
  visits_more (act.Over o ∷ xs) ys = visits_more xs ys

  sessions_more : (xs ys : List (Act I O T)) → map session_of (visits_of (xs ++ ys)) ≡ map session_of (visits_of xs) ++ map session_of (visits_of ys)
  sessions_more xs ys = ap (map session_of) (visits_more xs ys) ∙ map-append session_of (visits_of xs) (visits_of ys)

  pub among_later : (front whole : List (Act I O T)) → IsPrefix front whole → (s : Session I O T) → IsAmong front s → IsAmong whole s
  among_later front whole (more, is) s there = subst (λ (l : List (Act I O T)). IsAmong l s) is
      (subst (λ (l : List (Session I O T)). Contains l s) (sym (sessions_more front more))
      (Contains-append_left (map session_of (visits_of front)) (map session_of (visits_of more)) s there))

  all_later : (front whole : List (Act I O T)) → IsPrefix front whole → (ss : List (Session I O T)) → All (IsAmong front) ss → All (IsAmong whole) ss
  all_later front whole pre ss all = All-weaker (IsAmong front) (IsAmong whole) (among_later front whole pre) ss all

  -- the session of a connection that has just ended
  pub ended_now : (old whole : List (Act I O T)) (v : Visit I O T) (s : Session I O T) → whole ≡ old ++ act.Ended v ∷ [] → s ≡ session_of v → IsAmong whole s
  ended_now old whole v s is same = subst (λ (l : List (Act I O T)). IsAmong l s) (sym is)
      (subst (λ (l : List (Session I O T)). Contains l s) (sym (sessions_more old (act.Ended v ∷ [])))
      (subst (Contains (map session_of (visits_of old) ++ session_of v ∷ [])) (sym same) (Contains-push (map session_of (visits_of old)) (session_of v))))

  abbrev pub session : ℕ → ℕ → I × O → I × O → Bool → List T → Session I O T
  session number pass came went cut before = record { number = number; pass = pass; came = came; went = went; cut = cut; before = before }

  pub same_session : (n m p q : ℕ) (came came' went went' : I × O) (cut cut' : Bool) (before before' : List T) → m ≡ n → q ≡ p → came' ≡ came → went' ≡ went → cut' ≡ cut
      → before' ≡ before → session n p came went cut before ≡ session m q came' went' cut' before'
  same_session n m p q came came' went went' cut cut' before before' a f b c d e = cc (a, f, b, c, d, e)

module _ {I O T Own : Type 0} (did : ℕ → Own → Own → List (Session I O T) → List T → Type 0) where
  -- none ended yet
  pub crew_none : (acts : List (Act I O T)) (owns : List Own) (passes : List (ℕ × List T)) → owns ≡ [] → passes ≡ [] → HasCrew did acts [] owns passes
  crew_none acts owns passes one two = record { crew = []; each = All-nil (IsWorker did acts); hired_are = refl; owns_are = sym one; passes_are = sym two }

module _ {I O T Own V : Type 0} (did : ℕ → Own → Own → List (Session I O T) → List T → Type 0) (made_by : T → Option ℕ) where
  -- a worker that has not begun
  pub worked_new : (unturned : (n : ℕ) (lent : Own) (turns : List T) → turns_by made_by n turns ≡ [] → did n lent lent [] turns) (acts : List (Act I O T))
      (seat : Seat (Option V) (View T)) (lent now : Own) → turns_by made_by seat.me.0.number seat.me.0.seen ≡ [] → lent ≡ now → HasWorked did acts seat lent now
  worked_new unturned acts seat lent now none same = record {
    sessions = [];
    among = All-nil (IsAmong acts);
    did_so = subst (λ (o : Own). did seat.me.0.number lent o [] seat.me.0.seen) same (unturned seat.me.0.number lent seat.me.0.seen none);
  }

  -- its pass, whose number stays, learned more
  pub worked_later : (lasts : (n : ℕ) (lent now : Own) (sessions : List (Session I O T)) (seen turns : List T) → IsPrefix seen turns
      → turns_by made_by n turns ≡ turns_by made_by n seen → did n lent now sessions seen → did n lent now sessions turns) (acts : List (Act I O T))
      (old new : Seat (Option V) (View T)) (lent now : Own) → new.me.0.number ≡ old.me.0.number → Learns made_by old.me.0 new.me.0.seen
      → HasWorked did acts old lent now → HasWorked did acts new lent now
  worked_later lasts acts old new lent now number (longer, same) h = record {
    sessions = h.sessions;
    among = h.among;
    did_so = subst (λ (n : ℕ). did n lent now h.sessions new.me.0.seen) (sym number)
        (lasts old.me.0.number lent now h.sessions old.me.0.seen new.me.0.seen longer same h.did_so);
  }

  -- the porch did more
  pub worked_still : (front whole : List (Act I O T)) → IsPrefix front whole → (seat : Seat (Option V) (View T)) (lent now : Own) → HasWorked did front seat lent now
      → HasWorked did whole seat lent now
  worked_still front whole pre seat lent now h = record { sessions = h.sessions; among = all_later front whole pre h.sessions h.among; did_so = h.did_so }

  -- it served one more session
  pub worked_more : (front whole : List (Act I O T)) → IsPrefix front whole → (old mid : Seat (Option V) (View T)) (lent was now : Own) (s : Session I O T)
      → mid.me.0.number ≡ old.me.0.number → HasWorked did front old lent was
      → ((lent : Own) (sessions : List (Session I O T)) → did old.me.0.number lent was sessions old.me.0.seen
      → did old.me.0.number lent now (sessions ++ s ∷ []) mid.me.0.seen) → IsAmong whole s → HasWorked did whole mid lent now
  worked_more front whole pre old mid lent was now s number h does there = record {
    sessions = h.sessions ++ s ∷ [];
    among = All-push (IsAmong whole) h.sessions s (all_later front whole pre h.sessions h.among) there;
    did_so = subst (λ (n : ℕ). did n lent now (h.sessions ++ s ∷ []) mid.me.0.seen) (sym number) (does lent h.sessions h.did_so);
  }

  -- it served no session
  pub worked_on : (acts : List (Act I O T)) (old new : Seat (Option V) (View T)) (lent was now : Own) → new.me.0.number ≡ old.me.0.number
      → HasWorked did acts old lent was
      → ((lent : Own) (sessions : List (Session I O T)) → did old.me.0.number lent was sessions old.me.0.seen
      → did old.me.0.number lent now sessions new.me.0.seen) → HasWorked did acts new lent now
  worked_on acts old new lent was now number h does = record {
    sessions = h.sessions;
    among = h.among;
    did_so = subst (λ (n : ℕ). did n lent now h.sessions new.me.0.seen) (sym number) (does lent h.sessions h.did_so);
  }

  -- one more worker ended
  crew_more : (acts : List (Act I O T)) (hired : List (ℕ × Own)) (owns : List Own) (passes : List (ℕ × List T)) (seat : Seat (Option V) (View T))
      (lent now : Own) → HasCrew did acts hired owns passes → HasWorked did acts seat lent now
      → HasCrew did acts (hired ++ (seat.me.0.number, lent) ∷ []) (owns ++ now ∷ []) (passes ++ known_by seat ∷ [])
  crew_more acts hired owns passes seat lent now h w =
      let one : Worked I O T Own = record { number = seat.me.0.number; lent = lent; now = now; sessions = w.sessions; seen = seat.me.0.seen } in record {
        crew = h.crew ++ one ∷ [];
        each = All-push (IsWorker did acts) h.crew one h.each record { among = w.among; did_so = w.did_so };
        hired_are = map-append hired_as h.crew (one ∷ []) ∙ ap (λ (l : List (ℕ × Own)). l ++ hired_as one ∷ []) h.hired_are;
        owns_are = map-append (λ w. w.now) h.crew (one ∷ []) ∙ ap (λ (l : List Own). l ++ now ∷ []) h.owns_are;
        passes_are = map-append known_of h.crew (one ∷ []) ∙ ap (λ (l : List (ℕ × List T)). l ++ known_of one ∷ []) h.passes_are;
      }

  pub crew_on : (acts : List (Act I O T)) (hired : List (ℕ × Own)) (owns owns' : List Own) (passes passes' : List (ℕ × List T)) (old new : Seat (Option V) (View T))
      (lent now : Own) → HasCrew did acts hired owns passes → HasWorked did acts new lent now → new.me.0.number ≡ old.me.0.number → owns' ≡ owns ++ now ∷ []
      → passes' ≡ passes ++ known_by new ∷ [] → HasCrew did acts (hired ++ (old.me.0.number, lent) ∷ []) owns' passes'
  crew_on acts hired owns owns' passes passes' old new lent now h w number one two =
      subst (λ (n : ℕ). HasCrew did acts (hired ++ (n, lent) ∷ []) owns' passes') number
      (subst (λ (os : List Own). HasCrew did acts (hired ++ (new.me.0.number, lent) ∷ []) os passes') (sym one)
      (subst (HasCrew did acts (hired ++ (new.me.0.number, lent) ∷ []) (owns ++ now ∷ [])) (sym two) (crew_more acts hired owns passes new lent now h w)))

module _ {D T I O : Type 0} where
  -- what a knock returned, once the worker's pass has seen what the porch's had
  pub is_knocked : (tickets : TableId) (name : ℕ) (old new : PorchState I O T) (seen : List T) (k : Knocked D T I O) → Knocks tickets name old new k
      → IsPrefix new.seen seen → IsKnocked tickets name seen k
  is_knocked tickets name old new seen (knocked.Conn c) (_, _, _, _, _, came, own, is, _) pre = (own, came, subst (λ (l : List T). IsPrefix l seen) (sym is) pre)
  is_knocked tickets name old new seen knocked.Quiet h pre = tt
  is_knocked tickets name old new seen knocked.NoMemory h pre = tt
  is_knocked tickets name old new seen (knocked.Closed f) (_, _, over) pre = (over.name_is, (Closed, ap over_in over.acts_are ∙ over.over_is))
  is_knocked tickets name old new seen (knocked.Failed f) (_, _, over) pre = (over.name_is, (Failed, ap over_in over.acts_are ∙ over.over_is))
  is_knocked tickets name old new seen (knocked.Stopped f) (_, _, over) pre = (over.name_is, (Stopped, ap over_in over.acts_are ∙ over.over_is))

-- the image of a list that got one more item
pub mapped : {A B : Type 0} (f : A → B) (old new : List A) (a : A) → new ≡ old ++ a ∷ [] → map f new ≡ map f old ++ f a ∷ []
mapped f old new a is = ap (map f) is ∙ map-append f old (a ∷ [])

pub is_empty : {A : Type 0} (xs : List A) → length xs ≡ 0 → xs ≡ []
is_empty [] e = refl
is_empty (x ∷ xs) e = absurd (omega arith)

-- the last item of what is left is next, if all is what is left and then what was taken
pub popped : {A : Type 0} (whole left rest gone : List A) (a : A) → whole ≡ left ++ reverse gone → left ≡ rest ++ a ∷ [] → whole ≡ rest ++ reverse (gone ++ a ∷ [])
popped whole left rest gone a is last = is ∙ ap (λ l. l ++ reverse gone) last ∙ append_assoc rest (a ∷ []) (reverse gone)
    ∙ ap (λ l. rest ++ l) (sym (reverse-append gone (a ∷ [])))

pub taken_all : {A : Type 0} (whole left gone : List A) → whole ≡ left ++ reverse gone → left ≡ [] → gone ≡ reverse whole
taken_all whole left gone is none = sym (ap reverse (is ∙ ap (λ l. l ++ reverse gone) none) ∙ reverse-reverse gone)

pub numbers_more : (first made made' : ℕ) (xs xs' : List ℕ) → made' ≡ made + 1 → xs' ≡ xs ++ made ∷ [] → ((n : ℕ) → first ≤ n → n < made → Contains xs n)
    → (n : ℕ) → first ≤ n → n < made' → Contains xs' n
numbers_more first made made' xs xs' more is all = λ n low high. subst (λ (l : List ℕ). Contains l n) (sym is)
    (⊎_elim (λ (e : n ≡ made). subst (λ (m : ℕ). Contains (xs ++ made ∷ []) m) (sym e) (Contains-push xs made))
    (λ (lt : n < made). Contains-append_left xs (made ∷ []) n (all n low lt)) (last_or_before n (omega (arith, high, more)))) where
      last_or_before : (n : ℕ) → n < made + 1 → (n ≡ made) ⊎ (n < made)
      last_or_before n lt = grind arith

-- fronts that are each in the longest, once this is longer and has one more
pub longest_more : {W A : Type 0} (f : W → List A) (ws : List W) (i : ℕ) (d : W) (old new : List A) → i < length ws → All (λ w. IsPrefix (f w) old) (take i ws)
    → IsPrefix old new → IsPrefix (f (get_or ws i d)) new → All (λ w. IsPrefix (f w) new) (take (i + 1) ws)
longest_more f ws i d old new lt all longer one = All-more (λ w. IsPrefix (f w) new) ws i d lt
    (All-weaker (λ w. IsPrefix (f w) old) (λ w. IsPrefix (f w) new) (λ w p. prefix_again (f w) old new p longer) (take i ws) all) one

take_whole : {X : Type 0} (n : ℕ) (xs : List X) → length xs ≤ n → take n xs ≡ xs
take_whole zero [] le = refl
take_whole (suc n) [] le = refl
take_whole zero (x ∷ xs) le = absurd (omega arith)
take_whole (suc n) (x ∷ xs) le = ap (λ l. x ∷ l) (take_whole n xs (omega arith))

pub all_whole : {X : Type 0} (P : X → Type 0) (n : ℕ) (xs : List X) → length xs ≤ n → All P (take n xs) → All P xs
all_whole P n xs le all = subst (All P) (take_whole n xs le) all

abbrev pub pair_of : {A B : Type 0} → A → B → A × B
pair_of a b = (a, b)

pub same_pair : {A B : Type 0} (a a' : A) (b b' : B) → a ≡ a' → b ≡ b' → pair_of a b ≡ pair_of a' b'
same_pair a a' b b' one two = cc (one, two)

-- two lists with the same image at each place
pub same_images : {A B : Type 0} (f : A → B) (xs ys : List A) → length xs ≡ length ys
    → ((k : ℕ) (d : A) → k < length ys → f (get_or xs k d) ≡ f (get_or ys k d)) → map f xs ≡ map f ys
same_images f [] [] same each = refl
same_images f [] (y ∷ ys) same each = absurd (omega arith)
same_images f (x ∷ xs) [] same each = absurd (omega arith)
same_images f (x ∷ xs) (y ∷ ys) same each =
    let first : f x ≡ f y = each 0 x (omega arith) in
    ap (λ b. b ∷ map f xs) first ∙ ap (λ l. f y ∷ l) (same_images f xs ys (omega (arith, same)) (λ k d below. each (suc k) d (omega (arith, below))))

-- the images of a list, and of its other way round
pub map_reverse : {A B : Type 0} (f : A → B) (xs : List A) → map f (reverse xs) ≡ reverse (map f xs)
map_reverse f [] = refl
map_reverse f (x ∷ xs) = ap (map f) (reverse-append (x ∷ []) xs) ∙ map-append f (reverse xs) (x ∷ [])
    ∙ ap (λ l. l ++ f x ∷ []) (map_reverse f xs) ∙ sym (reverse-append (f x ∷ []) (map f xs))

pub map_again : {A B C : Type 0} (f : A → B) (g : B → C) (xs : List A) → map g (map f xs) ≡ map (λ x. g (f x)) xs
map_again f g [] = refl
map_again f g (x ∷ xs) = ap (λ l. g (f x) ∷ l) (map_again f g xs)

-- numbers that differ, the other way round
pairs_reverse : (ns : List ℕ) → AllPairs (λ n m. n ≢ m) ns → AllPairs (λ n m. n ≢ m) (reverse ns)
pairs_reverse [] all = all
pairs_reverse (n ∷ ns) all =
    subst (AllPairs (λ n m. n ≢ m)) (sym (reverse-append (n ∷ []) ns)) (pairs_more (λ n m. n ≢ m) (reverse ns) n
    (pairs_reverse ns (λ i j d below within. all (suc i) (suc j) d (omega (arith, below)) (omega (arith, within))))
    (All-permutation (λ m. m ≢ n) ns (reverse ns) (IsPermutation-reverse ns)
    (λ k d below e. all 0 (suc k) d (omega arith) (omega (arith, below)) (sym e))))

-- numbers below a bound, and one more
pub distinct_more : (ns ns' : List ℕ) (n : ℕ) → ns' ≡ ns ++ n ∷ [] → All (λ m. m < n) ns → AllPairs (λ n m. n ≢ m) ns → AllPairs (λ n m. n ≢ m) ns'
distinct_more ns ns' n is below all = subst (AllPairs (λ n m. n ≢ m)) (sym is)
    (pairs_more (λ n m. n ≢ m) ns n all (All-weaker (λ m. m < n) (λ m. m ≢ n) (λ m lt e. omega (arith, lt, e)) ns below))

pub below_more : (ns ns' : List ℕ) (n n' : ℕ) → ns' ≡ ns ++ n ∷ [] → n' ≡ n + 1 → All (λ m. m < n) ns → All (λ m. m < n') ns'
below_more ns ns' n n' is one below = subst (All (λ m. m < n')) (sym is)
    (All-push (λ m. m < n') ns n (All-weaker (λ m. m < n) (λ m. m < n') (λ m lt. omega (arith, lt, one)) ns below) (omega (arith, one)))

contains_reverse : {A : Type 0} (xs : List A) (x : A) → Contains xs x → Contains (reverse xs) x
contains_reverse xs x h = Contains-permutation xs (reverse xs) x (IsPermutation-reverse xs) h

module _ {I O T Own : Type 0} (did : ℕ → Own → Own → List (Session I O T) → List T → Type 0) (made_by : T → Option ℕ) where
  -- what all did, from the workers that were hired and the passes that were gathered
  pub all_done : (acts : List (Act I O T)) (first last made : ℕ) (hired : List (ℕ × Own)) (lent owns : List Own) (passes : List (ℕ × List T))
      → IsGathered did acts made_by first (reverse hired) owns passes → lent ≡ reverse (map (λ p. p.1) hired) → last ≡ first + 1 → made ≡ first + length passes
      → ((n : ℕ) → last ≤ n → n < made → Contains (map (λ p. p.0) hired) n) → AllPairs (λ n m. n ≢ m) (map (λ p. p.0) hired)
      → AreDone did acts made_by first lent owns passes
  all_done acts first last made hired lent owns passes g lent_is last_is made_is all distinct = record {
    crew = g.crew.crew;
    each = g.crew.each;
    lent_are = sym (map_again hired_as (λ p. p.1) g.crew.crew) ∙ ap (map (λ p. p.1)) g.crew.hired_are ∙ map_reverse (λ p. p.1) hired ∙ sym lent_is;
    owns_are = g.crew.owns_are;
    porch = (first, g.seen);
    passes_are = g.passes_are ∙ ap (λ (l : List (ℕ × List T)). l ++ (first, g.seen) ∷ []) (sym g.crew.passes_are);
    unturned = g.unturned;
    distinct = subst (AllPairs (λ n m. n ≢ m)) (sym numbers_are) (pairs_reverse (map (λ p. p.0) hired) distinct);
    numbers = λ n low high. ⊎_elim
        (λ (is : n ≡ first). inl is)
        (λ (above : first < n). inr (subst (λ (l : List ℕ). Contains l n)
        (sym numbers_are)
        (contains_reverse (map (λ p. p.0) hired) n (all n (omega (arith, above, last_is)) (omega (arith, high, made_is))))))
        (first_or_above first n low);
  } where
    numbers_are : map (λ w. w.number) g.crew.crew ≡ reverse (map (λ p. p.0) hired)
    numbers_are = sym (map_again hired_as (λ p. p.0) g.crew.crew) ∙ ap (map (λ p. p.0)) g.crew.hired_are ∙ map_reverse (λ p. p.0) hired

    first_or_above : (a n : ℕ) → a ≤ n → (n ≡ a) ⊎ (a < n)
    first_or_above a n low = grind arith

pub many_images : {A B : Type 0} (f : A → B) (xs : List A) → length (map f xs) ≡ length xs
many_images f [] = refl
many_images f (x ∷ xs) = ap suc (many_images f xs)

module _ {I O T Own : Type 0} (fits : ℕ → I × O → I × O → Bool → List T → List T → Type 0)
    (lasts : (n : ℕ) (came went : I × O) (cut : Bool) (before turns more : List T) → fits n came went cut before turns → fits n came went cut before (turns ++ more))
    (did : ℕ → Own → Own → List (Session I O T) → List T → Type 0) (made_by : T → Option ℕ) where
  -- `has_served`, and what the workers did by the same acts
  pub served_and_done : (most : Option ℕ) (start now : Shown I O) (standing : Standing) (end : DoorEnd) (turns turns' : List T) (acts : List (Act I O T))
      (first : ℕ) (lent owns : List Own) (passes : List (ℕ × List T)) → standing.over ≡ over_of end → Gave most start now standing acts
      → Visited start now fits turns acts → IsPrefix turns turns' → AreDone did acts made_by first lent owns passes
      → (h : HasServed most start now fits turns' end) × AreDone did h.acts made_by first lent owns passes
  served_and_done most start now standing end turns turns' acts first lent owns passes over gave visited pre done = (
    record {
      standing = standing;
      over_is = over;
      acts = acts;
      gave = gave;
      visited = visited_later fits lasts start now turns turns' acts pre visited;
    },
    done,
  )
