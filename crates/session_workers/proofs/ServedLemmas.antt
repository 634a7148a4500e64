-- What was served at a door, once the history is longer: `served_on`. What workers did with a part of what they had: `done_as`.
use Rattle.std.proofs.Common.{◌≡◌, ◌≢◌, ℕ, Bool, List, [], ◌∷◌, ◌++◌, ◌⊎◌, map, Option, sym, ap, ◌∙◌, subst}
use Rattle.std.specs.Prelude.{Contains, AllPairs}
use Rattle.std.proofs.lemmas.List.Elements.{All-map, All-weaker}
use mathlib.Core.List.{IsPrefix}
use Rattle.shared_door.specs.Shown.{Shown}
use Rattle.door_workers.specs.declared.door.DoorEnd.{DoorEnd}
use Rattle.shared_door.specs.declared.acts.Act.{Act}
use Rattle.door_workers.specs.Serving.{HasServed, Session, Worked, known_of, IsWorker, AreDone}
use Rattle.door_workers.proofs.ServingLemmas.{visited_later, map_again}
use Rattle.router_history.specs.declared.history.Turn.{Turn}

module _ {D I O : Type 0} (show : D → Shown I O) (fits : ℕ → I × O → I × O → Bool → List Turn → List Turn → Type 0)
    (fits_last : (n : ℕ) (came went : I × O) (cut : Bool) (before turns more : List Turn) → fits n came went cut before turns
    → fits n came went cut before (turns ++ more)) where
  -- the same acts in a longer history
  abbrev pub served_on : (connections : Option ℕ) (lent returned : D) (seen turns : List Turn) (end : DoorEnd)
      → HasServed connections (show lent) (show returned) fits seen end → IsPrefix seen turns → HasServed connections (show lent) (show returned) fits turns end
  served_on connections lent returned seen turns end h pre = record {
    standing = h.standing;
    over_is = h.over_is;
    acts = h.acts;
    gave = h.gave;
    visited = visited_later fits fits_last (show lent) (show returned) seen turns h.acts pre h.visited;
  }

module _ {I O A B : Type 0} (f : A → B) (did : ℕ → B → B → List (Session I O Turn) → List Turn → Type 0) (acts : List (Act I O Turn)) where
  -- what a worker did with the part of what it had
  abbrev did_as : ℕ → A → A → List (Session I O Turn) → List Turn → Type 0
  did_as n lent now sessions turns = did n (f lent) (f now) sessions turns

  abbrev worked_as : Worked I O Turn A → Worked I O Turn B
  worked_as w = record { number = w.number; lent = f w.lent; now = f w.now; sessions = w.sessions; seen = w.seen }

  pub done_as : (made_by : Turn → Option ℕ) (first : ℕ) (lent owns : List A) (passes : List (ℕ × List Turn)) → AreDone did_as acts made_by first lent owns passes
      → AreDone did acts made_by first (map f lent) (map f owns) passes
  done_as made_by first lent owns passes d = record {
    crew = map worked_as d.crew;
    each = All-map (IsWorker did acts) worked_as d.crew
        (All-weaker (IsWorker did_as acts) (λ w. IsWorker did acts (worked_as w)) (λ w h. record { among = h.among; did_so = h.did_so }) d.crew d.each);
    lent_are = map_again worked_as (λ w. w.lent) d.crew ∙ sym (map_again (λ (w : Worked I O Turn A). w.lent) f d.crew) ∙ ap (map f) d.lent_are;
    owns_are = map_again worked_as (λ w. w.now) d.crew ∙ sym (map_again (λ (w : Worked I O Turn A). w.now) f d.crew) ∙ ap (map f) d.owns_are;
    porch = d.porch;
    passes_are = d.passes_are ∙ ap (λ (l : List (ℕ × List Turn)). l ++ d.porch ∷ []) (sym (map_again worked_as known_of d.crew));
    unturned = d.unturned;
    numbers = λ n low high. subst (λ (ns : List ℕ). (n ≡ d.porch.0) ⊎ Contains ns n) (sym numbers_are) (d.numbers n low high);
    distinct = subst (AllPairs (λ n m. n ≢ m)) (sym numbers_are) d.distinct;
  } where
    numbers_are : map (λ w. w.number) (map worked_as d.crew) ≡ map (λ w. w.number) d.crew
    numbers_are = map_again worked_as (λ w. w.number) d.crew
