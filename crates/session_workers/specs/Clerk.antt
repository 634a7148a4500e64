-- What a worker of a door calls for the router.
use Rattle.std.specs.Prelude.{◌≡◌, ℕ, ◌<◌, ◌^◌, Bool, List, MatchBool}
use denote.Ref.{MutBor}
use denote.Param.Members.{Shared}
use Rattle.atomic_table.specs.Seated.{TableId}
use Rattle.turn_book.specs.Rule.{Learns}
use Rattle.turn_book.specs.Passes.{view, IsFree, IsSamePass}
use Rattle.courier_run.specs.Link.{Outside}
use Rattle.router_sessions.specs.Desk.{Known, number_of, seen_by}
use Rattle.router_history.specs.Visit.{IsVisit, OwesNothing, HasBroken}
use Rattle.session_workers.specs.Jobs.{maker, session_by, ServesOne, GoesOn}

module _ {V P S G M Own I O : Type 0} (seat : P → Known V) where
  -- `serve` may be called with what a worker was lent, an idle pass of the hall with this table that owes nothing, and the number and the streams
  -- of a connection, and serves its session. `meanwhile` may be called with such a pass, and serves none. The pass is idle before and after,
  -- and owes nothing. `goes_on` may be called with an idle pass, makes no turn, and returns whether the book is not broken, for what the pass
  -- has then seen. `show` is what the lent link and clock show.
  pub record IsClerk (hall : TableId) (gave : I → List (List ℕ)) (wrote : O → List ℕ) (reads : I → ℕ) (writes : O → ℕ) (show : Own → Outside)
      (f : Shared S (MutBor Own × (MutBor P × (ℕ × (MutBor I × (MutBor O × Unit {0})))))
      (Bool × (MutBor Own × (MutBor P × (MutBor I × (MutBor O × Unit {0})))))) (serve : S)
      (h : Shared G (MutBor P × Unit {0}) (Bool × (MutBor P × Unit {0}))) (goes_on : G)
      (g : Shared M (MutBor Own × (MutBor P × Unit {0})) (Unit {0} × (MutBor Own × (MutBor P × Unit {0})))) (meanwhile : M) : Type 0 where
    pub may_serve : (own : MutBor Own) (pass : MutBor P) (n : ℕ) (input : MutBor I) (output : MutBor O) → n < 2 ^ 64
        → (seat pass.now).table_id ≡ hall → IsFree (seat pass.now) → OwesNothing (number_of (seat pass.now)) (seen_by (seat pass.now)) → f.pre serve (own, (pass, (n, (input, (output, tt)))))
    pub serves : (own own' : MutBor Own) (pass pass' : MutBor P) (n : ℕ) (input input' : MutBor I) (output output' : MutBor O) (cut : Bool)
        → (seat pass.now).table_id ≡ hall → IsFree (seat pass.now) → OwesNothing (number_of (seat pass.now)) (seen_by (seat pass.now))
        → f.post serve (own, (pass, (n, (input, (output, tt))))) (cut, (own', (pass', (input', (output', tt)))))
        → IsSamePass (seat pass.now) (seat pass'.now) × IsFree (seat pass'.now) × OwesNothing (number_of (seat pass'.now)) (seen_by (seat pass'.now))
        × IsVisit gave wrote reads writes n (input.now, output.now) (input'.now, output'.now) cut (seen_by (seat pass.now)) (seen_by (seat pass'.now))
        × ServesOne gave wrote (number_of (seat pass.now)) (session_by n (number_of (seat pass.now)) (input.now, output.now) (input'.now, output'.now) cut (seen_by (seat pass.now)))
        (show own.now) (show own'.now) (seen_by (seat pass.now)) (seen_by (seat pass'.now))
    pub may_ask : (pass : MutBor P) → (seat pass.now).table_id ≡ hall → IsFree (seat pass.now) → h.pre goes_on (pass, tt)
    pub asks : (pass pass' : MutBor P) (goes : Bool) → (seat pass.now).table_id ≡ hall → IsFree (seat pass.now) → h.post goes_on (pass, tt) (goes, (pass', tt))
        → IsSamePass (seat pass.now) (seat pass'.now) × IsFree (seat pass'.now) × Learns maker (view (seat pass.now)) (seen_by (seat pass'.now))
        × MatchBool goes (¬ HasBroken (seen_by (seat pass'.now))) (HasBroken (seen_by (seat pass'.now)))
    pub may_wait : (own : MutBor Own) (pass : MutBor P) → (seat pass.now).table_id ≡ hall → IsFree (seat pass.now) → OwesNothing (number_of (seat pass.now)) (seen_by (seat pass.now))
        → g.pre meanwhile (own, (pass, tt))
    pub waits : (own own' : MutBor Own) (pass pass' : MutBor P) → (seat pass.now).table_id ≡ hall → IsFree (seat pass.now) → OwesNothing (number_of (seat pass.now)) (seen_by (seat pass.now))
        → g.post meanwhile (own, (pass, tt)) (tt, (own', (pass', tt)))
        → IsSamePass (seat pass.now) (seat pass'.now) × IsFree (seat pass'.now) × OwesNothing (number_of (seat pass'.now)) (seen_by (seat pass'.now))
        × GoesOn gave wrote (number_of (seat pass.now)) (show own.now) (show own'.now) (seen_by (seat pass.now)) (seen_by (seat pass'.now))
