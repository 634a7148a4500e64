-- A program that serves. Other files cite `announced`, `unannounced` (the port), `serves_by`, `no_door` (the door of a host), and `serves`,
-- `no_owns`, `no_room` (its links and their clocks).
use Rattle.std.proofs.Common.{◌≡◌, ◌≢◌, ℕ, ◌≤◌, ◌⊎◌, inl, inr, Bool, List, [], ◌∷◌, ◌++◌, length, map, Option, Err, refl, sym, ap, ◌∙◌, subst, arith, append-nil}
use Rattle.router_disk.specs.Faults.{CountsFaults, Rose}
use Rattle.bus_host.specs.HostFault.{host_outcome}
use Rattle.bus_host.specs.declared.host.HostFault.{HostFault}
use Rattle.bus_host.specs.declared.host.HostFault.TheVariants as host
use Rattle.program_lines.specs.declared.status.Status.{Status}
use Rattle.program_lines.specs.declared.status.Status.TheVariants as statuses
use Rattle.program_lines.specs.Printed.{listening_text}
use Rattle.shared_door.specs.Shown.{Shown}
use Rattle.door_workers.specs.Serving.{Session}
use Rattle.router_history.specs.declared.history.Turn.{Turn}
use Rattle.router_history.specs.History as history
use Rattle.tables_summary.specs.Summary.{WritesPart}
use Rattle.bus_server.specs.Serve.{AroundDoor, AtDoor, links_of, clocks_of, EndsUnserved, IsOpened, IsUnserved, IsServeOn}
use Rattle.bus_server.specs.Opened.{status_of_host, CountsHost, IsUnopened, Announces, ServesBy, IsUnservedBy}

module _ {D L C I O : Type 0} (show : D → Shown I O) (fits : ℕ → I × O → I × O → Bool → List Turn → List Turn → Type 0)
    (did : ℕ → L × C → L × C → List (Session I O Turn) → List Turn → Type 0) (start : history.Turn) (Keeps : List history.Turn → Type 0) where
  -- the port was printed, and the door opened
  pub announced : {Count : Type 0} (port : ℕ) (connections : Option ℕ) (old new : AtDoor D (L × C)) (written : List ℕ) (status : Status)
      → written ≡ old.written ++ listening_text port → (Count → length new.owns ≡ length old.owns)
      → (Count × IsOpened show fits did start Keeps connections (record old { written = written }) new status) ⊎ (IsUnopened (record old { written = written }) new status × Keeps (start ∷ []))
      → Announces show fits did start Keeps port connections old new status
  announced {Count} port connections old new written status listening counted (inl (count, is)) =
      inl (counted count, subst (λ (w : List ℕ). IsOpened show fits did start Keeps connections (record old { written = w }) new status) listening is)
  announced {Count} port connections old new written status listening counted (inr (none, kept)) =
      inr (record { same_door = none.same_door; same_owns = none.same_owns; cause = inr (none.no_memory, none.unwritten ∙ listening) }, kept)

  -- the port was not printed
  pub unannounced : (port : ℕ) (connections : Option ℕ) (old : AtDoor D (L × C)) (written : List ℕ) (status : Status) → status ≡ statuses.WriteFault
      → WritesPart old.written written (listening_text port) → Keeps (start ∷ []) → Announces show fits did start Keeps port connections old (record old { written = written }) status
  unannounced port connections old written status is part kept = inr (record { same_door = refl; same_owns = refl; cause = inl (is, part) }, kept)

  -- the host gave a door, and took it and the links back
  pub serves_by : (port : ℕ) (connections : Option ℕ) (lent returned : D) (owns owns_back : List (L × C)) (old new : AroundDoor D L C) (status : Status)
      → new.doors ≡ old.doors ++ (port, lent) ∷ [] → new.doors_back ≡ old.doors_back ++ returned ∷ [] → new.links ≡ old.links → new.clocks ≡ old.clocks
      → new.links_back ≡ old.links_back ++ links_of owns_back → new.clocks_back ≡ old.clocks_back ++ clocks_of owns_back
      → new.door_faults ≡ old.door_faults → new.link_faults ≡ old.link_faults
      → Announces show fits did start Keeps port connections (record { door = lent; owns = owns; written = old.written })
      (record { door = returned; owns = owns_back; written = new.written }) status
      → ServesBy show fits did start Keeps port connections owns old new status ⊎ (IsUnservedBy port owns old new status × Keeps (start ∷ []))
  serves_by port connections lent returned owns owns_back old new status doors doors_back links clocks links_back clocks_back door_same link_same (inl (all, is)) =
      inl (record {
        lent = lent;
        returned = returned;
        doors = doors;
        doors_back = doors_back;
        owns_back = owns_back;
        same_given = (links, clocks);
        links_back = links_back;
        clocks_back = clocks_back;
        faultless = (door_same, link_same);
        all_back = all;
        opened = is;
      })
  serves_by port connections lent returned owns owns_back old new status doors doors_back links clocks links_back clocks_back door_same link_same (inr (none, kept)) =
      inr (
        record {
          cause = causes none.cause;
          lent = lent ∷ [];
          one = omega (arith);
          opened_first = λ _. refl;
          doors = doors;
          doors_back = doors_back ∙ ap (λ (d : D). old.doors_back ++ d ∷ []) none.same_door;
          same_given = (links, clocks);
          links_back = links_back ∙ ap (λ (os : List (L × C)). old.links_back ++ links_of os) none.same_owns;
          clocks_back = clocks_back ∙ ap (λ (os : List (L × C)). old.clocks_back ++ clocks_of os) none.same_owns;
          faultless = λ _. (door_same, link_same);
        },
        kept,
      ) where
        causes : ((status ≡ statuses.WriteFault) × WritesPart old.written new.written (listening_text port))
            ⊎ ((status ≡ statuses.NoMemory) × (new.written ≡ old.written ++ listening_text port)) → EndsUnserved port old new status
        causes (inl fault) = inr (inl fault)
        causes (inr (none, all)) = inr (inr (none, inr all))

  -- the links and clocks were given before
  pub serves : (port workers : ℕ) (connections : Option ℕ) (owns : List (L × C)) (old mid new : AroundDoor D L C) (status : Status) → mid.written ≡ old.written
      → mid.doors ≡ old.doors → mid.doors_back ≡ old.doors_back → mid.links ≡ old.links ++ links_of owns → mid.links_back ≡ old.links_back
      → mid.clocks ≡ old.clocks ++ clocks_of owns → mid.clocks_back ≡ old.clocks_back
      → mid.door_faults ≡ old.door_faults → mid.link_faults ≡ old.link_faults → length owns ≡ workers
      → ServesBy show fits did start Keeps port connections owns mid new status ⊎ (IsUnservedBy port owns mid new status × Keeps (start ∷ []))
      → IsServeOn show fits did start Keeps port workers connections old new status
  serves port workers connections owns old mid new status w d db l lb k kb df lf count (inl s) = inl (record {
    lent = s.lent;
    returned = s.returned;
    doors = s.doors ∙ ap (λ (ds : List (ℕ × D)). ds ++ (port, s.lent) ∷ []) d;
    doors_back = s.doors_back ∙ ap (λ (ds : List D). ds ++ s.returned ∷ []) db;
    owns = owns;
    owns_back = s.owns_back;
    links = s.same_given.0 ∙ l;
    links_back = s.links_back ∙ ap (λ (ls : List L). ls ++ links_of s.owns_back) lb;
    clocks = s.same_given.1 ∙ k;
    clocks_back = s.clocks_back ∙ ap (λ (cs : List C). cs ++ clocks_of s.owns_back) kb;
    each_worker = count;
    all_back = s.all_back ∙ count;
    faultless = (s.faultless.0 ∙ df, s.faultless.1 ∙ lf);
    opened = subst (λ (b : List ℕ). IsOpened show fits did start Keeps connections (record { door = s.lent; owns = owns; written = b ++ listening_text port })
        (record { door = s.returned; owns = s.owns_back; written = new.written }) status) w s.opened;
  })
  serves port workers connections owns old mid new status w d db l lb k kb df lf count (inr (s, kept)) = inr (
    record {
      cause = subst (λ (a : List ℕ). EndsUnserved port (record old { written = a }) new status) w (causes s.cause);
      lent = s.lent;
      one = s.one;
      opened_first = s.opened_first;
      doors = s.doors ∙ ap (λ (ds : List (ℕ × D)). ds ++ map (λ (x : D). (port, x)) s.lent) d;
      doors_back = s.doors_back ∙ ap (λ (ds : List D). ds ++ s.lent) db;
      owns = owns;
      few = omega (arith, count);
      links = s.same_given.0 ∙ l;
      links_back = s.links_back ∙ ap (λ (ls : List L). ls ++ links_of owns) lb;
      clocks = s.same_given.1 ∙ k;
      clocks_back = s.clocks_back ∙ ap (λ (cs : List C). cs ++ clocks_of owns) kb;
      faultless = λ other. ((s.faultless other).0 ∙ df, (s.faultless other).1 ∙ lf);
    },
    kept,
  ) where
    causes : EndsUnserved port mid new status → EndsUnserved port (record old { written = mid.written }) new status
    causes (inl (is, kept, inl (rose, same))) = inl (is, kept, inl (subst (λ (n : ℕ). Rose n new.door_faults) df rose, same ∙ lf))
    causes (inl (is, kept, inr (rose, same))) = inl (is, kept, inr (subst (λ (n : ℕ). Rose n new.link_faults) lf rose, same ∙ df))
    causes (inr other) = inr other

-- the host gave no door
pub no_door : {D L C : Type 0} (port : ℕ) (fault : HostFault) (owns : List (L × C)) (old new : AroundDoor D L C) (status : Status) → status ≡ status_of_host fault
    → new.written ≡ old.written → new.doors ≡ old.doors → new.doors_back ≡ old.doors_back → new.links ≡ old.links → new.clocks ≡ old.clocks
    → new.links_back ≡ old.links_back ++ links_of owns → new.clocks_back ≡ old.clocks_back ++ clocks_of owns
    → (fault ≡ host.Failed → Rose old.door_faults new.door_faults)
    → (fault ≢ host.Failed → new.door_faults ≡ old.door_faults) → new.link_faults ≡ old.link_faults → IsUnservedBy port owns old new status
no_door port fault owns old new status is w d db l k lb kb rose same lf = record {
  cause = causes fault is rose;
  lent = [];
  one = omega (arith);
  opened_first = λ e. absurd (unlike fault is e);
  doors = d ∙ sym (append-nil old.doors);
  doors_back = db ∙ sym (append-nil old.doors_back);
  same_given = (l, k);
  links_back = lb;
  clocks_back = kb;
  faultless = λ other. (same (λ e. other (is ∙ ap status_of_host e)), lf);
} where
  causes : (f : HostFault) → status ≡ status_of_host f → (f ≡ host.Failed → Rose old.door_faults new.door_faults) → EndsUnserved port old new status
  causes host.Failed at r = inl (at, w, inl (r refl, lf))
  causes host.NoMemory at r = inr (inr (at, inl w))

  unlike : (f : HostFault) → status ≡ status_of_host f → status ≢ statuses.WriteFault
  unlike host.Failed at e = cc
  unlike host.NoMemory at e = cc

-- the host gave fewer links than there are workers
pub no_owns : {D L C : Type 0} (port workers : ℕ) (fault : HostFault) (owns : List (L × C)) (old new : AroundDoor D L C) (status : Status)
    → status ≡ status_of_host fault → new.written ≡ old.written → new.doors ≡ old.doors → new.doors_back ≡ old.doors_back
    → new.links ≡ old.links ++ links_of owns → new.links_back ≡ old.links_back ++ links_of owns → new.clocks ≡ old.clocks ++ clocks_of owns
    → new.clocks_back ≡ old.clocks_back ++ clocks_of owns → length owns ≤ workers → new.door_faults ≡ old.door_faults
    → (fault ≡ host.Failed → Rose old.link_faults new.link_faults) → (fault ≢ host.Failed → new.link_faults ≡ old.link_faults)
    → IsUnserved port workers old new status
no_owns port workers fault owns old new status is w d db l lb k kb few df rose same = record {
  cause = causes fault is rose;
  lent = [];
  one = omega (arith);
  opened_first = λ e. absurd (unlike fault is e);
  doors = d ∙ sym (append-nil old.doors);
  doors_back = db ∙ sym (append-nil old.doors_back);
  owns = owns;
  few = few;
  links = l;
  links_back = lb;
  clocks = k;
  clocks_back = kb;
  faultless = λ other. (df, same (λ e. other (is ∙ ap status_of_host e)));
} where
  causes : (f : HostFault) → status ≡ status_of_host f → (f ≡ host.Failed → Rose old.link_faults new.link_faults) → EndsUnserved port old new status
  causes host.Failed at r = inl (at, w, inr (r refl, df))
  causes host.NoMemory at r = inr (inr (at, inl w))

  unlike : (f : HostFault) → status ≡ status_of_host f → status ≢ statuses.WriteFault
  unlike host.Failed at e = cc
  unlike host.NoMemory at e = cc

-- out of memory before the host gave anything
pub no_room : {D L C : Type 0} (port workers : ℕ) (old : AroundDoor D L C) (status : Status) → status ≡ statuses.NoMemory
    → IsUnserved port workers old old status
no_room port workers old status is = record {
  cause = inr (inr (is, inl refl));
  lent = [];
  one = omega (arith);
  opened_first = λ e. cc;
  doors = sym (append-nil old.doors);
  doors_back = sym (append-nil old.doors_back);
  owns = [];
  few = omega (arith);
  links = sym (append-nil old.links);
  links_back = sym (append-nil old.links_back);
  clocks = sym (append-nil old.clocks);
  clocks_back = sym (append-nil old.clocks_back);
  faultless = λ _. (refl, refl);
}

-- what a failed call of the host does to a count
pub counted : (T : Type 0) (fault : HostFault) (before middle now : ℕ) → CountsFaults before middle (host_outcome {T = T} (Err fault)) → now ≡ middle
    → (fault ≡ host.Failed → Rose before now) × (fault ≢ host.Failed → now ≡ before)
counted T host.Failed before middle now is same = (λ _. subst (Rose before) (sym same) is.rose, λ other. absurd (other refl))
counted T host.NoMemory before middle now is same = (λ e. cc, λ _. same ∙ is.same)

pub counted_host : (T : Type 0) (fault : HostFault) (before middle now : ℕ) → CountsHost {T = T} (Err fault) before middle → now ≡ middle
    → (fault ≡ host.Failed → Rose before now) × (fault ≢ host.Failed → now ≡ before)
counted_host T host.Failed before middle now is same = (λ _. subst (Rose before) (sym same) is, λ other. absurd (other refl))
counted_host T host.NoMemory before middle now is same = (λ e. cc, λ _. same ∙ is)

-- no fault of a host is one of the output
pub no_write_fault : (fault : HostFault) (status : Status) → status ≡ status_of_host fault → status ≢ statuses.WriteFault
no_write_fault host.Failed status is e = cc
no_write_fault host.NoMemory status is e = cc
