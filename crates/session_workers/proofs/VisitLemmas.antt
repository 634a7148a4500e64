-- From a session's clauses to the visit of its connection. Other files cite `visit_of`.
use Rattle.std.proofs.Common.{◌≡◌, ◌≢◌, ℕ, List, [], ◌++◌, map, Some, refl, sym, ap, ◌∙◌, subst, append-nil}
use Rattle.router_disk.specs.Faults.{Rose}
use Rattle.router_disk.specs.Link.{Exchange}
use Rattle.router_history.specs.declared.history.Turn.{Turn}
use Rattle.message_streams.specs.declared.farewell.SessionEnd.{SessionEnd}
use Rattle.message_streams.specs.declared.farewell.SessionEnd.TheVariants.{ReadFault, WriteFault}
use Rattle.router_history.specs.History as history
use Rattle.router_history.specs.Book.{turn_of}
use Rattle.router_sessions.specs.Desk.{Known, seen_by, turns_seen, number_of, seat_of, SeesMore}
use Rattle.router_history.specs.Acts.{world}
use Rattle.router_history.specs.Session.{IsSession}
use Rattle.router_history.specs.Visit.{is_cut, IsVisit}

module _ {I O : Type 0} (gave : I → List (List ℕ)) (wrote : O → List ℕ) (reads : I → ℕ) (writes : O → ℕ) where
  -- the session of connection n, by a pass that then knew `new`
  pub visit_of : {V : Type 0} (n : ℕ) (came went : I × O) (old new : Known V) (end : SessionEnd) (readings readings_new : List ℕ)
      (answered answered_new : List Exchange) (faults faults_new : ℕ) → SeesMore old new
      → IsSession (seat_of (Some n) old) (world (turns_seen old) (gave came.0) (wrote came.1) readings answered faults)
      (world (turns_seen new) (gave went.0) (wrote went.1) readings_new answered_new faults_new) end
      → (end ≡ ReadFault → Rose (reads came.0) (reads went.0)) → (end ≢ ReadFault → reads went.0 ≡ reads came.0)
      → (end ≡ WriteFault → Rose (writes came.1) (writes went.1)) → (end ≢ WriteFault → writes went.1 ≡ writes came.1)
      → IsVisit gave wrote reads writes n came went (is_cut end) (seen_by old) (seen_by new)
  visit_of n came went old new end readings readings_new answered answered_new faults faults_new (more, is) session read unread write unwritten = record {
    pass = number_of old;
    during = more;
    after = [];
    turns_are = is ∙ ap (λ (ts : List Turn). seen_by old ++ ts) (sym (append-nil more));
    end = end;
    cut_is = refl;
    readings = readings;
    readings_new = readings_new;
    answered = answered;
    answered_new = answered_new;
    faults = faults;
    faults_new = faults_new;
    session = subst (λ (ts : List history.Turn). IsSession (seat_of (Some n) old) (world (turns_seen old) (gave came.0) (wrote came.1) readings answered faults)
        (world ts (gave went.0) (wrote went.1) readings_new answered_new faults_new) end) (ap (map turn_of) is) session;
    read_fault = read;
    input_faultless = unread;
    write_fault = write;
    output_faultless = unwritten;
  }
