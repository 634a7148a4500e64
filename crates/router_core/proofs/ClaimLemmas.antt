-- Claims: the errand of a claimed duty. The answers of `Tables::claim` cite `claimed_errand` and `back_again`.
use Rattle.std.proofs.Common.{◌≡◌, ℕ, true, false, cond, eqb, List, Some}
use Rattle.std.proofs.Common.{refl, sym, ap, ◌∙◌, subst, arith}
use Rattle.std.proofs.lemmas.Bool.{eqb-false}
use Rattle.key_tree.specs.Entries.{value_at, placed, without}
use Rattle.key_tree.proofs.EntryLemmas.{others, value_at-placed, value_at-without_other, value_at-without_same}
use Rattle.delivery_duties.specs.declared.duty.DutyRow.{DutyRow}
use Rattle.delivery_duties.specs.Duties.{Duties, IsFree, IsNext, IsOrdered, IsOut, claimed, unclaimed, marked_row, pending_row, replaced}
use Rattle.delivery_duties.proofs.ClaimLemmas.{put_back}
use Rattle.router_core.specs.Tables.{Tables}
use Rattle.router_core.specs.Steps.{IsClaimed, claiming}
use Rattle.router_core.specs.declared.errand.Errand.{Errand}

-- a row of the same duty
record IsSameDuty (row old : DutyRow) : Type 0 where
  pub duty : row.duty ≡ old.duty
  pub accepted : row.accepted ≡ old.accepted
  pub due : row.due ≡ old.due

-- the row of a claimed duty is that of the same duty
after_mark : (n : ℕ) (old row : DutyRow) (rows : List (ℕ × DutyRow)) → value_at n rows ≡ Some old
    → value_at n (replaced (record old { claimed = true }) rows) ≡ Some row → IsSameDuty row old
after_mark n old row rows there now =
    let m = old.number in
    let marked : DutyRow = record old { claimed = true } in
    let left = without m rows in
    let at : value_at n (placed (m, marked) left) ≡ cond (eqb m n) (Some marked) (value_at n left) =
    value_at-placed n (m, marked) left (others m left (value_at-without_same m rows)) in
    (elim (eqb m n) as (λ b. eqb m n ≡ b → cond b (Some marked) (value_at n left) ≡ Some row → IsSameDuty row old) [
      | true ↦ λ _ e. let same : marked ≡ row = cc in record {
        duty = sym (ap (λ (r : DutyRow). r.duty) same);
        accepted = sym (ap (λ (r : DutyRow). r.accepted) same);
        due = sym (ap (λ (r : DutyRow). r.due) same);
      }
      | false ↦ λ apart e.
          let kept : value_at n left ≡ value_at n rows = value_at-without_other n m rows (eqb-false m n apart) in
          let same : old ≡ row = cc in
          record {
            duty = sym (ap (λ (r : DutyRow). r.duty) same);
            accepted = sym (ap (λ (r : DutyRow). r.accepted) same);
            due = sym (ap (λ (r : DutyRow). r.due) same);
          }
    ]) refl (sym at ∙ now)

-- the errand has what it shares with the row of its duty in the claimed duties
pub record IsMadeOf (row : DutyRow) (moment : ℕ) (e : Errand) : Type 0 where
  pub at : e.moment ≡ moment
  pub target : e.target ≡ row.duty.target
  pub text : e.text ≡ row.duty.text
  pub accepted : e.accepted ≡ row.accepted

pub claimed_errand : (t now : Tables) (new : Duties) (moment : ℕ) (e : Errand) (row : DutyRow) → t ≡ now → IsNext t.duties moment e.claim.number
    → new ≡ claimed e.claim.number t.duties → IsOut e.claim.number new → pending_row e.claim.number new ≡ Some row → IsMadeOf row moment e
    → IsClaimed now moment e (record t { duties = new })
claimed_errand t now new moment e row same next is (out, out_there, out_claimed) there made =
    let n = e.claim.number in
    let marked : DutyRow = record next.row { claimed = true } in
    let after : new ≡ record t.duties { pending = replaced marked t.duties.pending } = is ∙ ap (λ o. marked_row true o t.duties) next.there in
    let d : IsSameDuty row next.row =
    after_mark n next.row row t.duties.pending next.there (sym (ap (λ (s : Duties). pending_row n s) after) ∙ there) in
    let one : out ≡ row = cc in
    record {
      next = subst (λ (s : Tables). IsNext s.duties moment n) same next;
      at = made.at;
      tables = ap (λ (s : Duties). record t { duties = s }) is ∙ ap (claiming n) same;
      errand = record {
        row = row;
        pending = there;
        claimed = sym (ap (λ (r : DutyRow). r.claimed) one) ∙ out_claimed;
        due = omega (arith, d.due, next.due, made.at);
        endpoint = ap (λ t. t.endpoint) made.target;
      };
      row = next.row;
      pending = subst (λ (s : Tables). pending_row n s.duties ≡ Some next.row) same next.there;
      target = made.target ∙ ap (λ d. d.target) d.duty;
      text = made.text ∙ ap (λ d. d.text) d.duty;
      accepted = made.accepted ∙ d.accepted;
    }

-- a claim that is put back leaves the tables as they were
pub back_again : (t now : Tables) (n : ℕ) (middle new : Duties) → t ≡ now → IsOrdered t.duties → IsFree n t.duties → middle ≡ claimed n t.duties
    → new ≡ unclaimed n middle → record t { duties = new } ≡ now
back_again t now n middle new same ordered free was is =
    ap (λ (s : Duties). record t { duties = s }) (is ∙ ap (unclaimed n) was ∙ put_back t.duties n ordered free) ∙ same
