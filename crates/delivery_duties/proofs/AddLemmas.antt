-- Duties are added one after the other: what is left of them in the loop of `add` (`IsLeft`, `left_first`, `left_next`, `left_done`),
-- and what adding keeps (`begun_keeps`, `added_created`, `added_names`).
use Rattle.std.proofs.Common.{◌≡◌, ℕ, ◌+◌, ◌<◌, ◌^◌, Bool, true, false, cond, List, [], ◌∷◌, Some, length, map, drop, refl, sym, ap, ◌∙◌, subst, arith}
use Rattle.std.specs.Prelude.{All}
use Rattle.std.proofs.lemmas.List.{length-map}
use Rattle.std.proofs.lemmas.List.Elements.{All-tail}
use Rattle.key_tree.specs.Entries.{value_at, placed}
use Rattle.delivery_duties.specs.declared.duty.NewDuty.{NewDuty}
use Rattle.delivery_duties.specs.declared.duty.DutyRow.{DutyRow}
use Rattle.delivery_queues.specs.Queues.{Queue}
use Rattle.delivery_duties.specs.Retry.{begun, dead_letter_queue, too_long}
use Rattle.delivery_duties.specs.Duties.{Duties, IsOut, added, added_one, failed, has_dead_letter_queue}
use Rattle.delivery_duties.specs.Order.{IsOutIn}
use Rattle.delivery_duties.specs.Sound.{IsSound}
use Rattle.delivery_duties.proofs.EntryLemmas.{placed_kept}
use Rattle.delivery_duties.proofs.SoundLemmas.{unused}
use Rattle.delivery_duties.proofs.SettleLemmas.{names_failed}

-- what is left to add leads to the same duties; each row is claimed, there are numbers for them, and claims stay
pub record IsLeft (duties : List NewDuty) (moment : ℕ) (s : Duties) (rows : List DutyRow) (t : Duties) : Type 0 where
  pub all : added (map (λ row. row.duty) rows) moment t ≡ added duties moment s
  pub claimed : All (λ row. row.claimed ≡ true) rows
  pub room : t.created + length rows < 2 ^ 63
  pub kept : (n : ℕ) → IsOut n s → IsOut n t

pub begun_keeps : {s : Duties} (key : ℕ) (row : DutyRow) (pending : List (ℕ × DutyRow)) → IsSound s → key ≡ s.created + 1
    → pending ≡ placed (key, row) s.pending → (n : ℕ) → IsOutIn n s.pending → IsOutIn n pending
begun_keeps {s} key row pending h is e n (r, there, claimed) =
    let all : pending ≡ placed (s.created + 1, row) s.pending = e ∙ ap (λ k. placed (k, row) s.pending) is in
    (r, subst (λ rs. value_at n rs ≡ Some r) (sym all) (placed_kept (s.created + 1) n row r s.pending (unused h) there), claimed)

either : {A : Type 0} (P : A → Type 0) (b : Bool) (x y : A) → P x → P y → P (cond b x y)
either P true x y p q = p
either P false x y p q = q

-- a duty is added in one of two ways
added_either : (P : Duties → Type 0) (duty : NewDuty) (moment : ℕ) (s : Duties)
    → P (failed (dead_letter_queue duty.target (has_dead_letter_queue duty.target s.queues)) too_long (begun (s.created + 1) moment duty)
    (record s { created = s.created + 1 }))
    → P (record s { created = s.created + 1; pending = placed (s.created + 1, begun (s.created + 1) moment duty) s.pending })
    → P (added_one duty moment s)
added_either P duty moment s p q =
    either P duty.too_long
    (failed (dead_letter_queue duty.target (has_dead_letter_queue duty.target s.queues)) too_long (begun (s.created + 1) moment duty)
    (record s { created = s.created + 1 }))
    (record s { created = s.created + 1; pending = placed (s.created + 1, begun (s.created + 1) moment duty) s.pending }) p q

one_created : (duty : NewDuty) (moment : ℕ) (s : Duties) → (added_one duty moment s).created ≡ s.created + 1
one_created duty moment s = added_either (λ (d : Duties). d.created ≡ s.created + 1) duty moment s refl refl

abbrev names : Duties → List (List ℕ)
names s = map (λ (m : Queue). m.name) s.queues

one_names : (duty : NewDuty) (moment : ℕ) (s : Duties) → names (added_one duty moment s) ≡ names s
one_names duty moment s =
    added_either (λ (d : Duties). names d ≡ names s) duty moment s
    (names_failed (dead_letter_queue duty.target (has_dead_letter_queue duty.target s.queues)) too_long (begun (s.created + 1) moment duty) s.queues)
    refl

pub added_created : (duties : List NewDuty) (moment : ℕ) (s : Duties) → (added duties moment s).created ≡ s.created + length duties
added_created [] moment s = omega arith
added_created (duty ∷ duties) moment s =
    omega (arith, one_created duty moment s, added_created duties moment (added_one duty moment s))

pub added_names : (duties : List NewDuty) (moment : ℕ) (s : Duties)
    → map (λ (m : Queue). m.name) (added duties moment s).queues ≡ map (λ (m : Queue). m.name) s.queues
added_names [] moment s = refl
added_names (duty ∷ duties) moment s = added_names duties moment (added_one duty moment s) ∙ one_names duty moment s

pub left_first : (duties : List NewDuty) (moment : ℕ) (s : Duties) (rows : List DutyRow) → map (λ (row : DutyRow). row.duty) rows ≡ duties
    → All (λ (row : DutyRow). row.claimed ≡ true) rows → s.created + length duties < 2 ^ 63 → IsLeft duties moment s rows s
left_first duties moment s rows e claimed room = record {
  all = ap (λ ds. added ds moment s) e;
  claimed = claimed;
  room = omega (arith, room, ap (length {A = NewDuty}) e, length-map rows (λ (row : DutyRow). row.duty));
  kept = λ n out. out;
}

pub left_next : {duties : List NewDuty} {moment : ℕ} {s t : Duties} (row : DutyRow) (rows : List DutyRow) (u : Duties)
    → IsLeft duties moment s (row ∷ rows) t → u ≡ added_one row.duty moment t → ((n : ℕ) → IsOut n t → IsOut n u) → IsLeft duties moment s rows u
left_next {duties} {moment} {s} {t} row rows u h e kept =
    let one : u.created ≡ t.created + 1 = ap (λ (d : Duties). d.created) e ∙ one_created row.duty moment t in
    record {
      all = ap (added (map (λ (o : DutyRow). o.duty) rows) moment) e ∙ h.all;
      claimed = All-tail (λ (o : DutyRow). o.claimed ≡ true) row rows h.claimed;
      room = omega (arith, h.room, one);
      kept = λ n out. kept n (h.kept n out);
    }

pub left_done : {duties : List NewDuty} {moment : ℕ} {s t : Duties} (rows after : List DutyRow) → rows ≡ after → after ≡ drop 1 rows
    → IsLeft duties moment s rows t → t ≡ added duties moment s
left_done [] after e f h = h.all
left_done (row ∷ rows) after e f h = absurd (omega (arith, ap (length {A = DutyRow}) (e ∙ f)))
