-- There is at most one next step of the replays at a moment: `one_step`, which the law of src/laws.rt cites.
use Rattle.std.proofs.Common.{◌≡◌, ℕ, List, [], ◌∷◌, Option, Some, None, sym, refl, ap, ◌∙◌, subst}
use Rattle.json_text.specs.Tree.{Tree}
use Rattle.event_time.proofs.ClockLemmas.{iso_once}
use Rattle.event_shape.specs.Event.{Event, IsEventText, event_tree}
use Rattle.event_shape.proofs.OnceLemmas.{event_once}
use Rattle.archive_keep.specs.declared.event_ref.KeptEvent.{KeptEvent}
use Rattle.replay_run.specs.declared.row.ReplayRow.{ReplayRow}
use Rattle.replay_run.specs.Replays as replays
use Rattle.delivery_duties.specs.declared.duty.NewDuty.{NewDuty}
use Rattle.router_requests.specs.Batch.{Batch, replay_stepped}
use Rattle.router_requests.specs.Duties.{AreDuties}
use Rattle.router_requests.specs.Matching.{AreMatched}
use Rattle.router_core.specs.Replaying.{IsReplayStep, rules_for}
use Rattle.router_core.specs.Tables.{Tables}
use Rattle.router_requests.specs.declared.seen.SeenTarget.{SeenTarget}
use Rattle.router_requests.proofs.DutyLemmas.{duties_once}
use Rattle.router_requests.proofs.OnceLemmas.{matched_once}

-- the batch of a step
step_from : ℕ → List ℕ → ℕ → List NewDuty → Batch
step_from moment name number duties =
    record { moment = moment; entries = replay_stepped (record { name = name; event = number; duties = duties }) ∷ [] }

first_once : (all : List ReplayRow) (x y : ReplayRow) (xs ys : List ReplayRow) → all ≡ x ∷ xs → all ≡ y ∷ ys → y ≡ x
first_once all x y xs ys p q = let both : y ∷ ys ≡ x ∷ xs = sym q ∙ p in cc

kept_once : (left : List KeptEvent) (x y : KeptEvent) (xs ys : List KeptEvent) → left ≡ x ∷ xs → left ≡ y ∷ ys → y ≡ x
kept_once left x y xs ys p q = let both : y ∷ ys ≡ x ∷ xs = sym q ∙ p in cc

pub one_step : (t : Tables) (moment : ℕ) (a b : Batch) → IsReplayStep t moment a → IsReplayStep t moment b → a ≡ b
unfolding step_from
one_step t moment a b p q =
    let row : q.next.row ≡ p.next.row = first_once (replays.running t.replays) p.next.row q.next.row p.next.others q.next.others p.next.first q.next.first in
    let kept : q.next.kept ≡ p.next.kept = kept_once p.next.row.replay.left p.next.kept q.next.kept p.next.rest q.next.rest p.next.left
    (ap (λ (r : ReplayRow). r.replay.left) (sym row) ∙ q.next.left) in
    let name : q.name ≡ p.name = q.next.name_is ∙ ap replays.name_of row ∙ sym p.next.name_is in
    let event : p.event ≡ q.event = event_once p.next.kept.text p.event q.event p.next.text
    (subst (λ (k : KeptEvent). IsEventText k.text q.event) kept q.next.text) in
    let tree : event_tree q.event (Some q.name) ≡ event_tree p.event (Some p.name) =
    ap (λ (e : Event). event_tree e (Some q.name)) (sym event) ∙ ap (λ n. event_tree p.event (Some n)) name in
    let matched : AreMatched (rules_for p.next.row.settings t.set) (event_tree p.event (Some p.name)) q.targets =
    subst (λ (r : ReplayRow). AreMatched (rules_for r.settings t.set) (event_tree p.event (Some p.name)) q.targets) row
    (subst (λ (e : Tree). AreMatched (rules_for q.next.row.settings t.set) e q.targets) tree q.matched) in
    let targets : p.targets ≡ q.targets = matched_once (rules_for p.next.row.settings t.set) (event_tree p.event (Some p.name)) p.targets q.targets p.matched matched in
    let time : p.time ≡ q.time = iso_once moment p.time q.time p.is_time q.is_time in
    let owed : AreDuties (event_tree p.event (Some p.name)) p.time p.targets q.duties =
    subst (λ (ts : List SeenTarget). AreDuties (event_tree p.event (Some p.name)) p.time ts q.duties) (sym targets)
    (subst (λ x. AreDuties (event_tree p.event (Some p.name)) x q.targets q.duties) (sym time)
    (subst (λ (e : Tree). AreDuties e q.time q.targets q.duties) tree q.owed)) in
    let duties : p.duties ≡ q.duties = duties_once (event_tree p.event (Some p.name)) p.time p.targets p.duties q.duties p.owed owed in
    p.is ∙ ap (λ n. step_from moment n p.next.kept.number p.duties) (sym name)
    ∙ ap (λ (k : KeptEvent). step_from moment q.name k.number p.duties) (sym kept)
    ∙ ap (step_from moment q.name q.next.kept.number) duties ∙ sym q.is
