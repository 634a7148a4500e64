-- The rule set after a batch that is ready: `after_change` if the batch is one change, `after_others` if it is not.
use Rattle.std.proofs.Common.{◌≡◌, ℕ, List, [], ◌∷◌, Option, inl, inr, refl, sym, ap, ◌∙◌, subst}
use Rattle.std.specs.Prelude.{All}
use Rattle.std.proofs.lemmas.List.Elements.{All-head, All-tail}
use Rattle.archive_keep.specs.Archive.{Archive}
use Rattle.rule_table.specs.Control.{Control}
use Rattle.rule_table.specs.RuleSet.{RuleSet, applied}
use Rattle.router_requests.specs.Batch.{Entry, control, accepted, attempt, replay_started, replay_stepped, replay_cancelled, messages_deleted}
use Rattle.router_core.specs.Tables.{Tables, after_entry, after_entries, after_batch}
use Rattle.router_core.specs.Admitted.{AreOfOneTurn, IsAnEvent}
use Rattle.router_core.specs.Ready.{ArePartsOf, IsOneChange, IsReadyFor}
use Rattle.router_requests.specs.View.{batch_of}
use Rattle.router_core.specs.declared.ready.Part.{Part}
use Rattle.router_core.specs.declared.ready.Part.TheVariants.{Configuration, Event, Start, Step, Cancellation, Nothing}
use Rattle.router_core.specs.declared.ready.Ready.{Ready}

pub one_set : (t : Tables) (r : Ready) (c : Control) (set : RuleSet) → IsReadyFor t r → IsOneChange r c set → set ≡ applied c t.set
one_set t r c set ready one =
    let own : ArePartsOf r.batch.moment t.set (control c ∷ []) (Configuration set one.queue one.archive ∷ one.others) =
    subst (λ es. ArePartsOf r.batch.moment t.set es (Configuration set one.queue one.archive ∷ one.others)) one.entry
    (subst (λ (ps : List Part). ArePartsOf r.batch.moment t.set (batch_of r.batch).entries ps) one.parts ready.prepared.0) in
    own.0.0

pub after_change : (t : Tables) (r : Ready) (c : Control) (set : RuleSet) → IsReadyFor t r → IsOneChange r c set
    → set ≡ (after_batch (batch_of r.batch) t).set
after_change t r c set ready one =
    one_set t r c set ready one ∙ sym (ap (λ (es : List Entry). (after_entries (batch_of r.batch).moment es t).set) one.entry)

events_keep : (moment : ℕ) (es : List Entry) (t : Tables) → All IsAnEvent es → (after_entries moment es t).set ≡ t.set
events_keep moment [] t all = refl
events_keep moment (control c ∷ es) t all = absurd (All-head IsAnEvent (control c) es all)
events_keep moment (accepted e ∷ es) t all = events_keep moment es (after_entry moment (accepted e) t) (All-tail IsAnEvent (accepted e) es all)
events_keep moment (attempt duty outcome ∷ es) t all = absurd (All-head IsAnEvent (attempt duty outcome) es all)
events_keep moment (replay_started s ∷ es) t all = absurd (All-head IsAnEvent (replay_started s) es all)
events_keep moment (replay_stepped s ∷ es) t all = absurd (All-head IsAnEvent (replay_stepped s) es all)
events_keep moment (replay_cancelled name ∷ es) t all = absurd (All-head IsAnEvent (replay_cancelled name) es all)
events_keep moment (messages_deleted queue through ∷ es) t all = absurd (All-head IsAnEvent (messages_deleted queue through) es all)

-- the part of a change
part_of_change : (moment : ℕ) (set : RuleSet) (c : Control) (parts : List Part) → ArePartsOf moment set (control c ∷ []) parts
    → (new : RuleSet) × (queue : Option (List ℕ)) × (archive : Option Archive) × (others : List Part) × (parts ≡ Configuration new queue archive ∷ others)
part_of_change moment set c [] own = absurd own
part_of_change moment set c (Configuration new queue archive ∷ others) own = (new, queue, archive, others, refl)
part_of_change moment set c (Event duties kept ∷ others) own = absurd own.0
part_of_change moment set c (Start new ∷ others) own = absurd own.0
part_of_change moment set c (Step duties ∷ others) own = absurd own.0
part_of_change moment set c (Cancellation ∷ others) own = absurd own.0
part_of_change moment set c (Nothing ∷ others) own = absurd own.0

one_keeps : (t : Tables) (r : Ready) (e : Entry) → IsReadyFor t r → (batch_of r.batch).entries ≡ e ∷ []
    → ((c : Control) (set : RuleSet) → ¬ (IsOneChange r c set)) → (after_entries (batch_of r.batch).moment (e ∷ []) t).set ≡ t.set
one_keeps t r (control c) ready is none =
    let (new, queue, archive, others, parts) =
    part_of_change r.batch.moment t.set c r.parts.items (subst (λ es. ArePartsOf r.batch.moment t.set es r.parts.items) is ready.prepared.0) in
    absurd (none c new (record { entry = is; queue = queue; archive = archive; others = others; parts = parts }))
one_keeps t r (accepted e) ready is none = refl
one_keeps t r (attempt duty outcome) ready is none = refl
one_keeps t r (replay_started s) ready is none = refl
one_keeps t r (replay_stepped s) ready is none = refl
one_keeps t r (replay_cancelled name) ready is none = refl
one_keeps t r (messages_deleted queue through) ready is none = refl

pub after_others : (t : Tables) (r : Ready) → IsReadyFor t r → ((c : Control) (set : RuleSet) → ¬ (IsOneChange r c set))
    → (after_batch (batch_of r.batch) t).set ≡ t.set
after_others t r ready none = by_turn ready.admitted.one_turn
  where
    by_turn : AreOfOneTurn (batch_of r.batch).entries → (after_batch (batch_of r.batch) t).set ≡ t.set
    by_turn (inl (e, is)) =
        ap (λ (es : List Entry). (after_entries (batch_of r.batch).moment es t).set) is ∙ one_keeps t r e ready is none
    by_turn (inr (some, few, all)) = events_keep (batch_of r.batch).moment (batch_of r.batch).entries t all
