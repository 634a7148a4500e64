-- A caller other than the owner writes nothing but events that the policies of their buses allow: `stranger_publishes`, which the law of
-- src/laws.rt cites. An event that any answer writes is one that is allowed: `answer_allowed`. The other lemmas lead to these.
use Rattle.std.proofs.Common.{◌≡◌, ℕ, suc, ◌+◌, ◌⊎◌, inl, inr, Bool, true, false, List, [], ◌∷◌, map, Option, Some, Ok, Err, sym, refl, subst, arith}
use Rattle.std.specs.Prelude.{All, cond, nat_lt}
use Rattle.std.specs.List.{Contains}
use Rattle.std.proofs.lemmas.List.Elements.{All-map, All-cons, All-nil, All-contains}
use Rattle.json_text.specs.Limits.{most_together}
use Rattle.json_text.specs.Tree.{Tree}
use Rattle.event_time.specs.Time.{IsIso}
use Rattle.event_shape.specs.Names.{owner}
use Rattle.event_shape.specs.Unnumbered.{Unnumbered}
use Rattle.api_replies.specs.declared.cause.Cause.{Cause}
use Rattle.api_replies.specs.Reply.{Reply}
use Rattle.rule_table.specs.RuleSet.{RuleSet}
use Rattle.router_requests.specs.Batch as batch
use Rattle.router_requests.specs.Matching.{AreArchivesOf, AreSeenEntries, AreTargetsOf, IsSeenResult}
use Rattle.router_requests.specs.Request.{Action, Request, IsPublishing, put_events}
use Rattle.router_core.specs.Tables.{Tables, is_full, moment_at}
use Rattle.router_requests.specs.Verdict.{IsEntryVerdict}
use Rattle.router_requests.specs.declared.seen.SeenArchive.{SeenArchive}
use Rattle.router_requests.specs.declared.seen.SeenEntry.{SeenEntry}
use Rattle.router_requests.specs.declared.seen.SeenResult.{SeenResult}
use Rattle.router_requests.specs.declared.seen.SeenResult.TheVariants.{Entries, Tested, Nothing}
use Rattle.router_requests.specs.declared.seen.SeenTarget.{SeenTarget}
use Rattle.router_requests.specs.declared.seen.SeenVerdict.{SeenVerdict}
use Rattle.router_requests.specs.declared.seen.SeenVerdict.TheVariants as verdict
use Rattle.router_calls.specs.Accepted.{Given, Placed, ArePlaced, IsAcceptedAs, IsEventPlaced, IsPlaced, archives_kept, events_in, found_of, number_after}
use Rattle.resource_calls.specs.Decision.{Decided}
use Rattle.router_calls.specs.Answer.{Answer, HasPlaced, IsAnswer, decided, publication, written}
use Rattle.router_calls.specs.Allowed.{IsAllowedEvent, IsAllowedEntry, IsPublishedBy, entries_in}
use Rattle.router_calls.proofs.FormLemmas.{its_event}

here : {X : Type 0} (x : X) (xs : List X) → Contains (x ∷ xs) x
here x xs = (0, omega arith, refl)

there : {X : Type 0} (y x : X) (xs : List X) → Contains xs x → Contains (y ∷ xs) x
there y x xs (k, low, is) = (suc k, omega (arith, low), is)

abbrev AreAllowed : RuleSet → RuleSet → ℕ → List ℕ → List Given → List Placed → Type 0
AreAllowed now set moment caller whole all = All (IsAllowedEvent now set moment caller whole) (events_in all)

refused_more : (now set : RuleSet) (moment : ℕ) (caller : List ℕ) (whole : List Given) (p : Placed) (c : Cause) (rest : List Placed) → p ≡ Err c
    → AreAllowed now set moment caller whole rest → AreAllowed now set moment caller whole (p ∷ rest)
refused_more now set moment caller whole p c rest is more = subst (λ (q : Placed). AreAllowed now set moment caller whole (q ∷ rest)) (sym is) more

-- what becomes of an event, before others
event_more : (v : SeenVerdict) (now set : RuleSet) (moment : ℕ) (time caller : List ℕ) (n : ℕ) (whole : List Given) (event : Unnumbered)
    (targets : List SeenTarget) (archives : List SeenArchive) (p : Placed) (rest : List Placed) → IsIso moment time → Contains whole (Ok event) → IsEntryVerdict set caller (Ok event) v
    → AreTargetsOf set (Ok event) v targets → AreArchivesOf set (Ok event) v archives
    → IsEventPlaced set.count n time event v targets (archives_kept now archives) p → AreAllowed now set moment caller whole rest
    → AreAllowed now set moment caller whole (p ∷ rest)
event_more verdict.Allowed now set moment time caller n whole event targets archives p rest at within says matched keeping (a, is, same) more =
    subst (λ (q : Placed). AreAllowed now set moment caller whole (q ∷ rest)) (sym same)
    (All-cons (IsAllowedEvent now set moment caller whole) a (events_in rest)
    (record {
      event = event;
      asked = within;
      verdict = says;
      targets = targets;
      matched = matched;
      archives = archives;
      keeping = keeping;
      time = time;
      is_time = at;
      accepted = subst (λ m. IsAcceptedAs set.count m time event targets (archives_kept now archives) a) (sym is.number) is;
    })
    more)
event_more (verdict.Fault f) now set moment time caller n whole event targets archives p rest at within says matched keeping is more =
    refused_more now set moment caller whole p _ rest is more
event_more verdict.NoBus now set moment time caller n whole event targets archives p rest at within says matched keeping is more =
    refused_more now set moment caller whole p _ rest is more
event_more (verdict.DeniedBy name) now set moment time caller n whole event targets archives p rest at within says matched keeping is more =
    refused_more now set moment caller whole p _ rest is more
event_more verdict.NotAllowed now set moment time caller n whole event targets archives p rest at within says matched keeping is more =
    refused_more now set moment caller whole p _ rest is more

one_more : (now set : RuleSet) (moment : ℕ) (time caller : List ℕ) (n : ℕ) (whole : List Given) (entry : Given) (seen : SeenEntry) (p : Placed)
    (rest : List Placed) → IsIso moment time → Contains whole entry → IsEntryVerdict set caller entry seen.verdict
    → AreTargetsOf set entry seen.verdict seen.targets.items → AreArchivesOf set entry seen.verdict seen.archives.items
    → IsPlaced set.count n time entry (found_of now seen) p
    → AreAllowed now set moment caller whole rest → AreAllowed now set moment caller whole (p ∷ rest)
one_more now set moment time caller n whole (Ok event) seen p rest at within says matched keeping is more =
    event_more seen.verdict now set moment time caller n whole event seen.targets.items seen.archives.items p rest at within says matched keeping is more
one_more now set moment time caller n whole (Err fault) seen p rest at within says matched keeping is more = refused_more now set moment caller whole p _ rest is more

events_allowed : (now set : RuleSet) (moment : ℕ) (time caller : List ℕ) (n : ℕ) (whole entries : List Given) (seen : List SeenEntry) (all : List Placed)
    → IsIso moment time → ((x : Given) → Contains entries x → Contains whole x) → AreSeenEntries set caller entries seen
    → ArePlaced set.count n time entries (map (found_of now) seen) all → AreAllowed now set moment caller whole all
events_allowed now set moment time caller n whole [] seen all at within are none =
    subst (AreAllowed now set moment caller whole) (sym none) (All-nil (IsAllowedEvent now set moment caller whole))
events_allowed now set moment time caller n whole (entry ∷ entries) [] all at within are none = absurd are
events_allowed now set moment time caller n whole (entry ∷ entries) (s ∷ seen) [] at within are none = absurd none
events_allowed now set moment time caller n whole (entry ∷ entries) (s ∷ seen) (p ∷ all) at within (is, are) (placed, others) =
    one_more now set moment time caller n whole entry s p all at (within entry (here entry entries)) is.verdict is.targets is.archives placed
    (events_allowed now set moment time caller (number_after n p) whole entries seen all at (λ x c. within x (there entry x entries c)) are others)

-- a batch of such events is written, or none
batch_allowed : (full : Bool) (now set : RuleSet) (caller : List ℕ) (whole : List Given) (x y : Answer) → IsPublishedBy now set caller whole x.batch
    → IsPublishedBy now set caller whole y.batch → IsPublishedBy now set caller whole (cond full x y).batch
batch_allowed true now set caller whole x y p q = p
batch_allowed false now set caller whole x y p q = q

written_allowed : (t : Tables) (now set : RuleSet) (caller : List ℕ) (whole : List Given) (moment : ℕ) (entries : List batch.Entry) (reply : Reply)
    → All (IsAllowedEntry now set moment caller whole) entries → IsPublishedBy now set caller whole (written t moment entries reply).batch
written_allowed t now set caller whole moment [] reply allowed = tt
written_allowed t now set caller whole moment (e ∷ es) reply allowed = batch_allowed (is_full t) now set caller whole _ _ tt allowed

decided_allowed : (large : Bool) (now set : RuleSet) (moment : ℕ) (caller : List ℕ) (whole : List Given) (x y : Decided) → x.entries ≡ []
    → (large ≡ false → All (IsAllowedEntry now set moment caller whole) y.entries) → All (IsAllowedEntry now set moment caller whole) (cond large x y).entries
decided_allowed true now set moment caller whole x y none all =
    subst (All (IsAllowedEntry now set moment caller whole)) (sym none) (All-nil (IsAllowedEntry now set moment caller whole))
decided_allowed false now set moment caller whole x y none all = all refl

publication_allowed : (t : Tables) (set : RuleSet) (moment : ℕ) (time caller : List ℕ) (entries : List Given) (size : ℕ) (seen : SeenResult)
    (all : List Placed) → IsIso moment time → IsSeenResult set caller (put_events entries size) seen
    → HasPlaced t set.count time seen (put_events entries size) all → All (IsAllowedEntry t.set set moment caller entries) (publication all size).entries
publication_allowed t set moment time caller entries size (Entries found) all at is placed =
    decided_allowed (nat_lt most_together size) t.set set moment caller entries _ _ refl
    (λ small. All-map (IsAllowedEntry t.set set moment caller entries) batch.accepted (events_in all)
    (events_allowed t.set set moment time caller (t.events + 1) entries entries found.items all at (λ x c. c) is (placed small)))
publication_allowed t set moment time caller entries size (Tested m) all at is placed = absurd is
publication_allowed t set moment time caller entries size Nothing all at is placed = absurd is

publishing_allowed : (t : Tables) (set : RuleSet) (moment : ℕ) (time caller : List ℕ) (action : Action) (policy : Option Tree) (seen : SeenResult)
    (all : List Placed) → IsPublishing action → IsIso moment time → IsSeenResult set caller action seen → HasPlaced t set.count time seen action all
    → All (IsAllowedEntry t.set set moment caller (entries_in action)) (decided t moment seen all policy action).entries
publishing_allowed t set moment time caller (put_events entries size) policy seen all p at is placed =
    publication_allowed t set moment time caller entries size seen all at is placed
publishing_allowed t set moment time caller _ policy seen all p at is placed = absurd p

other_one : (P Q : Type 0) → P ⊎ Q → ¬ P → Q
other_one P Q (inl p) not_p = absurd (not_p p)
other_one P Q (inr q) not_p = q

-- a PutEvents writes only such events, whoever its caller is
publishes_allowed : (t : Tables) (r : Request) (k : ℕ) (set : RuleSet) (a : Answer) → IsAnswer t r k set a → IsPublishing r.action
    → IsPublishedBy t.set set r.caller (entries_in r.action) a.batch
publishes_allowed t r k set a h publishes =
    let moment = moment_at t r.reading in
    let placed = subst (λ n. HasPlaced t n h.time h.seen r.action h.placed) (sym h.version) h.has_placed in
    let d = decided t moment h.seen h.placed h.policy r.action in
    let all = publishing_allowed t set moment h.time r.caller r.action h.policy h.seen h.placed publishes h.is_time h.is_seen placed in
    let own = written_allowed t t.set set r.caller (entries_in r.action) moment d.entries d.reply all in
    subst (λ (x : Answer). IsPublishedBy t.set set r.caller (entries_in r.action) x.batch) (sym h.answers) own

pub stranger_publishes : (t : Tables) (r : Request) (k : ℕ) (set : RuleSet) (a : Answer) → IsAnswer t r k set a → ¬ (r.caller ≡ owner)
    → IsPublishedBy t.set set r.caller (entries_in r.action) a.batch
stranger_publishes t r k set a h stranger =
    publishes_allowed t r k set a h (other_one (r.caller ≡ owner) (IsPublishing r.action) h.entitled.allowed stranger)

pub answer_allowed : (t : Tables) (r : Request) (k : ℕ) (set : RuleSet) (a : Answer) (b : batch.Batch) (e : batch.Accepted) → IsAnswer t r k set a
    → a.batch ≡ Some b → Contains b.entries (batch.accepted e) → IsAllowedEvent t.set set b.moment r.caller (entries_in r.action) e
answer_allowed t r k set a b e h is has =
    let all = publishes_allowed t r k set a h (its_event t r k set a b e h is has) in
    All-contains (IsAllowedEntry t.set set b.moment r.caller (entries_in r.action)) b.entries (batch.accepted e)
    (subst (IsPublishedBy t.set set r.caller (entries_in r.action)) is all) has
