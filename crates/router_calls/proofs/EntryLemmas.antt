-- The entries of a PutEvents: `seen_both`, `adds_none`, `adds_event` and `adds_refusal` (one entry and those after it), `published_at` (what is
-- decided for what was placed) and `are_ready` (the events can be applied as one batch).
use Rattle.std.proofs.Common.{◌≡◌, ℕ, ◌+◌, ◌≤◌, List, [], ◌∷◌, ◌++◌, length, map, Ok, Err, sym, refl, ap, ◌∙◌, subst}
use Rattle.std.proofs.Common.{arith, append_assoc, append-nil}
use Rattle.std.specs.Prelude.{Bool, true, false, cond, All, IsTrue, codes, nat_lt}
use Rattle.std.proofs.lemmas.List.{map-append, length-map}
use Rattle.std.proofs.lemmas.List.Elements.{All-head, All-tail, All-map}
use Rattle.json_text.specs.Limits.{most_together}
use Rattle.json_text.specs.View.{trees_of}
use Rattle.event_shape.specs.Names.{IsBusName, is_account}
use Rattle.json_text.specs.Moment.{IsMoment}
use Rattle.event_shape.specs.Unnumbered.{Unnumbered, with_number}
use Rattle.api_replies.specs.declared.cause.Cause.{Cause}
use Rattle.api_replies.specs.declared.cause.Cause.TheVariants as cause
use Rattle.api_replies.specs.Reply.{Reply}
use Rattle.name_rows.specs.Rows.{AreSorted}
use Rattle.rule_table.specs.RuleSet.{RuleSet, has_archive}
use Rattle.rule_table.specs.Sound.{IsSound}
use Rattle.router_requests.specs.Batch as batch
use Rattle.router_requests.specs.View.{accepted_of, entry_of}
use Rattle.router_requests.specs.Request.{put_events}
use Rattle.router_core.specs.Tables.{Tables, after_entry}
use Rattle.router_core.specs.Admitted.{IsEventAdmitted, AreAdmitted, IsAnEvent}
use Rattle.router_core.specs.Ready.{IsPartOf, ArePartsOf, IsNoStart, set_after}
use Rattle.router_core.proofs.StartLemmas.{made_on}
use Rattle.router_requests.specs.Matching.{AreArchivesOf, AreKeepingFor, AreMatchedFor, AreSeenEntries, AreTargetsOf, IsSeenEntry}
use Rattle.router_requests.specs.declared.seen.SeenArchive.{SeenArchive}
use Rattle.router_requests.specs.declared.seen.SeenEntry.{SeenEntry}
use Rattle.router_requests.specs.declared.seen.SeenTarget.{SeenTarget}
use Rattle.router_requests.specs.declared.batch.AcceptedEvent.{AcceptedEvent}
use Rattle.router_core.specs.declared.ready.Part.{Part}
use Rattle.router_requests.specs.declared.seen.SeenVerdict.{SeenVerdict}
use Rattle.router_requests.specs.declared.seen.SeenVerdict.TheVariants as verdict
use Rattle.router_requests.proofs.MatchingLemmas.{few_matched}
use Rattle.router_requests.proofs.DutyLemmas.{duties_count, duties_short}
use Rattle.router_calls.specs.Accepted.{Given, Placed, ArePlaced, IsAcceptedAs, IsEventPlaced, IsPlaced, events_in, failures_in}
use Rattle.router_calls.specs.Accepted.{Found, archives_kept, found_of, number_after, numbered_tree}
use Rattle.router_calls.proofs.KeptLemmas.{kept_sorted, kept_there}
use Rattle.call_replies.specs.Replies.{items_reply}
use Rattle.resource_calls.specs.Decision.{refusal, Decided}
use Rattle.router_calls.specs.Answer.{entry_report, entries_reply, publication, published}
use Rattle.router_requests.specs.Bounds.{IsBounded, IsForBus}
use Rattle.router_calls.specs.Steps.{Adds, AreReady, HasAccount, IsEventAdded, IsRefusalAdded, Places, placed_decided}
use Rattle.router_calls.specs.declared.put_events.PlacedEntries.{PlacedEntries}

pub adds_none : (moment : ℕ) (old : PlacedEntries) → Adds moment [] old old
adds_none moment old = record {
  events = sym (append-nil (map entry_of old.entries.items));
  parts = λ s h. h;
  reports = sym (append-nil (trees_of old.reports.items));
  failed = omega arith;
}

-- what was seen of the first entry, and of the others
pub seen_both : (set : RuleSet) (caller : List ℕ) (entries rest : List Given) (entry : Given) (found more : List SeenEntry) (seen : SeenEntry)
    → entries ≡ entry ∷ rest → found ≡ seen ∷ more → AreSeenEntries set caller entries found
    → IsSeenEntry set caller entry seen × AreSeenEntries set caller rest more
seen_both set caller entries rest entry found more seen is found_is are =
    let here = subst (λ (es : List Given). AreSeenEntries set caller es found) is are in
    subst (AreSeenEntries set caller (entry ∷ rest)) found_is here

-- one entry more, whose part fits every rule set
part_more : (moment : ℕ) (set : RuleSet) (entries : List batch.Entry) (parts : List Part) (e : batch.Entry) (part : Part)
    → ((s : RuleSet) → IsPartOf moment s e part) → ArePartsOf moment set entries parts → ArePartsOf moment set (entries ++ e ∷ []) (parts ++ part ∷ [])
part_more moment set [] parts e part fits none = subst (λ (ps : List Part). ArePartsOf moment set (e ∷ []) (ps ++ part ∷ [])) (sym none) (fits set, refl)
part_more moment set (x ∷ xs) [] e part fits h = absurd h
part_more moment set (x ∷ xs) (p ∷ ps) e part fits h = (h.0, part_more moment (set_after x set) xs ps e part fits h.1)

event_parts : (moment : ℕ) (e : AcceptedEvent) (old mid : PlacedEntries) → IsEventAdded moment e old mid → (s : RuleSet)
    → ArePartsOf moment s (map entry_of old.entries.items) old.parts.items → ArePartsOf moment s (map entry_of mid.entries.items) mid.parts.items
event_parts moment e old mid added s h =
    let one = batch.accepted (accepted_of e) in
    let entries : map entry_of mid.entries.items ≡ map entry_of old.entries.items ++ one ∷ [] =
    ap (map entry_of) added.events ∙ map-append entry_of old.entries.items _ in
    let more = part_more moment s (map entry_of old.entries.items) old.parts.items one added.part added.fits h in
    subst (λ (ps : List Part). ArePartsOf moment s (map entry_of mid.entries.items) ps) (sym added.parts)
    (subst (λ (es : List batch.Entry). ArePartsOf moment s es (old.parts.items ++ added.part ∷ [])) (sym entries) more)

refusal_parts : (moment : ℕ) (c : Cause) (old mid : PlacedEntries) → IsRefusalAdded c old mid → (s : RuleSet)
    → ArePartsOf moment s (map entry_of old.entries.items) old.parts.items → ArePartsOf moment s (map entry_of mid.entries.items) mid.parts.items
refusal_parts moment c old mid added s h =
    subst (λ (ps : List Part). ArePartsOf moment s (map entry_of mid.entries.items) ps) (sym added.parts)
    (subst (λ (es : List batch.Entry). ArePartsOf moment s es old.parts.items) (ap (map entry_of) (sym added.events)) h)

-- an entry that became an event, and those after it
pub adds_event : (moment : ℕ) (e : AcceptedEvent) (all : List Placed) (old mid new : PlacedEntries) → IsEventAdded moment e old mid
    → Adds moment all mid new → Adds moment (Ok (accepted_of e) ∷ all) old new
adds_event moment e all old mid new added more = record {
  events = more.events ∙ ap (λ es. es ++ map batch.accepted (events_in all)) (ap (map entry_of) added.events ∙ map-append entry_of old.entries.items _)
      ∙ append_assoc (map entry_of old.entries.items) (batch.accepted (accepted_of e) ∷ []) (map batch.accepted (events_in all));
  parts = λ s h. more.parts s (event_parts moment e old mid added s h);
  reports = more.reports ∙ ap (λ ts. ts ++ map entry_report all) added.reports
      ∙ append_assoc (trees_of old.reports.items) (entry_report (Ok (accepted_of e)) ∷ []) (map entry_report all);
  failed = more.failed ∙ ap (λ m. m + failures_in all) added.failed;
}

-- an entry that is refused, and those after it
pub adds_refusal : (moment : ℕ) (c : Cause) (all : List Placed) (old mid new : PlacedEntries) → IsRefusalAdded c old mid → Adds moment all mid new
    → Adds moment (Err c ∷ all) old new
adds_refusal moment c all old mid new added more = record {
  events = more.events ∙ ap (λ es. map entry_of es ++ map batch.accepted (events_in all)) added.events;
  parts = λ s h. more.parts s (refusal_parts moment c old mid added s h);
  reports = more.reports ∙ ap (λ ts. ts ++ map entry_report all) added.reports
      ∙ append_assoc (trees_of old.reports.items) (entry_report (Err c) ∷ []) (map entry_report all);
  failed = omega (arith, more.failed, added.failed);
}

-- an allowed entry became its event
pub allowed_placed : (set : RuleSet) (k n : ℕ) (time : List ℕ) (u : Unnumbered) (entry : Given) (seen : SeenEntry) (a : batch.Accepted) → entry ≡ Ok u
    → seen.verdict ≡ verdict.Allowed → IsAcceptedAs k n time u seen.targets.items (archives_kept set seen.archives.items) a
    → IsPlaced k n time entry (found_of set seen) (Ok a)
allowed_placed set k n time u entry seen a is says accepted =
    let p : Placed = Ok a in
    subst (λ (e : Given). IsPlaced k n time e (found_of set seen) p) (sym is)
    (subst (λ (v : SeenVerdict). IsEventPlaced k n time u v seen.targets.items (archives_kept set seen.archives.items) p) (sym says) (a, accepted, refl))

-- the entries, of which the first one became this
pub placed_first : (set : RuleSet) (k n moment : ℕ) (time : List ℕ) (entries rest : List Given) (entry : Given) (found more : List SeenEntry) (seen : SeenEntry) (p : Placed)
    (old mid new : PlacedEntries) → entries ≡ entry ∷ rest → found ≡ seen ∷ more → IsPlaced k n time entry (found_of set seen) p
    → ((all : List Placed) → Adds moment all mid new → Adds moment (p ∷ all) old new)
    → Places k (number_after n p) moment time rest (map (found_of set) more) mid new → Places k n moment time entries (map (found_of set) found) old new
placed_first set k n moment time entries rest entry found more seen p old mid new is found_is became adds others = record {
  all = p ∷ others.all;
  are = subst (λ (fs : List SeenEntry). ArePlaced k n time entries (map (found_of set) fs) (p ∷ others.all)) (sym found_is)
      (subst (λ (es : List Given). ArePlaced k n time es (map (found_of set) (seen ∷ more)) (p ∷ others.all)) (sym is) (became, others.are));
  adds = adds others.all others.adds;
}

-- nothing was placed before
pub record IsFresh (old : PlacedEntries) : Type 0 where
  pub entries : old.entries.items ≡ []
  pub parts : old.parts.items ≡ []
  pub reports : old.reports.items ≡ []
  pub failed : old.failed ≡ 0

reply_so : (moment : ℕ) (all : List Placed) (old new : PlacedEntries) → Adds moment all old new → IsFresh old
    → items_reply new.failed (codes "Entries") (trees_of new.reports.items) ≡ entries_reply all
reply_so moment all old new p fresh =
    let count : new.failed ≡ failures_in all = omega (arith, p.failed, fresh.failed) in
    let reports = p.reports ∙ ap (λ js. trees_of js ++ map entry_report all) fresh.reports in
    ap (λ m. items_reply m (codes "Entries") (trees_of new.reports.items)) count ∙ ap (items_reply (failures_in all) (codes "Entries")) reports

events_so : (moment : ℕ) (all : List Placed) (old new : PlacedEntries) → Adds moment all old new → IsFresh old
    → map entry_of new.entries.items ≡ map batch.accepted (events_in all)
events_so moment all old new p fresh = p.events ∙ ap (λ es. map entry_of es ++ map batch.accepted (events_in all)) fresh.entries

abbrev decided_from : List batch.Entry → Reply → Decided
decided_from es r = record { entries = es; reply = r }

-- what is decided for what was placed
published_so : (moment : ℕ) (all : List Placed) (old new : PlacedEntries) → Adds moment all old new → IsFresh old → placed_decided new ≡ published all
published_so moment all old new p fresh =
    ap (λ es. decided_from es (items_reply new.failed (codes "Entries") (trees_of new.reports.items))) (events_so moment all old new p fresh)
    ∙ ap (decided_from (map batch.accepted (events_in all))) (reply_so moment all old new p fresh)

-- ---- the batch of the events

one_event : (p : Placed) (rest : List Placed) → length (events_in (p ∷ rest)) ≤ length (events_in rest) + 1
one_event (Ok a) rest = omega arith
one_event (Err c) rest = omega arith

-- there are at most as many events as entries
few_events : (k n : ℕ) (time : List ℕ) (entries : List Given) (found : List Found) (all : List Placed) → ArePlaced k n time entries found all
    → length (events_in all) ≤ length entries
few_events k n time [] found all none = omega (arith, ap (λ (ps : List Placed). length (events_in ps)) none)
few_events k n time (entry ∷ entries) [] all none = omega (arith, ap (λ (ps : List Placed). length (events_in ps)) none)
few_events k n time (entry ∷ entries) (f ∷ found) [] are = absurd are
few_events k n time (entry ∷ entries) (f ∷ found) (p ∷ all) (is, are) =
    omega (arith, one_event p all, few_events k (number_after n p) time entries found all are)

-- an event that was accepted is admitted
accepted_admitted : (t : Tables) (set : RuleSet) (time : List ℕ) (u : Unnumbered) (targets : List SeenTarget) (archives : List SeenArchive)
    (a : batch.Accepted) → IsSound set → set.count ≤ t.set.count → IsBusName u.bus → IsTrue (is_account u.event.account) → AreMatchedFor set u targets
    → AreKeepingFor set u archives → IsAcceptedAs set.count (t.events + 1) time u targets (archives_kept t.set archives) a → IsEventAdmitted t a
accepted_admitted t set time u targets archives a sound known bus account matched keeping is =
    let n = t.events + 1 in
    let few = few_matched set u.bus (numbered_tree n u) targets sound (matched n) in
    let count = duties_count (numbered_tree n u) time targets a.duties is.duties in
    record {
      number = is.number;
      bus = subst IsBusName (sym is.bus) bus;
      known = omega (arith, known, is.version);
      time = subst IsMoment (sym is.at) is.is_event.is_moment;
      text = record {
        event = with_number n u.event;
        text = record { written = is.text; is_event = (u.moment, is.is_event) };
        number = omega arith;
        account = account;
      };
      archive_order = subst (AreSorted (λ name. name)) (sym is.archives)
          (kept_sorted set t.set u.bus (numbered_tree n u) archives sound.archives.order (keeping n));
      archives = subst (All (λ name. has_archive name t.set ≡ true)) (sym is.archives) (kept_there t.set archives);
      few = omega (arith, count, few);
      short = duties_short (numbered_tree n u) time targets a.duties is.duties;
    }

-- if the events after an entry are admitted, it may come first
abbrev MayComeFirst : Tables → ℕ → List Placed → Placed → Type 0
MayComeFirst t moment rest p =
    ((x : Tables) → x.set ≡ t.set → number_after (t.events + 1) p ≡ x.events + 1 → AreAdmitted moment (map batch.accepted (events_in rest)) x)
    → AreAdmitted moment (map batch.accepted (events_in (p ∷ rest))) t

refused_first : (t : Tables) (moment : ℕ) (rest : List Placed) (p : Placed) (c : Cause) → p ≡ Err c → MayComeFirst t moment rest p
refused_first t moment rest p c is = subst (MayComeFirst t moment rest) (sym is) (λ later. later t refl refl)

-- the event of the first entry, if it became one
event_first : (t : Tables) (set : RuleSet) (moment : ℕ) (time : List ℕ) (v : SeenVerdict) (u : Unnumbered) (targets : List SeenTarget)
    (archives : List SeenArchive) (p : Placed) (rest : List Placed) → IsSound set → set.count ≤ t.set.count → IsBusName u.bus
    → IsTrue (is_account u.event.account) → AreTargetsOf set (Ok u) v targets → AreArchivesOf set (Ok u) v archives
    → IsEventPlaced set.count (t.events + 1) time u v targets (archives_kept t.set archives) p → MayComeFirst t moment rest p
event_first t set moment time verdict.Allowed u targets archives p rest sound known bus account matched keeping (a, is, same) =
    subst (MayComeFirst t moment rest) (sym same)
    (λ later. (
      accepted_admitted t set time u targets archives a sound known bus account matched keeping is,
      later (after_entry moment (batch.accepted a) t) refl refl,
    ))
event_first t set moment time (verdict.Fault f) u targets archives p rest sound known bus account matched keeping same = refused_first t moment rest p _ same
event_first t set moment time verdict.NoBus u targets archives p rest sound known bus account matched keeping same = refused_first t moment rest p _ same
event_first t set moment time (verdict.DeniedBy name) u targets archives p rest sound known bus account matched keeping same =
    refused_first t moment rest p _ same
event_first t set moment time verdict.NotAllowed u targets archives p rest sound known bus account matched keeping same = refused_first t moment rest p _ same

entry_first : (t : Tables) (set : RuleSet) (moment : ℕ) (time caller : List ℕ) (entry : Given) (seen : SeenEntry) (p : Placed) (rest : List Placed)
    → IsSound set → set.count ≤ t.set.count → IsForBus entry → HasAccount entry → IsSeenEntry set caller entry seen
    → IsPlaced set.count (t.events + 1) time entry (found_of t.set seen) p → MayComeFirst t moment rest p
entry_first t set moment time caller (Ok u) seen p rest sound known bus account is placed =
    event_first t set moment time seen.verdict u seen.targets.items seen.archives.items p rest sound known bus account is.targets is.archives placed
entry_first t set moment time caller (Err f) seen p rest sound known bus account is placed = refused_first t moment rest p _ placed

all_admitted : (t : Tables) (set : RuleSet) (caller time : List ℕ) (moment n : ℕ) (entries : List Given) (seen : List SeenEntry) (all : List Placed)
    → IsSound set → set.count ≤ t.set.count → All IsForBus entries → All HasAccount entries → AreSeenEntries set caller entries seen
    → n ≡ t.events + 1 → ArePlaced set.count n time entries (map (found_of t.set) seen) all → AreAdmitted moment (map batch.accepted (events_in all)) t
all_admitted t set caller time moment n [] seen all sound known buses accounts are number none =
    subst (λ (ps : List Placed). AreAdmitted moment (map batch.accepted (events_in ps)) t) (sym none) tt
all_admitted t set caller time moment n (entry ∷ entries) [] all sound known buses accounts are number none = absurd are
all_admitted t set caller time moment n (entry ∷ entries) (s ∷ seen) [] sound known buses accounts are number none = absurd none
all_admitted t set caller time moment n (entry ∷ entries) (s ∷ seen) (p ∷ all) sound known buses accounts (is, are) number placed =
    let now = subst (λ m. ArePlaced set.count m time (entry ∷ entries) (map (found_of t.set) (s ∷ seen)) (p ∷ all)) number placed in
    entry_first t set moment time caller entry s p all sound known (All-head IsForBus entry entries buses)
    (All-head HasAccount entry entries accounts) is now.0
    (λ x same next. all_admitted x set caller time moment (number_after (t.events + 1) p) entries seen all sound
    (subst (λ (r : RuleSet). set.count ≤ r.count) (sym same) known) (All-tail IsForBus entry entries buses) (All-tail HasAccount entry entries accounts)
    are next (subst (λ (r : RuleSet). ArePlaced set.count (number_after (t.events + 1) p) time entries (map (found_of r) seen) all) (sym same) now.1))

all_events : (events : List batch.Accepted) → All IsAnEvent (map batch.accepted events)
all_events events = All-map IsAnEvent batch.accepted events (λ k d low. tt)

-- the events that were placed can be applied as one batch
pub are_ready : (t : Tables) (set : RuleSet) (caller time : List ℕ) (k n moment : ℕ) (entries : List Given) (size : ℕ) (seen : List SeenEntry)
    (old new : PlacedEntries) → IsSound set → k ≡ set.count → set.count ≤ t.set.count → IsBounded (put_events entries size) → All HasAccount entries
    → AreSeenEntries set caller entries seen → n ≡ t.events + 1 → IsFresh old
    → Places k n moment time entries (map (found_of t.set) seen) old new → AreReady t moment new
are_ready t set caller time k n moment entries size seen old new sound version known bounded accounts are number fresh places =
    let all = places.all in
    let placed = subst (λ v. ArePlaced v n time entries (map (found_of t.set) seen) all) version places.are in
    let events = events_so moment all old new places.adds fresh in
    let count = few_events set.count n time entries (map (found_of t.set) seen) all placed in
    let none = subst (λ (ps : List Part). ArePartsOf moment t.set [] ps) (sym fresh.parts) refl in
    record {
      few = omega (arith, ap length events, length-map (events_in all) batch.accepted, count, bounded.1);
      are_events = subst (All IsAnEvent) (sym events) (all_events (events_in all));
      admitted = subst (λ (es : List batch.Entry). AreAdmitted moment es t) (sym events)
          (all_admitted t set caller time moment n entries seen all sound known bounded.2 accounts are number placed);
      parts = places.adds.parts t.set (subst (λ es. ArePartsOf moment t.set (map entry_of es) old.parts.items) (sym fresh.entries) none);
      on = made_on moment (map entry_of new.entries.items) new.parts.items t
          (subst (All IsNoStart) (sym events) (All-map IsNoStart batch.accepted (events_in all) (λ k d low. tt)));
    }

-- what is decided for the entries that were placed
pub published_at : (t : Tables) (k n size moment : ℕ) (time : List ℕ) (entries : List Given) (found : List Found) (old new : PlacedEntries) (d : Decided)
    → nat_lt most_together size ≡ false → n ≡ t.events + 1 → d ≡ placed_decided new → IsFresh old → Places k n moment time entries found old new
    → (placed : List Placed) × (nat_lt most_together size ≡ false → ArePlaced k (t.events + 1) time entries found placed)
    × (d ≡ publication placed size)
published_at t k n size moment time entries found old new d small number is fresh places = (
  places.all,
  λ again. subst (λ m. ArePlaced k m time entries found places.all) number places.are,
  is ∙ published_so moment places.all old new places.adds fresh ∙ sym (ap (λ (b : Bool). cond b (refusal cause.TooLargeTogether) (published places.all)) small),
)
