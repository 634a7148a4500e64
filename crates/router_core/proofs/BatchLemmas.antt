-- The tables after the entries of a batch. The answers of `Tables` cite `IsLeft`, `left_all`, `left_at`, `left_end`, `left_part`, `left_room`,
-- `left_first`, `left_next`, `left_none`, `batch_kept` and `purge_few`; the law cites `still_prepared`.
use Rattle.std.proofs.Common.{◌≡◌, ℕ, ◌+◌, ◌*◌, ◌^◌, ◌≤◌, inl, inr, true, false, List, [], ◌∷◌, length, max}
use Rattle.std.proofs.Common.{◌<◌, map, drop, get_or, sym, refl, ap, subst, ◌∙◌, arith}
use Rattle.std.specs.Prelude.{All, ◌||◌, nat_le}
use Rattle.std.proofs.lemmas.Bool.{leb-false}
use Rattle.std.proofs.lemmas.List.{drop_all, drop_more}
use Rattle.std.proofs.lemmas.List.Elements.{All-head, All-tail}
use Rattle.archive_keep.specs.Archive.{Archive}
use Rattle.archive_keep.specs.Archives.{all_purged, name_of}
use Rattle.rule_table.specs.RuleSet.{RuleSet}
use Rattle.router_requests.specs.Batch.{Batch, Entry, control, accepted, attempt, replay_started, replay_stepped, replay_cancelled, messages_deleted}
use Rattle.router_core.specs.Tables.{Tables, after_entry, after_entries, after_batch, number_limit, KeepsUpTo, IsConsistent}
use Rattle.router_core.specs.Admitted.{IsNoChange, IsEntryAdmitted, AreOfOneTurn, AreAdmitted, IsAdmitted}
use Rattle.router_requests.specs.View.{batch_of, entry_of}
use Rattle.router_requests.specs.declared.batch.Entry.{Entry as CodeEntry}
use Rattle.router_core.specs.declared.ready.Ready.{Ready}
use Rattle.router_core.specs.Ready.{IsPartOf, ArePartsOf, AreMadeOn, IsMadeOn, IsNoStart, IsPrepared, IsReadyFor, set_after}
use Rattle.router_core.specs.declared.ready.Part.{Part}
use Rattle.router_core.proofs.KeepingLemmas.{all_purged_up, few_events, names_purged}
use Rattle.router_core.proofs.StartLemmas.{made_on}

-- the rule set after an entry
set_of : (moment : ℕ) (e : Entry) (t : Tables) → (after_entry moment e t).set ≡ set_after e t.set
set_of moment (control c) t = refl
set_of moment (accepted e) t = refl
set_of moment (attempt duty outcome) t = refl
set_of moment (replay_started s) t = refl
set_of moment (replay_stepped s) t = refl
set_of moment (replay_cancelled name) t = refl
set_of moment (messages_deleted queue through) t = refl

-- one turn has from one to ten entries
one_to_ten : (entries : List Entry) → AreOfOneTurn entries → (1 ≤ length entries) × (length entries ≤ 10)
one_to_ten entries (inl (e, is)) = (omega (arith, ap length is), omega (arith, ap length is))
one_to_ten entries (inr (some, few, all)) = (some, few)

-- an entry adds one to the number of entries; the number of batches stays, and the moment is not after the batch's
one_entry : (moment : ℕ) (e : Entry) (t : Tables) → t.moment ≤ moment
    → ((after_entry moment e t).entries ≡ t.entries + 1) × ((after_entry moment e t).batches ≡ t.batches) × ((after_entry moment e t).moment ≤ moment)
one_entry moment (control c) t le = (refl, refl, le)
one_entry moment (accepted e) t le = (refl, refl, omega (arith, le))
one_entry moment (attempt duty outcome) t le = (refl, refl, le)
one_entry moment (replay_started s) t le = (refl, refl, le)
one_entry moment (replay_stepped s) t le = (refl, refl, le)
one_entry moment (replay_cancelled name) t le = (refl, refl, le)
one_entry moment (messages_deleted queue through) t le = (refl, refl, le)

-- the tables are those after some first entries of a batch; the rest of the entries and their parts are left
pub record IsLeft (moment : ℕ) (entries rest : List Entry) (old now : Tables) (parts : List Part) : Type 0 where
  pub own : ArePartsOf moment now.set rest parts
  pub on : AreMadeOn moment now rest parts
  pub admitted : AreAdmitted moment rest now
  pub same : after_entries moment rest now ≡ after_entries moment entries old
  pub made : now.entries + length rest ≡ old.entries + length entries
  pub created : now.duties.created + 1500 * length rest ≤ old.duties.created + 1500 * length entries
  pub batches : now.batches ≡ old.batches
  pub at : now.moment ≤ moment
  pub fewer : old.batches ≤ old.entries

-- all entries are left
pub left_all : (t : Tables) (r : Ready) → IsReadyFor t r → t.batches ≤ t.entries
    → IsLeft r.batch.moment (batch_of r.batch).entries (batch_of r.batch).entries t t r.parts.items
left_all t r ready fewer = record {
  own = ready.prepared.0;
  on = ready.prepared.1;
  admitted = ready.admitted.entries;
  same = refl;
  made = refl;
  created = omega arith;
  batches = refl;
  at = ready.admitted.later;
  fewer = fewer;
}

-- the entries from an index on are its entry, and those after it
pub left_at : {moment : ℕ} {old now : Tables} {parts : List Part} (entries seen : List CodeEntry) (i : ℕ) (e : CodeEntry) → seen ≡ entries → i < length seen
    → e ≡ get_or seen i e → IsLeft moment (map entry_of entries) (map entry_of (drop i entries)) old now parts
    → IsLeft moment (map entry_of entries) (entry_of e ∷ map entry_of (drop (i + 1) entries)) old now parts
left_at {moment} {old} {now} {parts} entries seen i e same below at left =
    let more : drop i entries ≡ get_or entries i e ∷ drop (i + 1) entries = drop_more entries i e (omega (arith, below, ap (length {A = CodeEntry}) same)) in
    let here : get_or entries i e ≡ e = sym (at ∙ ap (λ (es : List CodeEntry). get_or es i e) same) in
    subst (λ (rest : List Entry). IsLeft moment (map entry_of entries) rest old now parts)
    (ap (map entry_of) more ∙ ap (λ (x : CodeEntry). entry_of x ∷ map entry_of (drop (i + 1) entries)) here) left

-- no entry is left after the last one
pub left_end : {moment : ℕ} {old now : Tables} {parts : List Part} (entries seen : List CodeEntry) (i : ℕ) → seen ≡ entries → length seen ≤ i
    → IsLeft moment (map entry_of entries) (map entry_of (drop i entries)) old now parts → IsLeft moment (map entry_of entries) [] old now parts
left_end {moment} {old} {now} {parts} entries seen i same all left =
    subst (λ (rest : List Entry). IsLeft moment (map entry_of entries) rest old now parts)
    (ap (map entry_of) (drop_all i entries (omega (arith, all, ap (length {A = CodeEntry}) same)))) left

-- a part is left for an entry that is left
pub left_part : (moment : ℕ) (entries after : List Entry) (e : Entry) (old now : Tables) (parts : List Part)
    → IsLeft moment entries (e ∷ after) old now parts → parts ≡ [] → ⊥
left_part moment entries after e old now [] left none = left.own
left_part moment entries after e old now (part ∷ parts) left none = absurd (cc)

pub below_limit : (limit a b : ℕ) → (nat_le limit a || nat_le limit b) ≡ false → (a < limit) × (b < limit)
below_limit limit a b e =
    (elim (nat_le limit a) as (λ t. nat_le limit a ≡ t → (t || nat_le limit b) ≡ false → (a < limit) × (b < limit)) [
      | true ↦ λ _ h. absurd (cc)
      | false ↦ λ f h. (leb-false limit a f, leb-false limit b h)
    ]) refl e

-- an entry that is left keeps the bounds
pub left_room : (b : Batch) (after : List Entry) (e : Entry) (old now : Tables) (parts : List Part) → IsAdmitted old b
    → IsLeft b.moment b.entries (e ∷ after) old now parts
    → (now.entries + 1 < number_limit + 2 ^ 20) × (now.duties.created + 1500 < number_limit + 2 ^ 20)
left_room b after e old now parts admitted left =
    let many = one_to_ten b.entries admitted.one_turn in
    let below = below_limit number_limit old.entries old.duties.created admitted.numbered in
    (omega (arith, left.made, many.1, below.0), omega (arith, left.created, many.1, below.1))

-- the part of the entry, which is admitted
pub left_first : (moment : ℕ) (entries after : List Entry) (e : Entry) (old now : Tables) (part : Part) (parts : List Part)
    → IsLeft moment entries (e ∷ after) old now (part ∷ parts)
    → IsPartOf moment now.set e part × IsEntryAdmitted moment e now × (now.moment ≤ moment) × IsMadeOn moment now e part
left_first moment entries after e old now part parts left = (left.own.0, left.admitted.0, left.at, left.on.0)

pub left_next : (moment : ℕ) (entries after : List Entry) (e : Entry) (old now new : Tables) (part : Part) (parts : List Part)
    → IsLeft moment entries (e ∷ after) old now (part ∷ parts) → new ≡ after_entry moment e now → new.duties.created ≤ now.duties.created + 1500
    → IsLeft moment entries after old new parts
left_next moment entries after e old now new part parts left is few =
    let one = one_entry moment e now left.at in
    record {
      own = subst (λ (t : Tables). ArePartsOf moment t.set after parts) (sym is)
          (subst (λ (s : RuleSet). ArePartsOf moment s after parts) (sym (set_of moment e now)) left.own.1);
      on = subst (λ (t : Tables). AreMadeOn moment t after parts) (sym is) left.on.1;
      admitted = subst (AreAdmitted moment after) (sym is) left.admitted.1;
      same = ap (after_entries moment after) is ∙ left.same;
      made = omega (arith, left.made, one.0, ap (λ (t : Tables). t.entries) is);
      created = omega (arith, left.created, few);
      batches = ap (λ (t : Tables). t.batches) is ∙ one.1 ∙ left.batches;
      at = omega (arith, ap (λ (t : Tables). t.moment) is, one.2);
      fewer = left.fewer;
    }

-- the tables after a batch keep the bounds
pub batch_kept : (b : Batch) (old now t : Tables) (n : ℕ) (archives : List Archive) (parts : List Part) → IsAdmitted old b → IsConsistent t → t ≡ now
    → n ≡ old.batches → archives ≡ all_purged b.moment t.archives → IsLeft b.moment b.entries [] old now parts
    → IsConsistent (record t { archives = archives; batches = n + 1; moment = b.moment })
batch_kept b old now t n archives parts admitted was same is left_so left =
    let many = one_to_ten b.entries admitted.one_turn in
    let le : t.moment ≤ b.moment = omega (arith, left.at, ap (λ (s : Tables). s.moment) same) in
    record {
      queues = was.queues;
      moment = admitted.moment;
      count = was.count;
      events = was.events;
      batches = omega (arith, ap (λ (s : Tables). s.entries) same, left.made, many.0, left.fewer, is);
      entries = was.entries;
      created = was.created;
      archives = ap (map name_of) left_so ∙ names_purged b.moment t.archives ∙ was.archives;
      kept = subst (All (KeepsUpTo t.events b.moment)) (sym left_so) (all_purged_up t.events t.moment b.moment b.moment t.archives le was.kept);
      starts = was.starts;
    }

max_later : (a b : ℕ) → a ≤ b → max a b ≡ b
max_later a b le = omega (arith, le)

-- the tables are those after the batch
pub left_none : (b : Batch) (old now t : Tables) (n : ℕ) (archives : List Archive) (parts : List Part) → IsAdmitted old b → t ≡ now → n ≡ old.batches
    → archives ≡ all_purged b.moment t.archives → IsLeft b.moment b.entries [] old now parts
    → record t { archives = archives; batches = n + 1; moment = b.moment } ≡ after_batch b old
left_none b old now t n archives parts admitted same is left_so left =
    let all : now ≡ after_entries b.moment b.entries old = left.same in
    let done = after_entries b.moment b.entries old in
    ap (λ (rows : List Archive). record t { archives = rows; batches = n + 1; moment = b.moment }) left_so
    ∙ ap (λ (k : ℕ). record t { archives = all_purged b.moment t.archives; batches = k + 1; moment = b.moment }) is
    ∙ ap (λ (s : Tables). record s { archives = all_purged b.moment s.archives; batches = old.batches + 1; moment = b.moment }) (same ∙ all)
    ∙ ap (λ (m : ℕ). record done { archives = all_purged b.moment done.archives; batches = old.batches + 1; moment = m })
    (sym (max_later old.moment b.moment admitted.later))

-- what a purge of consistent tables asks for
pub purge_few : (t : Tables) → IsConsistent t → (events : ℕ) × (events < 2 ^ 49) × All (λ (a : Archive). length a.events ≤ events) t.archives
purge_few t was = (t.events, omega (arith, was.events, was.entries), few_events t.events t.moment t.archives was.kept)

same_set : (moment : ℕ) (e : Entry) (t : Tables) → IsNoChange e → (after_entry moment e t).set ≡ t.set
same_set moment (control c) t none = absurd none
same_set moment (accepted e) t some = refl
same_set moment (attempt duty outcome) t some = refl
same_set moment (replay_started s) t some = refl
same_set moment (replay_stepped s) t some = refl
same_set moment (replay_cancelled name) t some = refl
same_set moment (messages_deleted queue through) t some = refl

same_set_all : (moment : ℕ) (es : List Entry) (t : Tables) → All IsNoChange es → (after_entries moment es t).set ≡ t.set
same_set_all moment [] t all = refl
same_set_all moment (e ∷ es) t all =
    same_set_all moment es (after_entry moment e t) (All-tail IsNoChange e es all) ∙ same_set moment e t (All-head IsNoChange e es all)

-- what is prepared stays so while the configuration does not change, unless it starts a replay
pub still_prepared : (t : Tables) (r : Ready) (b : Batch) → All IsNoChange b.entries → All IsNoStart (batch_of r.batch).entries → IsPrepared t r
    → IsPrepared (after_batch b t) r
still_prepared t r b all starts prepared = (
  subst (λ (s : RuleSet). ArePartsOf r.batch.moment s (batch_of r.batch).entries r.parts.items) (sym (same_set_all b.moment b.entries t all)) prepared.0,
  made_on r.batch.moment (batch_of r.batch).entries r.parts.items (after_batch b t) starts,
)
