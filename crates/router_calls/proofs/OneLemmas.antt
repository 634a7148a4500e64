-- A request has at most one answer: `one_answer`, which the law of src/laws.rt cites. What matching found of it and the policy that it names
-- are determined (router_core `OnceLemmas`), and so is what became of its entries (`DutyLemmas`); the rest is a function.
use Rattle.std.proofs.Common.{◌≡◌, ℕ, ◌+◌, List, [], ◌∷◌, map, Option, Some, None, Ok, Err, Bool, true, false, sym, refl, ap, ◌∙◌, subst}
use Rattle.std.specs.Prelude.{cond, nat_lt}
use Rattle.json_text.specs.Limits.{most_together}
use Rattle.json_text.specs.Tree.{Tree}
use Rattle.event_time.proofs.ClockLemmas.{iso_once}
use Rattle.event_shape.specs.Unnumbered.{Unnumbered}
use Rattle.name_rows.specs.Rows.{named}
use Rattle.rule_table.specs.RuleSet.{Bus, RuleSet}
use Rattle.api_replies.specs.declared.cause.Cause.TheVariants as cause
use Rattle.delivery_duties.specs.declared.duty.NewDuty.{NewDuty}
use Rattle.router_requests.specs.Batch as batch
use Rattle.router_requests.specs.Matching.{IsSeenEntry, AreArchivesOf, AreSeenEntries, AreTargetsOf, IsSeenResult}
use Rattle.router_requests.specs.Request.{Action, Request, put_statement, remove_statement, put_events, test_event_pattern}
use Rattle.router_core.specs.Tables.{Tables, moment_at}
use Rattle.router_requests.specs.declared.seen.SeenArchive.{SeenArchive}
use Rattle.router_requests.specs.declared.seen.SeenEntry.{SeenEntry}
use Rattle.router_requests.specs.declared.seen.SeenResult.{SeenResult}
use Rattle.router_requests.specs.declared.seen.SeenResult.TheVariants.{Entries, Tested, Nothing}
use Rattle.router_requests.specs.declared.seen.SeenTarget.{SeenTarget}
use Rattle.router_requests.specs.declared.seen.SeenVerdict.{SeenVerdict}
use Rattle.router_requests.specs.declared.seen.SeenVerdict.TheVariants as verdict
use Rattle.router_requests.proofs.OnceLemmas.{targets_once, policy_once, verdict_once, tested_once}
use Rattle.router_requests.proofs.SeenArchiveLemmas.{archives_once}
use Rattle.router_requests.proofs.DutyLemmas.{duties_once}
use Rattle.call_replies.specs.Replies.{tested_reply}
use Rattle.router_calls.specs.Accepted.{Given, Found, Placed, ArePlaced, IsAcceptedAs, IsEventPlaced, IsPlaced}
use Rattle.router_calls.specs.Accepted.{archives_kept, found_of, number_after, numbered_tree}
use Rattle.resource_calls.specs.Decision.{Decided, refusal, shown}
use Rattle.router_calls.specs.Answer.{Answer, HasPlaced, IsAnswer, answer_at, decided, publication, published}
use Rattle.router_calls.specs.Permission.{IsPolicyThere, IsPolicyNamed}

-- ---- what matching found

abbrev found_from : SeenVerdict → List SeenTarget → List (List ℕ) → Found
found_from v ts names = record { verdict = v; targets = ts; archives = names }

entry_once : (now set : RuleSet) (caller : List ℕ) (entry : Given) (x y : SeenEntry) → IsSeenEntry set caller entry x → IsSeenEntry set caller entry y
    → found_of now x ≡ found_of now y
entry_once now set caller entry x y p q =
    let verdicts : y.verdict ≡ x.verdict = verdict_once set caller entry y.verdict x.verdict q.verdict p.verdict in
    let there = subst (λ (v : SeenVerdict). AreTargetsOf set entry v y.targets.items) verdicts q.targets in
    let targets : x.targets.items ≡ y.targets.items = targets_once set entry x.verdict x.targets.items y.targets.items p.targets there in
    let still = subst (λ (v : SeenVerdict). AreArchivesOf set entry v y.archives.items) verdicts q.archives in
    let archives : x.archives.items ≡ y.archives.items = archives_once set entry x.verdict x.archives.items y.archives.items p.archives still in
    ap (λ (ts : List SeenTarget). found_from x.verdict ts (archives_kept now x.archives.items)) targets
    ∙ ap (λ (found : List SeenArchive). found_from x.verdict y.targets.items (archives_kept now found)) archives
    ∙ ap (λ (v : SeenVerdict). found_from v y.targets.items (archives_kept now y.archives.items)) (sym verdicts)

entries_once : (now set : RuleSet) (caller : List ℕ) (entries : List Given) (xs ys : List SeenEntry) → AreSeenEntries set caller entries xs
    → AreSeenEntries set caller entries ys → map (found_of now) xs ≡ map (found_of now) ys
entries_once now set caller [] xs ys p q = ap (map (found_of now)) (p ∙ sym q)
entries_once now set caller (entry ∷ entries) [] ys p q = absurd p
entries_once now set caller (entry ∷ entries) (x ∷ xs) [] p q = absurd q
entries_once now set caller (entry ∷ entries) (x ∷ xs) (y ∷ ys) p q =
    ap (λ (f : Found). f ∷ map (found_of now) xs) (entry_once now set caller entry x y p.0 q.0)
    ∙ ap (λ (fs : List Found). found_of now y ∷ fs) (entries_once now set caller entries xs ys p.1 q.1)

-- ---- what became of entries

abbrev accepted_from : ℕ → List ℕ → ℕ → ℕ → List ℕ → List (List ℕ) → List NewDuty → batch.Accepted
accepted_from n bus k time text archives duties =
    record { number = n; bus = bus; k = k; time = time; text = text; archives = archives; duties = duties }

accepted_once : (k n : ℕ) (time : List ℕ) (u : Unnumbered) (targets : List SeenTarget) (names : List (List ℕ)) (a b : batch.Accepted)
    → IsAcceptedAs k n time u targets names a → IsAcceptedAs k n time u targets names b → a ≡ b
accepted_once k n time u targets names a b p q =
    ap (λ x. accepted_from x a.bus a.k a.time a.text a.archives a.duties) (p.number ∙ sym q.number)
    ∙ ap (λ x. accepted_from b.number x a.k a.time a.text a.archives a.duties) (p.bus ∙ sym q.bus)
    ∙ ap (λ x. accepted_from b.number b.bus x a.time a.text a.archives a.duties) (p.version ∙ sym q.version)
    ∙ ap (λ x. accepted_from b.number b.bus b.k x a.text a.archives a.duties) (p.at ∙ sym q.at)
    ∙ ap (λ x. accepted_from b.number b.bus b.k b.time x a.archives a.duties) (p.text ∙ sym q.text)
    ∙ ap (λ x. accepted_from b.number b.bus b.k b.time b.text x a.duties) (p.archives ∙ sym q.archives)
    ∙ ap (accepted_from b.number b.bus b.k b.time b.text b.archives)
    (duties_once (numbered_tree n u) time targets a.duties b.duties p.duties q.duties)

event_once : (k n : ℕ) (time : List ℕ) (u : Unnumbered) (v : SeenVerdict) (targets : List SeenTarget) (names : List (List ℕ)) (x y : Placed)
    → IsEventPlaced k n time u v targets names x → IsEventPlaced k n time u v targets names y → x ≡ y
event_once k n time u verdict.Allowed targets names x y (a, p, is) (b, q, so) =
    is ∙ ap accepted_in (accepted_once k n time u targets names a b p q) ∙ sym so
  where
    accepted_in : batch.Accepted → Placed
    accepted_in a = Ok a
event_once k n time u verdict.NoBus targets names x y p q = p ∙ sym q
event_once k n time u (verdict.DeniedBy name) targets names x y p q = p ∙ sym q
event_once k n time u verdict.NotAllowed targets names x y p q = p ∙ sym q
event_once k n time u (verdict.Fault fault) targets names x y p q = p ∙ sym q

placed_once : (k n : ℕ) (time : List ℕ) (entry : Given) (f : Found) (x y : Placed) → IsPlaced k n time entry f x → IsPlaced k n time entry f y → x ≡ y
placed_once k n time (Ok u) f x y p q = event_once k n time u f.verdict f.targets f.archives x y p q
placed_once k n time (Err fault) f x y p q = p ∙ sym q

all_once : (k n : ℕ) (time : List ℕ) (entries : List Given) (found : List Found) (xs ys : List Placed) → ArePlaced k n time entries found xs
    → ArePlaced k n time entries found ys → xs ≡ ys
all_once k n time [] found xs ys p q = p ∙ sym q
all_once k n time (entry ∷ entries) [] xs ys p q = p ∙ sym q
all_once k n time (entry ∷ entries) (f ∷ found) [] ys p q = absurd p
all_once k n time (entry ∷ entries) (f ∷ found) (x ∷ xs) [] p q = absurd q
all_once k n time (entry ∷ entries) (f ∷ found) (x ∷ xs) (y ∷ ys) (is, are) (so, others) =
    let same : y ≡ x = placed_once k n time entry f y x so is in
    let there = subst (λ (z : Placed). ArePlaced k (number_after n z) time entries found ys) same others in
    ap (λ (zs : List Placed). x ∷ zs) (all_once k (number_after n x) time entries found xs ys are there)
    ∙ ap (λ (z : Placed). z ∷ ys) (sym same)

publication_once : (b : Bool) (xs ys : List Placed) → (b ≡ false → xs ≡ ys)
    → cond b (refusal cause.TooLargeTogether) (published xs) ≡ cond b (refusal cause.TooLargeTogether) (published ys)
publication_once true xs ys same = refl
publication_once false xs ys same = ap published (same refl)

published_once : (t : Tables) (k : ℕ) (time : List ℕ) (set : RuleSet) (caller : List ℕ) (entries : List Given) (size : ℕ) (s r : SeenResult)
    (xs ys : List Placed) → IsSeenResult set caller (put_events entries size) s → IsSeenResult set caller (put_events entries size) r
    → HasPlaced t k time s (put_events entries size) xs → HasPlaced t k time r (put_events entries size) ys → publication xs size ≡ publication ys size
published_once t k time set caller entries size (Entries fs) (Entries gs) xs ys p q are so =
    publication_once (nat_lt most_together size) xs ys (λ small.
    all_once k (t.events + 1) time entries (map (found_of t.set) fs.items) xs ys (are small)
    (subst (λ (found : List Found). ArePlaced k (t.events + 1) time entries found ys) (entries_once t.set set caller entries gs.items fs.items q p) (so small)))
published_once t k time set caller entries size (Entries fs) (Tested m) xs ys p q are so = absurd q
published_once t k time set caller entries size (Entries fs) Nothing xs ys p q are so = absurd q
published_once t k time set caller entries size (Tested m) r xs ys p q are so = absurd p
published_once t k time set caller entries size Nothing r xs ys p q are so = absurd p

-- ---- what is decided

pattern_once : (t : Tables) (moment : ℕ) (set : RuleSet) (caller pattern : List ℕ) (event : Tree) (policy : Option Tree) (s r : SeenResult) (xs ys : List Placed)
    → IsSeenResult set caller (test_event_pattern pattern event) s → IsSeenResult set caller (test_event_pattern pattern event) r
    → decided t moment s xs policy (test_event_pattern pattern event) ≡ decided t moment r ys policy (test_event_pattern pattern event)
pattern_once t moment set caller pattern event policy (Tested x) (Tested y) xs ys p q = ap (λ m. shown (tested_reply m)) (tested_once pattern event x y p q)
pattern_once t moment set caller pattern event policy (Tested x) (Entries all) xs ys p q = absurd q
pattern_once t moment set caller pattern event policy (Tested x) Nothing xs ys p q = absurd q
pattern_once t moment set caller pattern event policy (Entries all) r xs ys p q = absurd p
pattern_once t moment set caller pattern event policy Nothing r xs ys p q = absurd p

decided_once : (t : Tables) (moment k : ℕ) (time : List ℕ) (set : RuleSet) (caller : List ℕ) (policy : Option Tree) (action : Action) (s r : SeenResult)
    (xs ys : List Placed) → IsSeenResult set caller action s → IsSeenResult set caller action r → HasPlaced t k time s action xs
    → HasPlaced t k time r action ys → decided t moment s xs policy action ≡ decided t moment r ys policy action
decided_once t moment k time set caller policy (put_events entries size) s r xs ys p q are so =
    published_once t k time set caller entries size s r xs ys p q are so
decided_once t moment k time set caller policy (test_event_pattern pattern event) s r xs ys p q are so =
    pattern_once t moment set caller pattern event policy s r xs ys p q
decided_once t moment k time set caller policy action s r xs ys p q are so = ap (λ (x : SeenResult). decided t moment x xs policy action) (p ∙ sym q)

-- ---- the policy that an action names

there_once : (bus : Option Bus) (p q : Option Tree) → IsPolicyThere bus p → IsPolicyThere bus q → p ≡ q
there_once None p q a b = a ∙ sym b
there_once (Some bus) p q a b = policy_once bus.policy p q a b

named_once : (set : RuleSet) (action : Action) (p q : Option Tree) → IsPolicyNamed set action p → IsPolicyNamed set action q → p ≡ q
named_once set (put_statement bus sid account) p q a b = there_once (named (λ (x : Bus). x.name) bus set.buses) p q a b
named_once set (remove_statement bus sid) p q a b = there_once (named (λ (x : Bus). x.name) bus set.buses) p q a b
named_once set action p q a b = a ∙ sym b

pub one_answer : (t : Tables) (r : Request) (k : ℕ) (set : RuleSet) (a b : Answer) → IsAnswer t r k set a → IsAnswer t r k set b → a ≡ b
one_answer t r k set a b p q =
    let policies = named_once t.set r.action p.policy q.policy p.is_policy q.is_policy in
    let times : q.time ≡ p.time = iso_once (moment_at t r.reading) q.time p.time q.is_time p.is_time in
    let there = subst (λ (x : List ℕ). HasPlaced t k x q.seen r.action q.placed) times q.has_placed in
    let moment = moment_at t r.reading in
    let same = decided_once t moment k p.time set r.caller p.policy r.action p.seen q.seen p.placed q.placed p.is_seen q.is_seen p.has_placed there
    ∙ ap (λ (o : Option Tree). decided t moment q.seen q.placed o r.action) policies in
    p.answers ∙ ap (λ (d : Decided). answer_at t moment d) same ∙ sym q.answers
