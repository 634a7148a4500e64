-- What answers of several calls cite: `first_and_rest`, `on_ok_more` and `if_ok_more`. `answered` leads from a decision to the answer of
-- `decide`, `matched_now` and `bounded_value` to what it asks for.
use Rattle.std.proofs.Common.{◌≡◌, ℕ, suc, ◌-◌, ◌≤◌, List, [], ◌∷◌, length, get_or, take, drop, Option, None, sym, refl, ap, ◌∙◌, subst, arith}
use Rattle.std.specs.Prelude.{Result, Ok, Err, IfOk, OnOk, IsTrue}
use Rattle.std.proofs.Math.Seq.{take-length}
use Rattle.std.proofs.lemmas.List.Elements.{All-weaker}
use Rattle.json_text.specs.Moment.{IsMoment}
use Rattle.json_text.specs.Tree.{Tree}
use Rattle.event_time.specs.Time.{IsIso}
use Rattle.event_shape.specs.Names.{is_account}
use Rattle.rule_table.specs.RuleSet.{RuleSet}
use Rattle.rule_table.specs.Sound.{IsSound}
use Rattle.router_requests.specs.Request.{Action, Request, put_events, put_statement, remove_statement, test_event_pattern, AreEntriesOf, IsEntryOf, IsEntitled, IsOneTurn}
use Rattle.router_core.specs.Tables.{Tables, moment_at}
use Rattle.router_requests.specs.Matching.{HasValue, IsSeen}
use Rattle.router_requests.specs.declared.seen.Seen.{Seen}
use Rattle.router_requests.specs.Bounds.{IsBounded}
use Rattle.router_calls.specs.Accepted.{Given, Placed}
use Rattle.resource_calls.specs.Decision.{Decided}
use Rattle.router_calls.specs.Answer.{Answer, HasPlaced, IsAnswer, answer_at, decided}
use Rattle.router_calls.specs.Matched.{IsMatchedOn}
use Rattle.router_calls.specs.Permission.{IsPolicyNamed}
use Rattle.router_calls.specs.Steps.{HasAccount, HaveAccounts, IsDecidedAs, IsSeenOn}
use Rattle.router_core.proofs.TimeLemmas.{iso_of}

-- what a slice pattern takes apart
pub first_and_rest : {X : Type 0} (xs : List X) (x : X) → 1 ≤ length xs → x ≡ get_or xs 0 x → xs ≡ x ∷ take (length xs - 1) (drop 1 xs)
first_and_rest [] x some is = absurd (omega (arith, some))
first_and_rest (y ∷ ys) x some is =
    let e : suc (length ys) - 1 ≡ length ys = omega arith in
    ap (λ z. z ∷ ys) (sym is) ∙ ap (λ l. x ∷ l) (sym (ap (λ n. take n ys) e ∙ take-length ys))

pub on_ok_more : {T E : Type 0} {P Q : Type 0} (r : Result T E) → (P → Q) → OnOk r P → OnOk r Q
on_ok_more (Ok x) more h = more h
on_ok_more (Err e) more h = tt

pub if_ok_more : {T E : Type 0} {P Q : T → Type 0} (r : Result T E) → ((x : T) → P x → Q x) → IfOk r P → IfOk r Q
if_ok_more (Ok x) more h = more x h
if_ok_more (Err e) more h = tt

-- what was matched on a rule set was seen on it
pub seen_on : (t : Tables) (request : Request) (set : RuleSet) (seen : Seen) → IsMatchedOn t request set seen
    → IsSeenOn t set request.caller request.action seen
seen_on t request set seen m = record { sound = m.sound; version = m.is_seen.k; known = m.known; result = m.is_seen.result }

-- what became of the entries of an action, and the policy, by which it was decided
record IsBy (t : Tables) (moment : ℕ) (time : List ℕ) (seen : Seen) (action : Action) (d : Decided) : Type 0 where
  pub placed : List Placed
  pub has_placed : HasPlaced t seen.k time seen.result action placed
  pub policy : Option Tree
  pub is_policy : IsPolicyNamed t.set action policy
  pub is : d ≡ decided t moment seen.result placed policy action

decided_by : (t : Tables) (moment : ℕ) (time : List ℕ) (seen : Seen) (action : Action) (d : Decided) → IsIso moment time
    → IsDecidedAs t moment seen action d → IsBy t moment time seen action d
decided_by t moment time seen (put_events entries size) d at is =
    let (placed, are, so) = is time at in
    record { placed = placed; has_placed = are; policy = None; is_policy = refl; is = so }
decided_by t moment time seen (put_statement bus sid account) d at (policy, there, is) =
    record { placed = []; has_placed = tt; policy = policy; is_policy = there; is = is }
decided_by t moment time seen (remove_statement bus sid) d at (policy, there, is) =
    record { placed = []; has_placed = tt; policy = policy; is_policy = there; is = is }
decided_by t moment time seen action d at is = record { placed = []; has_placed = tt; policy = None; is_policy = refl; is = is }

-- what is decided is the answer on each rule set that the request was matched on
pub answered : (t : Tables) (request : Request) (seen : Seen) (moment : ℕ) (d : Decided) (a : Answer) → IsBounded request.action → IsEntitled request
    → IsOneTurn request.action → IsMoment moment → moment ≡ moment_at t request.reading → IsDecidedAs t moment seen request.action d
    → a ≡ answer_at t moment d → (set : RuleSet) → IsMatchedOn t request set seen → IsAnswer t request seen.k set a
answered t request seen moment d a bounded entitled one_turn fits at is so set m =
    let (time, shown) = iso_of moment (omega (arith, fits)) in
    let p = decided_by t moment time seen request.action d shown is in
    record {
      bounded = bounded;
      entitled = entitled;
      one_turn = one_turn;
      version = sym m.is_seen.k;
      known = omega (arith, m.is_seen.k, m.known);
      latest = m.latest;
      seen = seen.result;
      is_seen = m.is_seen.result;
      policy = p.policy;
      is_policy = p.is_policy;
      time = time;
      is_time = subst (λ n. IsIso n time) at shown;
      placed = p.placed;
      has_placed = p.has_placed;
      answers = so ∙ ap (λ n. answer_at t n d) at ∙ ap (λ (x : Decided). answer_at t (moment_at t request.reading) x)
          (p.is ∙ ap (λ n. decided t n seen.result p.placed p.policy request.action) at);
    }

-- the events that a caller publishes have accounts of callers
entry_account : (caller : List ℕ) → IsTrue (is_account caller) → (entry : Given) → IsEntryOf caller entry → HasAccount entry
entry_account caller is (Ok event) of = subst (λ (a : List ℕ). IsTrue (is_account a)) (sym of) is
entry_account caller is (Err fault) of = tt

pub accounts : (caller : List ℕ) (action : Action) → IsTrue (is_account caller) → AreEntriesOf caller action → HaveAccounts action
accounts caller (put_events entries size) is of = All-weaker (IsEntryOf caller) HasAccount (entry_account caller is) entries of
accounts caller _ is of = tt

-- what is seen of a request on the latest rule set is what `decide` asks for
pub matched_now : (t : Tables) (request : Request) (set : RuleSet) (seen : Seen) → set ≡ t.set → IsSound t.set → IsSeen set request seen
    → (s : RuleSet) × IsMatchedOn t request s seen
matched_now t request set seen same sound is =
    (t.set, record { sound = sound; is_seen = subst (λ (s : RuleSet). IsSeen s request seen) same is; known = omega arith; latest = λ _. refl })

-- the tested event of a bounded request is a JSON value
pub bounded_value : (action : Action) → IsBounded action → HasValue action
bounded_value (test_event_pattern pattern event) h = h.1
bounded_value _ h = tt
