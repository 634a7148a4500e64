-- The next step of the replays. The answers of `replaying` cite `next_never`, `next_of`, `next_shown`, `none_next`, `passing_done`,
-- `passing_more`, `passing_less`, `one_step`, `made_step`, `all_ready` and `all_steps`.
use Rattle.std.proofs.Common.{◌≡◌, ◌≢◌, ℕ, ◌+◌, ◌*◌, ◌≤◌, ◌⊎◌, inl, inr, Bool, true, false, cond, List, [], ◌∷◌, ◌++◌, length, map, Option, Some, None, refl, sym, ap, ◌∙◌, subst, arith, append_assoc}
use Rattle.std.specs.Prelude.{All, filter, Result, IfOk}
use Rattle.std.proofs.lemmas.Result.{IfOk-weaker}
use Rattle.std.proofs.lemmas.List.{append-nil}
use Rattle.std.proofs.lemmas.List.Elements.{All-nil, All-cons, filter-append}
use Rattle.json_text.specs.Tree.{Tree}
use Rattle.json_text.specs.Limits.{most_text}
use Rattle.json_text.specs.Moment.{IsMoment}
use Rattle.event_time.specs.Time.{IsIso}
use Rattle.event_shape.specs.Event.{Event, IsEventText, event_tree}
use Rattle.rule_targets.specs.declared.target.Target.{Target}
use Rattle.rule_table.specs.RuleSet.{Rule, RuleSet, rules_of}
use Rattle.rule_table.specs.Sound.{IsSound}
use Rattle.delivery_duties.specs.declared.duty.NewDuty.{NewDuty}
use Rattle.archive_keep.specs.declared.event_ref.KeptEvent.{KeptEvent}
use Rattle.replay_run.specs.declared.row.ReplayRow.{ReplayRow}
use Rattle.replay_run.specs.declared.state.ReplayState.TheVariants.{Running}
use Rattle.replay_run.specs.Replay.{replay_state}
use Rattle.replay_run.proofs.ReplaysLemmas.{runs_state}
use Rattle.replay_run.specs.Replays.{found, is_running, running, running_named}
use Rattle.replay_run.specs.Replays as replay_list
use Rattle.router_requests.specs.declared.seen.SeenTarget.{SeenTarget}
use Rattle.router_requests.specs.declared.batch.Batch.{Batch as CodeBatch}
use Rattle.router_requests.specs.declared.batch.Entry.{Entry as CodeEntry}
use Rattle.router_requests.specs.declared.batch.Entry.TheVariants.{ReplayStepped}
use Rattle.router_requests.specs.declared.batch.SteppedReplay.{SteppedReplay}
use Rattle.router_core.specs.declared.ready.Part.{Part}
use Rattle.router_core.specs.declared.ready.Ready.{Ready}
use Rattle.router_requests.specs.Batch.{Batch, Stepped, replay_stepped}
use Rattle.router_core.specs.Tables.{Tables, is_full}
use Rattle.router_requests.specs.View.{batch_of, entry_of, stepped_of}
use Rattle.router_requests.specs.Matching.{AreMatched, IsSeenEvent, Matches, seen_target}
use Rattle.router_requests.specs.Duties.{AreDuties}
use Rattle.router_core.specs.Admitted.{IsAdmitted, IsStepAdmitted}
use Rattle.router_core.specs.Ready.{ArePartsOf, IsNoStart, IsPartOf, IsReadyFor}
use Rattle.router_core.specs.Replaying.{IsNextOf, IsNextReplayed, IsOneStep, IsReplayStep, passes, rules_for}
use Rattle.router_core.proofs.StartLemmas.{made_on}
use Rattle.router_core.proofs.TimeLemmas.{iso_of}
use Rattle.router_requests.proofs.MatchingLemmas.{few_matched}
use Rattle.router_requests.proofs.DutyLemmas.{duties_count, duties_short}

-- the first replay that runs, by its name
runs_first : (all : List ReplayRow) (row : ReplayRow) (others : List ReplayRow) → running all ≡ row ∷ others → is_running row ≡ true
runs_first [] row others is = absurd (cc)
runs_first (r ∷ all) row others is =
    (elim (is_running r) as (λ b. is_running r ≡ b → cond b (r ∷ running all) (running all) ≡ row ∷ others → is_running row ≡ true) [
      | true ↦ λ e h. let same : r ≡ row = cc in subst (λ (x : ReplayRow). is_running x ≡ true) same e
      | false ↦ λ e h. runs_first all row others h
    ]) refl is

pub next_named : (t : Tables) (bus : List ℕ) (event : Event) (name : List ℕ) → (n : IsNextReplayed t bus event name) → running_named name t.replays ≡ Some n.row
next_named t bus event name n =
    let runs = runs_first t.replays n.row n.others n.first in
    ap (λ x. running_named x t.replays) n.name_is ∙ ap replay_list.if_running n.own ∙ ap (λ b. cond b (Some n.row) None) runs

-- ---- the rules that pass a filter

abbrev passes_rule : Option (List (List ℕ)) → Rule → Bool
passes_rule rules rule = passes rules rule.name

abbrev pub passes_target : Option (List (List ℕ)) → SeenTarget → Bool
passes_target rules seen = passes rules seen.row.rule_name

-- the targets of one rule pass together
one_rule : (rules : Option (List (List ℕ))) (rule : Rule) (targets : List Target)
    → filter (passes_target rules) (map (seen_target rule) targets) ≡ cond (passes rules rule.name) (map (seen_target rule) targets) []
one_rule rules rule [] =
    let none : List SeenTarget = [] in elim (passes rules rule.name) as (λ b. none ≡ cond b none none) [ true ↦ refl | false ↦ refl ]
one_rule rules rule (target ∷ targets) =
    let more = one_rule rules rule targets in
    elim (passes rules rule.name) as (λ b. filter (passes_target rules) (map (seen_target rule) targets) ≡ cond b (map (seen_target rule) targets) []
    → cond b (seen_target rule target ∷ filter (passes_target rules) (map (seen_target rule) targets)) (filter (passes_target rules) (map (seen_target rule) targets))
    ≡ cond b (seen_target rule target ∷ map (seen_target rule) targets) []) [
      | true ↦ λ e. ap (λ ts. seen_target rule target ∷ ts) e
      | false ↦ λ e. e
    ] more

pub matched_passing : (rules : Option (List (List ℕ))) (all : List Rule) (event : Tree) (targets : List SeenTarget) → AreMatched all event targets
    → AreMatched (filter (passes_rule rules) all) event (filter (passes_target rules) targets)
matched_passing rules [] event targets none = ap (filter (passes_target rules)) none
matched_passing rules (rule ∷ all) event targets (rest, are, which) =
    let F = passes_target rules in
    let own = map (seen_target rule) rule.targets in
    let more = matched_passing rules all event rest are in
    let one = one_rule rules rule rule.targets in
    (elim (passes rules rule.name) as (λ b. filter F own ≡ cond b own []
    → AreMatched (cond b (rule ∷ filter (passes_rule rules) all) (filter (passes_rule rules) all)) event (filter F targets)) [
      | true ↦ λ e. (
        filter F rest,
        more,
        elim which [
          | inl (m, is) ↦ inl (m, ap (filter F) is ∙ filter-append F own rest ∙ ap (λ ts. ts ++ filter F rest) e)
          | inr (n, is) ↦ inr (n, ap (filter F) is)
        ],
      )
      | false ↦ λ e.
          let same : filter F targets ≡ filter F rest = elim which [
            | inl (m, is) ↦ ap (filter F) is ∙ filter-append F own rest ∙ ap (λ ts. ts ++ filter F rest) e
            | inr (n, is) ↦ ap (filter F) is
          ] in
          subst (AreMatched (filter (passes_rule rules) all) event) (sym same) more
    ]) one

-- ---- the loop over targets

-- what is kept so far, with what is kept of the rest, is what is kept of all
pub passing_more : (rules : Option (List (List ℕ))) (all left rest kept now : List SeenTarget) (seen : SeenTarget) → left ≡ seen ∷ rest → passes rules seen.row.rule_name ≡ true
    → now ≡ kept ++ seen ∷ [] → kept ++ filter (passes_target rules) left ≡ filter (passes_target rules) all
    → now ++ filter (passes_target rules) rest ≡ filter (passes_target rules) all
passing_more rules all left rest kept now seen is passing grown so =
    let F = passes_target rules in
    let here : filter F left ≡ seen ∷ filter F rest = ap (filter F) is ∙ ap (λ b. cond b (seen ∷ filter F rest) (filter F rest)) passing in
    ap (λ xs. xs ++ filter F rest) grown ∙ append_assoc kept (seen ∷ []) (filter F rest) ∙ ap (λ xs. kept ++ xs) (sym here) ∙ so

pub passing_less : (rules : Option (List (List ℕ))) (all left rest kept : List SeenTarget) (seen : SeenTarget) → left ≡ seen ∷ rest → passes rules seen.row.rule_name ≡ false
    → kept ++ filter (passes_target rules) left ≡ filter (passes_target rules) all
    → kept ++ filter (passes_target rules) rest ≡ filter (passes_target rules) all
passing_less rules all left rest kept seen is passing so =
    let F = passes_target rules in
    let here : filter F left ≡ filter F rest = ap (filter F) is ∙ ap (λ b. cond b (seen ∷ filter F rest) (filter F rest)) passing in
    ap (λ xs. kept ++ xs) (sym here) ∙ so

pub passing_done : (rules : Option (List (List ℕ))) (all left kept : List SeenTarget) → left ≡ [] → kept ++ filter (passes_target rules) left ≡ filter (passes_target rules) all
    → kept ≡ filter (passes_target rules) all
passing_done rules all left kept none so =
    let F = passes_target rules in
    sym (append-nil kept) ∙ ap (λ xs. kept ++ filter F xs) (sym none) ∙ so

-- ---- the batch of a step

-- a batch of one step, with its part
pub one_step : (moment : ℕ) (s : SteppedReplay) (r : Ready) (b : CodeBatch) (part : Part) → r.batch ≡ b → b.moment ≡ moment
    → b.entries.items ≡ ReplayStepped s ∷ [] → r.parts.items ≡ part ∷ []
    → ((m : ℕ) (set : RuleSet) → IsPartOf m set (replay_stepped (stepped_of s)) part) → IsOneStep moment (stepped_of s) r
one_step moment s r b part is at entries parts fits =
    let whole : batch_of b ≡ record { moment = moment; entries = replay_stepped (stepped_of s) ∷ [] } =
    ap (λ (es : List CodeEntry). record { moment = b.moment; entries = map entry_of es }) entries
    ∙ ap (λ (m : ℕ). record { moment = m; entries = replay_stepped (stepped_of s) ∷ [] }) at in
    let own : batch_of r.batch ≡ record { moment = moment; entries = replay_stepped (stepped_of s) ∷ [] } = ap batch_of is ∙ whole in
    record {
      batch = own;
      prepared = λ set. subst (λ (ps : List Part). ArePartsOf r.batch.moment set (batch_of r.batch).entries ps) (sym parts)
          (subst (λ (x : Batch). ArePartsOf r.batch.moment set x.entries (part ∷ [])) (sym own) (fits r.batch.moment set, refl));
    }

-- what the step of the next event makes, with its targets and duties
pub record IsMadeStep (t : Tables) (moment : ℕ) (bus : List ℕ) (event : Event) (name : List ℕ) (seen targets : List SeenTarget) (s : Stepped) : Type 0 where
  pub next : IsNextReplayed t bus event name
  pub matched : AreMatched (rules_of bus t.set) (event_tree event (Some name)) seen
  pub passing : targets ≡ filter (passes_target next.row.settings.rules) seen
  pub name_is : s.name ≡ name
  pub event_is : s.event ≡ next.kept.number
  pub duties : (time : List ℕ) → IsIso moment time → AreDuties (event_tree event (Some name)) time targets s.duties

few_filtered : (p : SeenTarget → Bool) (seen : List SeenTarget) → length (filter p seen) ≤ length seen
few_filtered p [] = omega arith
few_filtered p (s ∷ seen) =
    let more = few_filtered p seen in
    elim (p s) as (λ b. length (cond b (s ∷ filter p seen) (filter p seen)) ≤ length (s ∷ seen)) [ true ↦ omega (arith, more) | false ↦ omega (arith, more) ]

few_kept : (rules : Option (List (List ℕ))) (seen targets : List SeenTarget) → targets ≡ filter (passes_target rules) seen → length targets ≤ length seen
few_kept rules seen targets is = omega (arith, ap (length {A = SeenTarget}) is, few_filtered (passes_target rules) seen)

-- the step is admitted
step_admitted : (t : Tables) (moment : ℕ) (bus : List ℕ) (event : Event) (name : List ℕ) (seen targets : List SeenTarget) (s : Stepped) (time : List ℕ)
    → IsMadeStep t moment bus event name seen targets s → IsIso moment time → IsSound t.set → IsStepAdmitted t s
step_admitted t moment bus event name seen targets s time m is_time sound =
    let n = m.next in
    let are = m.duties time is_time in
    record {
      row = n.row;
      runs = ap (λ x. running_named x t.replays) m.name_is ∙ next_named t bus event name n;
      event = n.kept;
      rest = n.rest;
      next = n.left;
      number = m.event_is;
      few = omega (
        arith,
        duties_count (event_tree event (Some name)) time targets s.duties are,
        few_kept n.row.settings.rules seen targets m.passing,
        few_matched t.set bus (event_tree event (Some name)) seen sound m.matched,
      );
      short = duties_short (event_tree event (Some name)) time targets s.duties are;
    }

pub step_ready : (t : Tables) (moment : ℕ) (bus : List ℕ) (event : Event) (name : List ℕ) (seen targets : List SeenTarget) (s : Stepped) (time : List ℕ) (r : Ready)
    → IsMadeStep t moment bus event name seen targets s → IsIso moment time → IsSound t.set → IsMoment moment → t.moment ≤ moment → is_full t ≡ false
    → IsOneStep moment s r → IsReadyFor t r
step_ready t moment bus event name seen targets s time r m is_time sound valid later full one =
    let admitted : IsAdmitted t (record { moment = moment; entries = replay_stepped s ∷ [] }) = record {
      moment = valid;
      later = later;
      numbered = full;
      one_turn = inl (replay_stepped s, refl);
      entries = (step_admitted t moment bus event name seen targets s time m is_time sound, tt);
    } in
    record {
      admitted = subst (IsAdmitted t) (sym one.batch) admitted;
      prepared = (
        one.prepared t.set,
        made_on r.batch.moment (batch_of r.batch).entries r.parts.items t
            (subst (λ (b : Batch). All IsNoStart b.entries) (sym one.batch) (All-cons IsNoStart (replay_stepped s) [] tt (All-nil IsNoStart))),
      );
    }

pub step_is : (t : Tables) (moment : ℕ) (bus : List ℕ) (event : Event) (name : List ℕ) (seen targets : List SeenTarget) (s : Stepped) (time : List ℕ) (r : Ready)
    → IsMadeStep t moment bus event name seen targets s → IsIso moment time → IsOneStep moment s r → IsReplayStep t moment (batch_of r.batch)
step_is t moment bus event name seen targets s time r m is_time one =
    let n = m.next in
    let settings = n.row.settings in
    let made : List ℕ → ℕ → Stepped = λ x k. record { name = x; event = k; duties = s.duties } in
    let whole : Stepped → Batch = λ x. record { moment = moment; entries = replay_stepped x ∷ [] } in
    let own : rules_of bus t.set ≡ rules_of settings.bus t.set = ap (λ b. rules_of b t.set) n.bus_is in
    let matched = matched_passing settings.rules (rules_of settings.bus t.set) (event_tree event (Some name)) seen
    (subst (λ rules. AreMatched rules (event_tree event (Some name)) seen) own m.matched) in
    record {
      bus = bus;
      event = event;
      name = name;
      next = n;
      targets = targets;
      matched = subst (AreMatched (rules_for settings t.set) (event_tree event (Some name))) (sym m.passing) matched;
      time = time;
      is_time = is_time;
      duties = s.duties;
      owed = m.duties time is_time;
      is = one.batch ∙ ap whole (ap (λ (x : List ℕ). made x s.event) m.name_is ∙ ap (made name) m.event_is);
    }

-- ---- what the calls need

-- a replay that is stepped next runs
pub next_never : (all : List ReplayRow) (row : ReplayRow) → (rest : List ReplayRow) × (running all ≡ row ∷ rest) → replay_state row.replay ≢ Running → ⊥
next_never all row (rest, is) ended = ended (runs_state row (runs_first all row rest is))

pub next_of : (t : Tables) (all : List ReplayRow) (row : ReplayRow) (kept : KeptEvent) → all ≡ t.replays → (rest : List ReplayRow) × (running all ≡ row ∷ rest)
    → found (replay_list.name_of row) all ≡ Some row → (rest : List KeptEvent) × (row.replay.left ≡ kept ∷ rest) → IsNextOf t row kept
next_of t all row kept same (others, first) own (rest, left) = record {
  others = others;
  first = ap running (sym same) ∙ first;
  own = ap (found (replay_list.name_of row)) (sym same) ∙ own;
  rest = rest;
  left = left;
}

pub next_shown : (t : Tables) (bus : List ℕ) (event : Event) (name : List ℕ) (row : ReplayRow) (kept : KeptEvent) → IsNextOf t row kept
    → IsEventText kept.text event → bus ≡ row.settings.bus → name ≡ row.settings.name → IsNextReplayed t bus event name
next_shown t bus event name row kept n text bus_is name_is = record {
  row = row;
  others = n.others;
  first = n.first;
  own = n.own;
  kept = kept;
  rest = n.rest;
  left = n.left;
  text = text;
  bus_is = bus_is;
  name_is = name_is;
}

-- the replay and the event that a call finds are those that are next
pub same_row : (t : Tables) (bus : List ℕ) (event : Event) (name : List ℕ) (n : IsNextReplayed t bus event name) (row : ReplayRow) (kept : KeptEvent)
    → IsNextOf t row kept → row ≡ n.row
same_row t bus event name n row kept m = let both : row ∷ m.others ≡ n.row ∷ n.others = sym m.first ∙ n.first in cc

pub same_kept : (t : Tables) (bus : List ℕ) (event : Event) (name : List ℕ) (n : IsNextReplayed t bus event name) (row : ReplayRow) (kept : KeptEvent)
    → IsNextOf t row kept → kept ≡ n.kept
same_kept t bus event name n row kept m =
    let same = same_row t bus event name n row kept m in
    let both : kept ∷ m.rest ≡ n.kept ∷ n.rest = sym m.left ∙ ap (λ (r : ReplayRow). r.replay.left) same ∙ n.left in cc

-- no replay runs, though one is next
pub none_next : (t : Tables) (bus : List ℕ) (event : Event) (name : List ℕ) → IsNextReplayed t bus event name → running t.replays ≡ [] → ⊥
none_next t bus event name n none = let never : [] ≡ n.row ∷ n.others = sym none ∙ n.first in cc

-- what a step is made of
pub made_step : (t : Tables) (moment k : ℕ) (bus : List ℕ) (event : Event) (name : List ℕ) (seen targets : List SeenTarget) (s : Stepped) (row : ReplayRow)
    (kept : KeptEvent) → (n : IsNextReplayed t bus event name) → IsSeenEvent t.set bus (event_tree event (Some name)) k seen → IsNextOf t row kept
    → targets ≡ filter (passes_target row.settings.rules) seen → s.name ≡ name → s.event ≡ kept.number
    → ((time : List ℕ) → IsIso moment time → AreDuties (event_tree event (Some name)) time targets s.duties)
    → IsMadeStep t moment bus event name seen targets s
made_step t moment k bus event name seen targets s row kept n found_so m passing name_is event_is duties =
    let same = same_row t bus event name n row kept m in
    let own = same_kept t bus event name n row kept m in
    record {
      next = n;
      matched = found_so.matched;
      passing = passing ∙ ap (λ (r : ReplayRow). filter (passes_target r.settings.rules) seen) same;
      name_is = name_is;
      event_is = event_is ∙ ap (λ (e : KeptEvent). e.number) own;
      duties = duties;
    }

pub all_ready : {E : Type 0} (r : Result Ready E) (t : Tables) (moment : ℕ) (bus : List ℕ) (event : Event) (name : List ℕ) (seen targets : List SeenTarget)
    (s : Stepped) → IsMadeStep t moment bus event name seen targets s → IsSound t.set → IsMoment moment → t.moment ≤ moment → is_full t ≡ false
    → IfOk r (λ x. IsOneStep moment s x) → IfOk r (λ x. IsReadyFor t x)
all_ready r t moment bus event name seen targets s made sound valid later full ok =
    let (time, is_time) = iso_of moment (omega (arith, valid)) in
    IfOk-weaker r (λ x. IsOneStep moment s x) (λ x. IsReadyFor t x)
    (λ x one. step_ready t moment bus event name seen targets s time x made is_time sound valid later full one) ok

pub all_steps : {E : Type 0} (r : Result Ready E) (t : Tables) (moment : ℕ) (bus : List ℕ) (event : Event) (name : List ℕ) (seen targets : List SeenTarget)
    (s : Stepped) → IsMadeStep t moment bus event name seen targets s → IsMoment moment → IfOk r (λ x. IsOneStep moment s x)
    → IfOk r (λ x. IsReplayStep t moment (batch_of x.batch))
all_steps r t moment bus event name seen targets s made valid ok =
    let (time, is_time) = iso_of moment (omega (arith, valid)) in
    IfOk-weaker r (λ x. IsOneStep moment s x) (λ x. IsReplayStep t moment (batch_of x.batch))
    (λ x one. step_is t moment bus event name seen targets s time x made is_time one) ok
