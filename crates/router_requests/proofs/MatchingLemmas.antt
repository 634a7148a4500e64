-- The targets of the rules that match an event. Other files cite `matched_more`, `matched_same`, `matched_of_bus`,
-- `matched_numbered` (an event's number does not matter), `seen_row`, `rows_done`, `seen_at`, and `few_matched`: an event has at most 1,500 targets.
use Rattle.std.proofs.Common.{◌≡◌, ℕ, ◌*◌, ◌≤◌, ◌⊎◌, inl, inr, true, false, cond, List, [], ◌∷◌, ◌++◌, length, map}
use Rattle.std.proofs.Common.{◌+◌, ◌<◌, get_or, take, drop, codes, Option, Some, None, sym, refl, ap, ◌∙◌, subst, arith, append_assoc, length-append}
use Rattle.std.specs.Prelude.{All, Result, bytes_eq}
use Rattle.std.proofs.lemmas.List.{append-nil, length-map, take_all, take_more}
use Rattle.std.proofs.lemmas.List.Elements.{All-head, All-tail}
use Rattle.json_text.specs.Tree.{Tree}
use Rattle.event_shape.specs.Id.{event_id}
use Rattle.event_shape.specs.Event.{Event, event_members, event_tree}
use Rattle.event_shape.specs.Unnumbered.{Unnumbered, with_number}
use Rattle.event_shape.specs.declared.entry.EntryFault.{EntryFault}
use Rattle.pattern_meaning.proofs.UnseenLemmas.{other_text}
use Rattle.pattern_read.proofs.SoundLemmas.{text_lacks_id}
use Rattle.rule_targets.specs.declared.target.Target.{Target}
use Rattle.name_rows.specs.Rows.{named}
use Rattle.rule_table.specs.RuleSet.{Rule, Bus, RuleSet, rules_of, rules_in}
use Rattle.rule_table.specs.Sound.{IsSound, HasSoundTargets}
use Rattle.rule_table.specs.Target.{StoredTarget, stored_of}
use Rattle.router_requests.specs.declared.seen.SeenTarget.{SeenTarget}
use Rattle.router_requests.specs.declared.seen.SeenEntry.{SeenEntry}
use Rattle.router_requests.specs.Matching.{Matches, seen_target, AreMatched, IsSeenEntry, AreSeenEntries}

one_more : (rules : List Rule) (rule : Rule) (event : Tree) (targets more : List SeenTarget) → AreMatched rules event targets
    → (Matches rule event × (more ≡ map (seen_target rule) rule.targets)) ⊎ ((¬ Matches rule event) × (more ≡ []))
    → AreMatched (rules ++ rule ∷ []) event (targets ++ more)
one_more [] rule event targets more none step =
    let alone : targets ++ more ≡ more = ap (λ (ts : List SeenTarget). ts ++ more) none in
    elim step [
      | inl (m, e) ↦ ([], refl, inl (m, alone ∙ e ∙ sym (append-nil (map (seen_target rule) rule.targets))))
      | inr (n, e) ↦ ([], refl, inr (n, alone ∙ e))
    ]
one_more (r ∷ rules) rule event targets more (rest, are, which) step = (
  rest ++ more,
  one_more rules rule event rest more are step,
  elim which [
    | inl (m, e) ↦ inl (m, ap (λ (ts : List SeenTarget). ts ++ more) e ∙ append_assoc (map (seen_target r) r.targets) rest more)
    | inr (n, e) ↦ inr (n, ap (λ (ts : List SeenTarget). ts ++ more) e)
  ],
)

-- with a further rule that matches
pub matched_more : (rules : List Rule) (rule : Rule) (event : Tree) (targets new : List SeenTarget) → AreMatched rules event targets
    → Matches rule event → new ≡ targets ++ map (seen_target rule) rule.targets → AreMatched (rules ++ rule ∷ []) event new
matched_more rules rule event targets new are m e =
    subst (AreMatched (rules ++ rule ∷ []) event) (sym e)
    (one_more rules rule event targets (map (seen_target rule) rule.targets) are (inl (m, refl)))

-- with a further rule that does not match
pub matched_same : (rules : List Rule) (rule : Rule) (event : Tree) (targets new : List SeenTarget) → AreMatched rules event targets
    → ¬ Matches rule event → new ≡ targets → AreMatched (rules ++ rule ∷ []) event new
matched_same rules rule event targets new are n e =
    subst (AreMatched (rules ++ rule ∷ []) event) (append-nil targets ∙ sym e) (one_more rules rule event targets [] are (inr (n, refl)))

-- the targets of all rules of the bus
pub matched_of_bus : (bus : List ℕ) (set : RuleSet) (found : Bus) (rules : List Rule) (event : Tree) (targets : List SeenTarget)
    → named (λ (b : Bus). b.name) bus set.buses ≡ Some found → rules ≡ found.rules → AreMatched rules event targets
    → AreMatched (rules_of bus set) event targets
matched_of_bus bus set found rules event targets e same are =
    subst (λ (rs : List Rule). AreMatched rs event targets) (same ∙ sym (ap rules_in e)) are

-- a row that is found is one of the rows
named_all : {A : Type 0} (P : A → Type 0) (f : A → List ℕ) (name : List ℕ) (rows : List A) (row : A) → All P rows → named f name rows ≡ Some row → P row
named_all P f name [] row all e = cc
named_all P f name (r ∷ rows) row all e =
    (elim (bytes_eq (f r) name) as (λ b. cond b (Some r) (named f name rows) ≡ Some row → P row) [
      | true ↦ λ g. let same : r ≡ row = cc in subst P same (All-head P r rows all)
      | false ↦ λ g. named_all P f name rows row (All-tail P r rows all) g
    ]) e

few_all : (set : RuleSet) (rules : List Rule) (event : Tree) (targets : List SeenTarget) → All (HasSoundTargets set) rules
    → AreMatched rules event targets → length targets ≤ 5 * length rules
few_all set [] event targets all none = omega (arith, ap length none)
few_all set (rule ∷ rules) event targets all (rest, are, which) =
    let own : length rule.targets ≤ 5 = (All-head (HasSoundTargets set) rule rules all).0 in
    let others : length rest ≤ 5 * length rules = few_all set rules event rest (All-tail (HasSoundTargets set) rule rules all) are in
    let more = map (seen_target rule) rule.targets in
    elim which [
      | inl (m, e) ↦ omega (arith, others, own, ap length e, length-append more rest, length-map rule.targets (seen_target rule))
      | inr (n, e) ↦ omega (arith, others, ap length e)
    ]

-- an event has at most 1,500 targets
pub few_matched : (set : RuleSet) (bus : List ℕ) (event : Tree) (targets : List SeenTarget) → IsSound set → AreMatched (rules_of bus set) event targets
    → length targets ≤ 1500
few_matched set bus event targets sound =
    by_bus (named (λ (b : Bus). b.name) bus set.buses) refl
  where
    by_bus : (o : Option Bus) → named (λ (b : Bus). b.name) bus set.buses ≡ o → AreMatched (rules_in o) event targets → length targets ≤ 1500
    by_bus None e are = omega (arith, ap length are)
    by_bus (Some b) e are =
        let few = named_all (λ (b : Bus). length b.rules ≤ 300) (λ (b : Bus). b.name) bus set.buses b sound.rules e in
        let fit = few_all set b.rules event targets
        (named_all (λ (b : Bus). All (HasSoundTargets set) b.rules) (λ (b : Bus). b.name) bus set.buses b sound.targets e) are in
        omega (arith, fit, few)

-- the number of an event does not matter to a rule
matches_numbered : (rule : Rule) (e : Event) (n m : ℕ) → Matches rule (event_tree (with_number n e) None) → Matches rule (event_tree (with_number m e) None)
matches_numbered rule e n m (enabled, h) = (
  enabled,
  record {
    pattern = h.pattern;
    read = h.read;
    holds = other_text h.pattern (codes "id") (take 1 (event_members e)) (drop 2 (event_members e)) (event_id n) (event_id m)
        (text_lacks_id rule.pattern h.pattern h.read) h.holds;
  },
)

-- nor to the targets of the rules that match it
pub matched_numbered : (rules : List Rule) (e : Event) (n m : ℕ) (targets : List SeenTarget)
    → AreMatched rules (event_tree (with_number n e) None) targets → AreMatched rules (event_tree (with_number m e) None) targets
matched_numbered [] e n m targets none = none
matched_numbered (rule ∷ rules) e n m targets (rest, are, which) = (
  rest,
  matched_numbered rules e n m rest are,
  elim which [
    | inl (holds, is) ↦ inl (matches_numbered rule e n m holds, is)
    | inr (not, is) ↦ inr ((λ h. not (matches_numbered rule e m n h)), is)
  ],
)

-- the target that is stored so
abbrev pub seen_row : StoredTarget → SeenTarget
seen_row stored = record { row = stored.row; input = stored.input }

-- the targets of the rows of a rule
seen_rows : (rule : Rule) (targets : List Target) → map seen_row (map (stored_of rule) targets) ≡ map (seen_target rule) targets
seen_rows rule [] = refl
seen_rows rule (target ∷ targets) = ap (λ (ts : List SeenTarget). seen_target rule target ∷ ts) (seen_rows rule targets)

-- with the result of a further entry
seen_more : (set : RuleSet) (caller : List ℕ) (entries : List (Result Unnumbered EntryFault)) (entry : Result Unnumbered EntryFault)
    (all : List SeenEntry) (seen : SeenEntry) → AreSeenEntries set caller entries all → IsSeenEntry set caller entry seen
    → AreSeenEntries set caller (entries ++ entry ∷ []) (all ++ seen ∷ [])
seen_more set caller [] entry all seen none is =
    subst (λ (ss : List SeenEntry). AreSeenEntries set caller (entry ∷ []) (ss ++ seen ∷ [])) (sym none) (is, refl)
seen_more set caller (e ∷ entries) entry [] seen are is = absurd are
seen_more set caller (e ∷ entries) entry (s ∷ all) seen (first, others) is = (first, seen_more set caller entries entry all seen others is)

-- the targets of all rows of a rule
pub rows_done : (rule : Rule) (before now : List SeenTarget) (rows : List StoredTarget) (n : ℕ) → now ≡ before ++ map seen_row (take n rows)
    → length rows ≤ n → rows ≡ map (stored_of rule) rule.targets → now ≡ before ++ map (seen_target rule) rule.targets
rows_done rule before now rows n is all same =
    is
    ∙ ap (λ (rs : List StoredTarget). before ++ map seen_row rs) (take_all n rows all ∙ same)
    ∙ ap (λ (ts : List SeenTarget). before ++ ts) (seen_rows rule rule.targets)

-- with the result of the next entry
pub seen_at : (set : RuleSet) (caller : List ℕ) (entries : List (Result Unnumbered EntryFault)) (i : ℕ) (entry : Result Unnumbered EntryFault)
    (all new : List SeenEntry) (seen : SeenEntry) → AreSeenEntries set caller (take i entries) all → IsSeenEntry set caller entry seen
    → i < length entries → entry ≡ get_or entries i entry → new ≡ all ++ seen ∷ [] → AreSeenEntries set caller (take (i + 1) entries) new
seen_at set caller entries i entry all new seen are is below at grown =
    let one : take (i + 1) entries ≡ take i entries ++ entry ∷ [] =
    take_more entries i entry below ∙ ap (λ (e : Result Unnumbered EntryFault). take i entries ++ e ∷ []) (sym at) in
    subst (λ (es : List (Result Unnumbered EntryFault)). AreSeenEntries set caller es new) (sym one)
    (subst (AreSeenEntries set caller (take i entries ++ entry ∷ [])) (sym grown) (seen_more set caller (take i entries) entry all seen are is))
