-- Targets as a rule stores them: those of a rule (`rows_made`, `rows_again`, `is_stored`), one that is put or removed (`target_put`,
-- `target_removed`), whose inputs are valid (`valid_more`), and the number of targets (`length_stored`, `above`, `from_full`); whether one of
-- them names a queue (`any_stored`).
use Rattle.std.proofs.Common.{◌≡◌, ◌≤◌, ◌<◌, ◌+◌, ◌++◌, ◌||◌, if◌then◌else◌, ℕ, false, not, inl, inr, List, [], ◌∷◌, length, take, get_or, map, Option, Some, None, is_some, refl, sym, ap, ◌∙◌, subst, arith}
use Rattle.std.specs.Prelude.{All, nat_le, nat_lt}
use Rattle.std.proofs.lemmas.Bool.{false_from_ne_true, le-leb, leb-true}
use Rattle.std.proofs.lemmas.Bool.Decides.{leb_tells}
use Rattle.std.specs.List.{list_any}
use Rattle.std.proofs.lemmas.List.{take_more}
use Rattle.std.proofs.lemmas.List.Elements.{All-head, All-tail, All-cons, All-nil, All-push}
use Rattle.name_rows.specs.Rows.{placed, replacing, without}
use Rattle.rule_targets.specs.declared.target.Target.{Target}
use Rattle.rule_targets.specs.declared.target.RetryPolicy.{RetryPolicy}
use Rattle.rule_table.specs.RuleSet.{Rule, put_target, is_used_by_target}
use Rattle.rule_table.specs.WellFormed.{HasValidInput}
use Rattle.rule_table.specs.Target.{StoredTarget, stored_of, target_of, IsStoredOf}
use Rattle.rule_targets.specs.Retry.{attempts_of, age_of}
use Rattle.rule_table.proofs.RowLemmas.{map_placed, map_without, length_names}

abbrev pub row_id : StoredTarget → List ℕ
row_id stored = stored.row.target_id

abbrev pub id_of : Target → List ℕ
id_of target = target.id

-- ---- what a rule stores

-- by whether there is a retry policy
again : (rule : Rule) (target : Target) (retry : Option RetryPolicy) → IsStoredOf rule (stored_of rule (record target { retry = retry }))
again rule target None = refl
again rule target (Some policy) = refl

stored_again : (rule : Rule) (target : Target) → IsStoredOf rule (stored_of rule target)
stored_again rule target = again rule target target.retry

pub rows_made : (rule : Rule) (targets : List Target) → All (IsStoredOf rule) (map (stored_of rule) targets)
rows_made rule [] = All-nil (IsStoredOf rule)
rows_made rule (target ∷ targets) =
    All-cons (IsStoredOf rule) (stored_of rule target) (map (stored_of rule) targets) (stored_again rule target) (rows_made rule targets)

-- what a rule stores is its targets, stored
pub rows_again : (rule : Rule) (rows : List StoredTarget) → All (IsStoredOf rule) rows → rows ≡ map (stored_of rule) (map target_of rows)
rows_again rule [] all = refl
rows_again rule (row ∷ rows) all =
    let first : row ≡ stored_of rule (target_of row) = All-head (IsStoredOf rule) row rows all in
    let rest = rows_again rule rows (All-tail (IsStoredOf rule) row rows all) in
    ap (λ r. r ∷ rows) first ∙ ap (λ rs. stored_of rule (target_of row) ∷ rs) rest

pub is_stored : (rule : Rule) (target : Target) (stored : StoredTarget) → stored ≡ stored_of rule target → IsStoredOf rule stored
is_stored rule target stored is = subst (IsStoredOf rule) (sym is) (stored_again rule target)

-- ---- a target is shown as it was put

-- the retry policy that a target has once it is stored
abbrev kept_of : Option RetryPolicy → Option RetryPolicy
kept_of retry = if is_some retry then Some (record { attempts = attempts_of retry; age = age_of retry }) else None

retry_back : (retry : Option RetryPolicy) → kept_of retry ≡ retry
retry_back None = refl
retry_back (Some policy) = refl

target_back : (rule : Rule) (target : Target) → target_of (stored_of rule target) ≡ target
target_back rule target = ap (λ retry. record target { retry = retry }) (retry_back target.retry)

pub target_put : (rule : Rule) (new : Target) (row : StoredTarget) (rows : List StoredTarget) → row ≡ stored_of rule new
    → map target_of (placed row_id replacing row rows) ≡ put_target new (map target_of rows)
target_put rule new row rows is =
    map_placed target_of id_of row rows ∙ ap (λ t. put_target t (map target_of rows)) (ap target_of is ∙ target_back rule new)

pub target_removed : (id : List ℕ) (rows : List StoredTarget) → map target_of (without row_id id rows) ≡ without id_of id (map target_of rows)
target_removed id rows = map_without target_of id_of id rows

-- ---- valid inputs

pub valid_more : (news : List Target) (at : ℕ) (new : Target) → at < length news → new ≡ get_or news at new → HasValidInput new
    → All HasValidInput (take at news) → All HasValidInput (take (at + 1) news)
valid_more news at new low is valid all =
    subst (All HasValidInput) (sym (take_more news at new low ∙ ap (λ (t : Target). take at news ++ t ∷ []) (sym is)))
    (All-push HasValidInput (take at news) new all valid)

-- ---- the number of targets

names_stored : (rows : List StoredTarget) → map row_id rows ≡ map id_of (map target_of rows)
names_stored [] = refl
names_stored (row ∷ rows) = ap (λ ids. row.row.target_id ∷ ids) (names_stored rows)

-- the number of targets with the new one, by their ids alone
pub length_stored : (new : Target) (rows : List StoredTarget)
    → length (placed (λ n. n) replacing new.id (map row_id rows)) ≡ length (put_target new (map target_of rows))
length_stored new rows = ap (λ ids. length (placed (λ n. n) replacing new.id ids)) (names_stored rows) ∙ length_names id_of new (map target_of rows)

-- more than five targets, and five with one more
pub above : (n : ℕ) → nat_lt 5 n ≡ not (nat_le n 5)
above n = elim (leb_tells n 5) [
  | inl (few, low) ↦ ltb_low n low ∙ ap not (sym few)
  | inr (many, high) ↦ le-leb 6 n (omega (arith, high)) ∙ ap not (sym many)
]
  where
    ltb_low : (n : ℕ) → n ≤ 5 → nat_lt 5 n ≡ false
    ltb_low n low = false_from_ne_true _ (λ e. omega (arith, low, leb-true 6 n e))

pub from_full : (n : ℕ) → nat_le 5 n ≡ not (nat_le (n + 1) 5)
from_full n = elim (leb_tells (n + 1) 5) [
  | inl (few, low) ↦ false_from_ne_true _ (λ e. omega (arith, low, leb-true 5 n e)) ∙ ap not (sym few)
  | inr (many, high) ↦ le-leb 5 n (omega (arith, high)) ∙ ap not (sym many)
]

-- ---- a queue

pub any_stored : (queue : List ℕ) (rows : List StoredTarget)
    → list_any (λ stored. is_used_by_target queue (target_of stored)) rows ≡ list_any (is_used_by_target queue) (map target_of rows)
any_stored queue [] = refl
any_stored queue (row ∷ rows) = ap (λ rest. is_used_by_target queue (target_of row) || rest) (any_stored queue rows)
