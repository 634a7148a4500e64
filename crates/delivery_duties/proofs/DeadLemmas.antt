-- Dead-letter queues: `place_decides`, `dead_letter_found`.
use Rattle.std.proofs.Common.{◌≡◌, ℕ, Bool, true, false, List, Option, Some, None, sym, ap, ◌∙◌, subst}
use Rattle.std.specs.Prelude.{Any, MatchOption}
use Rattle.std.specs.List.{list_any}
use Rattle.std.proofs.lemmas.List.Folds.{list_any-from_Any, list_any_none}
use Rattle.shared_text.specs.declared.row.TargetRow.{TargetRow}
use Rattle.delivery_queues.specs.Queues.{Queue, has_arn}
use Rattle.delivery_queues.specs.Places.{IsFirstAt, IsPlaceOf}
use Rattle.delivery_duties.specs.Retry.{dead_letter_queue}
use Rattle.delivery_duties.specs.Duties.{has_dead_letter_queue, is_one_of}
use Rattle.delivery_duties.proofs.AnyLemmas.{any_middle}

found_one : (test : Queue → Bool) (queues : List Queue) (at : ℕ) → IsFirstAt test queues at → list_any test queues ≡ true
found_one test queues at h =
    list_any-from_Any test queues
    (let P : Queue → Type 0 = λ m. test m ≡ true in subst (Any P) (sym h.parts) (any_middle P h.front h.here h.back h.passes))

pub place_decides : (target : TargetRow) (arn : List ℕ) (queues : List Queue) (place : Option ℕ) → target.dead_letter ≡ Some arn
    → IsPlaceOf (has_arn arn) queues place
    → MatchOption place (has_dead_letter_queue target queues ≡ false)
    (λ at. (arn : List ℕ) × (target.dead_letter ≡ Some arn) × IsFirstAt (has_arn arn) queues at)
place_decides target arn queues None is h = ap (λ o. is_one_of o queues) is ∙ list_any_none (has_arn arn) queues h
place_decides target arn queues (Some at) is h = (arn, is, h)

pub dead_letter_found : (target : TargetRow) (arn : List ℕ) (queues : List Queue) (at : ℕ) → target.dead_letter ≡ Some arn
    → IsFirstAt (has_arn arn) queues at → dead_letter_queue target (has_dead_letter_queue target queues) ≡ Some arn
dead_letter_found target arn queues at is h =
    ap (dead_letter_queue target) (ap (λ o. is_one_of o queues) is ∙ found_one (has_arn arn) queues at h) ∙ is
