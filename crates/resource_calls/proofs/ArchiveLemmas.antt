-- Calls on archives. An UpdateArchive makes a change that is well formed (`update_formed`), since the days of an archive in consistent tables
-- are few (`few_days`). What is decided of an archive that is there, or missing: `archive_found`, `no_row`, `not_kept`.
use Rattle.std.proofs.Common.{◌≡◌, ℕ, ◌≤◌, Bool, true, ◌&&◌, List, Option, Some, None, refl, sym, ap, ◌∙◌, subst, arith}
use Rattle.std.specs.Prelude.{nat_le, unwrap_or}
use Rattle.std.specs.Option.{option_or}
use Rattle.std.proofs.lemmas.Bool.{and_parts}
use Rattle.std.proofs.lemmas.Bool.Decides.{nat_tests}
use Rattle.event_shape.specs.Names.{is_archive_name}
use Rattle.name_rows.specs.Rows.{named}
use Rattle.archive_keep.specs.Archive.{Archive}
use Rattle.archive_keep.specs.Archives.{name_of}
use Rattle.rule_table.specs.Control.{Control, archive_updated}
use Rattle.rule_table.specs.RuleSet.{Archive as Row, archive_at}
use Rattle.rule_table.specs.WellFormed.{IsNoneOrPattern, IsWellFormed, most_days}
use Rattle.rule_table.proofs.RowLemmas.{All_named}
use Rattle.api_replies.specs.declared.kind.Kind.TheVariants as kind
use Rattle.api_replies.specs.declared.cause.Cause.TheVariants as cause
use Rattle.router_core.specs.Tables.{Tables, KeepsUpTo, IsConsistent}
use Rattle.resource_calls.specs.Decision.{Decided, on_archive, refusal}

both : (a b : Bool) → a ≡ true → b ≡ true → (a && b) ≡ true
both a b p q = ap (λ x. x && b) p ∙ q

pub few_days : (t : Tables) (name : List ℕ) (a : Archive) → IsConsistent t → named name_of name t.archives ≡ Some a → a.days ≤ most_days
few_days t name a h is = (All_named (KeepsUpTo t.events t.moment) name_of name t.archives a is h.kept).days

days_formed : (name : List ℕ) (days : Option ℕ) (own : ℕ) → (is_archive_name name && nat_le (unwrap_or days 0) most_days) ≡ true → own ≤ most_days
    → (is_archive_name name && nat_le (unwrap_or days own) most_days) ≡ true
days_formed name None own formed few =
    let within : nat_le own most_days ≡ true = grind (arith, nat_tests) in
    both (is_archive_name name) (nat_le own most_days) (and_parts (is_archive_name name) (nat_le 0 most_days) formed).0 within
days_formed name (Some days) own formed few = formed

pattern_formed : (pattern own : Option (List ℕ)) → IsNoneOrPattern pattern → IsNoneOrPattern own → IsNoneOrPattern (option_or pattern own)
pattern_formed None own given is = is
pattern_formed (Some text) own given is = given

pub update_formed : (name : List ℕ) (pattern old : Option (List ℕ)) (days : Option ℕ) (own : ℕ) → IsWellFormed (archive_updated name pattern (unwrap_or days 0))
    → IsNoneOrPattern old → own ≤ most_days → IsWellFormed (archive_updated name (option_or pattern old) (unwrap_or days own))
update_formed name pattern old days own (formed, given) is few = (days_formed name days own formed few, pattern_formed pattern old given is)

-- the same of a change that is this update
pub formed_so : (x : Control) (name : List ℕ) (pattern old after : Option (List ℕ)) (days : Option ℕ) (own given : ℕ) → x ≡ archive_updated name after given
    → after ≡ option_or pattern old → given ≡ unwrap_or days own → IsWellFormed (archive_updated name pattern (unwrap_or days 0)) → IsNoneOrPattern old
    → own ≤ most_days → IsWellFormed x
formed_so x name pattern old after days own given is such these formed spelled few =
    subst IsWellFormed
    (sym (is ∙ ap (λ (p : Option (List ℕ)). archive_updated name p given) such ∙ ap (archive_updated name (option_or pattern old)) these))
    (update_formed name pattern old days own formed spelled few)

pub archive_found : (t : Tables) (name : List ℕ) (row : Row) (a : Archive) (decide : Row → Archive → Decided) → archive_at name t.set ≡ Some row
    → named name_of name t.archives ≡ Some a → decide row a ≡ on_archive t name decide
archive_found t name row a decide there kept = rw (there, kept) refl

pub no_row : (t : Tables) (name : List ℕ) (decide : Row → Archive → Decided) → archive_at name t.set ≡ None
    → refusal (cause.NotFound kind.Archive name) ≡ on_archive t name decide
no_row t name decide none = rw none refl

pub not_kept : (t : Tables) (name : List ℕ) (row : Row) (decide : Row → Archive → Decided) → archive_at name t.set ≡ Some row
    → named name_of name t.archives ≡ None → refusal (cause.NotFound kind.Archive name) ≡ on_archive t name decide
not_kept t name row decide there none = rw (there, none) refl
