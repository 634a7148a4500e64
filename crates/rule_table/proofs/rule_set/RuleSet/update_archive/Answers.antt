use Rattle.std.proofs.Common.{◌≡◌, ◌+◌, List, true, is_some, refl, sym, ap, ◌∙◌, subst}
use Rattle.rule_table.specs.Control.{archive_updated}
use Rattle.rule_table.specs.RuleSet.{Archive, has_archive, archive_at, put_archive, with_pattern}
use Rattle.rule_table.specs.Refusal.{keeps_pattern, IsAllowed}
use Rattle.rule_table.specs.Sound.{IsSound}
use Rattle.rule_table.proofs.RowLemmas.{changed_placed}
use Rattle.rule_table.proofs.SortedLemmas.{sound_applied}
use Rattle.rule_table.proofs.rule_set.RuleSet.update_archive.Goals as goal

pub with_archive-requires-clause-sound : goal.with_archive-requires-clause-sound
with_archive-requires-clause-sound c =
    let set = c.args.self.now in
    let name = c.args.name.now in
    let pattern = c.args.pattern.now in
    let old = c.in_ok-old.old.now in
    let found = c.in_ok-old.ensures.found in
    let sound = c.in_ok-old.ensures.sound in
    let there : has_archive name set ≡ true = ap is_some found in
    let keeps : keeps_pattern pattern (archive_at name set) ≡ true = ap (keeps_pattern pattern) found ∙ sym c.if-not-keeps_pattern.ensures in
    let allowed : IsAllowed (archive_updated name pattern 0) set = rw (there, keeps) refl in
    let change : Archive → Archive = λ archive. record archive { pattern = pattern } in
    let put : put_archive c.in_ok-new.new set.archives ≡ with_pattern name pattern set.archives =
    ap (λ (archive : Archive). put_archive archive set.archives) c.in_ok-new.ensures
    ∙ sym (changed_placed (λ archive. archive.name) name change set.archives old (λ archive. refl) sound.archives.order found) in
    subst (λ (rows : List Archive). IsSound (record set { archives = rows; count = set.count + 1 })) (sym put)
    (sound_applied (archive_updated name pattern 0) set allowed tt sound)

pub returns : goal.returns
returns c =
    let set = c.args.self.now in
    let name = c.args.name.now in
    let pattern = c.args.pattern.now in
    let old = c.in_ok-old.old.now in
    let found = c.in_ok-old.ensures.found in
    let sound = c.in_ok-old.ensures.sound in
    let there : has_archive name set ≡ true = ap is_some found in
    let keeps : keeps_pattern pattern (archive_at name set) ≡ true = ap (keeps_pattern pattern) found ∙ sym c.if-not-keeps_pattern.ensures in
    let allowed : IsAllowed (archive_updated name pattern 0) set = rw (there, keeps) refl in
    let change : Archive → Archive = λ archive. record archive { pattern = pattern } in
    let put : put_archive c.in_ok-new.new set.archives ≡ with_pattern name pattern set.archives =
    ap (λ (archive : Archive). put_archive archive set.archives) c.in_ok-new.ensures
    ∙ sym (changed_placed (λ archive. archive.name) name change set.archives old (λ archive. refl) sound.archives.order found) in
    (allowed, c.in_ok-with_archive.ensures ∙ ap (λ (rows : List Archive). record set { archives = rows; count = set.count + 1 }) put)
