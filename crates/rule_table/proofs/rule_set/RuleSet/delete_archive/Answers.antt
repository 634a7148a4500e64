use Rattle.std.proofs.Common.{◌≡◌, true, is_some, refl, ap}
use Rattle.rule_table.specs.Control.{archive_deleted}
use Rattle.rule_table.specs.RuleSet.{has_archive}
use Rattle.rule_table.specs.Refusal.{IsAllowed}
use Rattle.rule_table.proofs.SortedLemmas.{sound_applied}
use Rattle.rule_table.proofs.rule_set.RuleSet.delete_archive.Goals as goal

pub without_archive-requires-clause-sound : goal.without_archive-requires-clause-sound
without_archive-requires-clause-sound c =
    let set = c.args.self.now in
    let name = c.args.name.now in
    let there : has_archive name set ≡ true = ap is_some c.in_ok-archive_in.ensures.found in
    let allowed : IsAllowed (archive_deleted name) set = rw there refl in
    sound_applied (archive_deleted name) set allowed tt c.in_ok-archive_in.ensures.sound

pub returns : goal.returns
returns c =
    let set = c.args.self.now in
    let name = c.args.name.now in
    let there : has_archive name set ≡ true = ap is_some c.in_ok-archive_in.ensures.found in
    let allowed : IsAllowed (archive_deleted name) set = rw there refl in
    (allowed, c.in_ok-without_archive.ensures)
