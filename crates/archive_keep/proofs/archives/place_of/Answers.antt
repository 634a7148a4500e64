use Rattle.std.proofs.Common.{rules, of_calls}
use Rattle.std.specs.Cmp.Lexicographic.{slice_cmp}
use Rattle.std.specs.Ordering.{nat_cmp}
use Rattle.std.proofs.lemmas.Fn.{always_returns_same}
use Rattle.name_rows.proofs.SearchLemmas.{here_found, before_found, non_decreasing}
use Rattle.archive_keep.specs.Archives.{name_of}
use Rattle.archive_keep.proofs.archives.place_of.Goals as goal

pub returns-in-Ok : goal.returns-in-Ok
returns-in-Ok c =
    let name = c.args.name.now in
    let found = c.in-Ok.ensures.position (λ row. slice_cmp nat_cmp (name_of row) name)
    (always_returns_same _ _ _ (λ a r h called. search (rules, of_calls))) in
    here_found name_of name c.args.archives.now c.in-Ok.at c.requires c.in-Ok.ensures.bound found

pub returns-in-Err : goal.returns-in-Err
returns-in-Err c =
    let name = c.args.name.now in
    let found = c.in-Err.ensures.position (λ row. slice_cmp nat_cmp (name_of row) name)
    (always_returns_same _ _ _ (λ a r h called. search (rules, of_calls)))
    (non_decreasing name_of name c.args.archives.now c.requires) in
    before_found name_of name c.args.archives.now c.in-Err.at c.in-Err.ensures.bound found.0 found.1
