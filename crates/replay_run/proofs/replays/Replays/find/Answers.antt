use Rattle.std.proofs.Common.{◌≡◌, Some, None, sym, subst, ap, ◌∙◌, rules}
use Rattle.std.specs.Option.{MatchOption}
use Rattle.std.proofs.lemmas.Option.{MatchOption-at_some, MatchOption-at_none}
use Rattle.name_rows.specs.Rows.{named}
use Rattle.key_tree.specs.Entries.{value_at}
use Rattle.replay_run.specs.declared.row.NumberedName.{NumberedName}
use Rattle.replay_run.specs.Replays.{name_of, number_name, found, rows_in}
use Rattle.replay_run.proofs.ReplaysLemmas.{number_named, number_found, number_missing, entry_named, value_of_entry}
use Rattle.replay_run.proofs.replays.Replays.find.Goals as goal

pub returns-in-Some : goal.returns-in-Some
returns-in-Some c =
    let es = c.self.inside.all in
    let all = rows_in es in
    let sound = c.self.invariant.2 in
    let name = c.args.name.now in
    let numbered = MatchOption-at_some _ _ c.in-Some.found c.in-Some.is c.find.ensures.found in
    let keyed : c.from.result ≡ c.in-Some.found.now.number = search rules in
    let (row, is, own) = number_found (named name_of name all) c.in-Some.found.now
    (sym (number_named name all sound.apart) ∙ ap (named number_name name) (sym sound.named) ∙ numbered) in
    let value : value_at row.number es ≡ Some row = value_of_entry name es row sound.counted (entry_named name es row _ _ sound is) in
    let key : c.from.result ≡ row.number = keyed ∙ ap (λ (n : NumberedName). n.number) own in
    let same : value_at c.from.result es ≡ found name c.args.self.now =
    ap (λ k. value_at k es) key ∙ value ∙ sym is ∙ ap (found name) c.self.view_is in
    subst (λ o. MatchOption c.get.result (o ≡ None) (λ v. o ≡ Some v.now)) same c.get.ensures

pub returns-in-None : goal.returns-in-None
returns-in-None c =
    let all = rows_in c.self.inside.all in
    let sound = c.self.invariant.2 in
    let name = c.args.name.now in
    let none = MatchOption-at_none _ _ c.in-None.is c.find.ensures.found in
    ap (found name) (sym c.self.view_is)
    ∙ number_missing (named name_of name all) (sym (number_named name all sound.apart) ∙ ap (named number_name name) (sym sound.named) ∙ none)
