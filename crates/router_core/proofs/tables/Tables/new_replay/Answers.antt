use Rattle.std.proofs.Common.{◌≡◌, ◌∙◌, None, Some, ap, sym, subst, arith, true}
use Rattle.std.specs.Prelude.{IfOk}
use Rattle.name_rows.specs.Rows.{named}
use Rattle.archive_keep.specs.Archives.{name_of}
use Rattle.rule_table.specs.RuleSet.{archive_at, has_archive}
use Rattle.router_core.specs.Tables.{Tables}
use Rattle.router_core.specs.Ready.{IsNewReplay}
use Rattle.router_core.proofs.TablesLemmas.{archive_kept, new_replay_so}
use Rattle.router_core.proofs.tables.Tables.new_replay.Goals as goal

pub row_in-row-requires : goal.row_in-row-requires
row_in-row-requires c =
    let i = c.self.inside in
    let t : Tables = record { set = i.set; duties = i.duties; archives = i.archives; replays = i.replays; events = i.events; entries = i.entries; batches = i.batches; moment = i.moment } in
    let there = subst (λ (x : Tables). has_archive c.args.start.now.archive x.set ≡ true) (sym c.self.view_is) c.requires.archive in
    subst (λ n. has_archive n i.set ≡ true) (sym c.as_str.ensures) there

pub archive_in-archive-requires : goal.archive_in-archive-requires
archive_in-archive-requires c = λ none.
    let i = c.self.inside in
    let t : Tables = record { set = i.set; duties = i.duties; archives = i.archives; replays = i.replays; events = i.events; entries = i.entries; batches = i.batches; moment = i.moment } in
    archive_kept t c.args.self.now c.args.start.now.archive c.self.view_is c.requires.archive c.self.invariant
    (ap (λ n. named name_of n i.archives) (sym c.as_str-2.ensures) ∙ none)

pub prepare-requires : goal.prepare-requires
prepare-requires c = omega (arith, c.self.invariant.starts, c.self.invariant.entries)

pub returns : goal.returns
returns c =
    let i = c.self.inside in
    let t : Tables = record { set = i.set; duties = i.duties; archives = i.archives; replays = i.replays; events = i.events; entries = i.entries; batches = i.batches; moment = i.moment } in
    let name = c.args.start.now.archive in
    let known : archive_at name i.set ≡ Some c.row_in-row.result.now = ap (λ n. archive_at n i.set) (sym c.as_str.ensures) ∙ c.row_in-row.ensures in
    let kept : named name_of name i.archives ≡ Some c.archive_in-archive.result.now =
    ap (λ n. named name_of n i.archives) (sym c.as_str-2.ensures) ∙ c.archive_in-archive.ensures in
    subst (λ (x : Tables). IfOk c.prepare.result (λ new. IsNewReplay c.args.moment c.args.start.now x new)) c.self.view_is
    (new_replay_so c.prepare.result c.args.moment c.args.start.now t c.row_in-row.result.now c.archive_in-archive.result.now c.in_ok-settings.settings known kept
    c.in_ok-settings.ensures c.prepare.ensures.row c.prepare.ensures.names)
