use Rattle.std.proofs.Common.{ℕ, ◌+◌, List, length, drop, sym, ap, ◌∙◌}
use Rattle.name_rows.specs.Rows.{named}
use Rattle.archive_keep.specs.declared.event_ref.KeptEvent.{KeptEvent}
use Rattle.archive_keep.specs.Archives.{kept_in, name_of}
use Rattle.router_core.proofs.KeepingLemmas.{keeping_all, keeping_at, keeping_left, keeping_one, keeping_later, keeping_room, keeping_next, keeping_end}
use Rattle.router_core.proofs.keeping.keep_each.Goals as goal

pub loop-name-init : goal.loop-name-init
loop-name-init c = keeping_all c.args.names.now c.args.archives.now c.args.kept c.requires

pub take_first-first-requires : goal.take_first-first-requires
take_first-first-requires c =
    let names = c.args.names.now in
    let i = c.loop-name.name-index in
    let name = c.name-item.result in
    let now = c.loop-name.archives in
    let left = c.loop-name.left in
    let here = keeping_at names i name c.args.archives.now now c.args.kept left c.loop-name-test.true c.name-item.is c.loop-name.invariant in
    keeping_left names (drop (i + 1) names) name c.args.archives.now now c.args.kept left here

pub keep-requires : goal.keep-requires
keep-requires c =
    let names = c.args.names.now in
    let i = c.loop-name.name-index in
    let after = drop (i + 1) names in
    let name = c.name-item.result in
    let old = c.args.archives.now in
    let now = c.loop-name.archives in
    let all = c.args.kept in
    let left = c.loop-name.left in
    let here = keeping_at names i name old now all left c.loop-name-test.true c.name-item.is c.loop-name.invariant in
    let first = c.take_first-first.ensures.first in
    record {
      one = ap (length {A = KeptEvent}) first ∙ keeping_one names after name old now all left here;
      later = λ e a is there. keeping_later names after name old now all left here e a (sym first ∙ is)
          (ap (λ (n : List ℕ). named name_of n now) (sym c.as_str.ensures) ∙ there);
      room = keeping_room names after name old now all left here;
    }

pub loop-name-preserved : goal.loop-name-preserved
loop-name-preserved c =
    let names = c.args.names.now in
    let i = c.loop-name.name-index in
    let after = drop (i + 1) names in
    let name = c.name-item.result in
    let old = c.args.archives.now in
    let now = c.loop-name.archives in
    let all = c.args.kept in
    let left = c.loop-name.left in
    let here = keeping_at names i name old now all left c.loop-name-test.true c.name-item.is c.loop-name.invariant in
    let first = c.take_first-first.ensures.first in
    keeping_next names after name old now c.keep.new.self all left c.take_first-first.new.list here c.take_first-first.ensures.rest
    (λ e is. c.keep.ensures e (first ∙ is) ∙ ap (λ (n : List ℕ). kept_in n e now) c.as_str.ensures)

pub returns : goal.returns
returns c = λ e those.
    keeping_end c.args.names.now c.loop-name.name-index c.args.archives.now c.loop-name.archives c.args.kept c.loop-name.left c.loop-name-test.false
    c.loop-name.invariant e those
