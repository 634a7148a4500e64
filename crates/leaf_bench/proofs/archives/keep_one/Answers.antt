use Rattle.std.proofs.Common.{◌+◌, ◌≤◌, All, sym, subst, arith}
use Rattle.std.proofs.lemmas.List.Elements.{All-filter, All-push, All-weaker}
use Rattle.archive_keep.specs.declared.event_ref.KeptEvent.{KeptEvent}
use Rattle.archive_keep.specs.Archive.{Archive, is_retained}
use Rattle.leaf_bench.proofs.archives.keep_one.Goals as goal

pub returns : goal.returns
returns c =
    let (e, made, numbered, at) = c.in_ok-list.ensures in
    let P : KeptEvent → Type 0 = λ o. (o.number ≤ c.args.line.now.number) × (o.accepted ≤ c.args.line.now.moment) in
    let Q : KeptEvent → Type 0 = λ o. (o.number ≤ c.args.line.now.number + 1) × (o.accepted ≤ c.args.moment) in
    let before = All-weaker P Q (λ o both. (omega (arith, both.0), omega (arith, both.1, c.if-moment-line.false))) c.args.line.now.archive.events c.requires.so_far in
    let all = All-push Q c.args.line.now.archive.events e before (omega (arith, numbered), omega (arith, at)) in
    let kept = subst (λ (a : Archive). All Q a.events) (sym (c.keep.ensures e made)) all in
    let left = All-filter (is_retained c.keep.new.self.days c.args.moment) Q c.keep.new.self.events kept in
    record { so_far = subst (λ (a : Archive). All Q a.events) (sym c.purge-gone.ensures.left) left }
