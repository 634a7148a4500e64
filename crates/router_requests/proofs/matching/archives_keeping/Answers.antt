use Rattle.std.proofs.Common.{◌≡◌, List, [], ◌∷◌, ◌++◌, sym, ap, ◌∙◌, append_assoc}
use Rattle.json_text.specs.View.{tree_of}
use Rattle.rule_table.specs.RuleSet.{Archive}
use Rattle.router_requests.proofs.SeenArchiveLemmas.{step_kept, step_not, all_seen}
use Rattle.router_requests.proofs.matching.archives_keeping.Goals as goal

pub loop-archive-preserved-in-Continue-1 : goal.loop-archive-preserved-in-Continue-1
loop-archive-preserved-in-Continue-1 c =
    let done = c.loop-archive.invariant.0 in
    let archive = c.in-Some.archive.now in
    let grown : (done ++ archive ∷ []) ++ c.next.new.self ≡ c.archives-archives.result =
    append_assoc done (archive ∷ []) c.next.new.self ∙ ap (λ (rows : List Archive). done ++ rows) (sym c.in-Some.ensures.steps) ∙ c.loop-archive.invariant.1 in
    let keeps = c.keeps.ensures.yes c.if-keeps.true in (
      done ++ archive ∷ [],
      grown,
      step_kept c.args.bus.now done archive (tree_of c.args.event.now) c.loop-archive.found.items c.push_archive.new.found.items c.loop-archive.invariant.2
          keeps.0 keeps.1 c.in_ok-push_archive.ensures,
    )

pub loop-archive-preserved : goal.loop-archive-preserved
loop-archive-preserved c =
    let done = c.loop-archive.invariant.0 in
    let archive = c.in-Some.archive.now in
    let grown : (done ++ archive ∷ []) ++ c.next.new.self ≡ c.archives-archives.result =
    append_assoc done (archive ∷ []) c.next.new.self ∙ ap (λ (rows : List Archive). done ++ rows) (sym c.in-Some.ensures.steps) ∙ c.loop-archive.invariant.1 in (
      done ++ archive ∷ [],
      grown,
      step_not c.args.bus.now done archive (tree_of c.args.event.now) c.loop-archive.found.items c.loop-archive.invariant.2 (c.keeps.ensures.not c.if-keeps.false),
    )

pub returns : goal.returns
returns c =
    all_seen c.args.bus.now c.loop-archive.invariant.0 c.loop-archive.archives c.args.set.now.archives (tree_of c.args.event.now) c.loop-archive.found.items
    (c.loop-archive.invariant.1 ∙ c.archives-archives.ensures) c.in_default.ensures.steps.0 c.loop-archive.invariant.2
