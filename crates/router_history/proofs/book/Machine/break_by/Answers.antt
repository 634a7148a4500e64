use Rattle.std.proofs.Common.{[], ◌∷◌, ◌++◌, map, refl, ap, ◌∙◌}
use Rattle.router_requests.specs.View.{batch_of}
use Rattle.router_history.specs.declared.book.Machine.{Machine}
use Rattle.router_history.specs.Firsts.{firsts}
use Rattle.router_history.proofs.BreakLemmas.{broke_made, broke_kept, broke}
use Rattle.router_history.proofs.BookLemmas.{added_of}
use Rattle.router_history.proofs.book.Machine.break_by.Goals as goal

pub returns-clause-kept : goal.returns-clause-kept
returns-clause-kept c =
    broke_kept
    (broke_made c.args.seat c.args.self.now _ (batch_of c.args.batch.now) (firsts c.and.result.items) c.control_count.result c.set.result.now c.requires.kept
    (ap (λ ps. map batch_of (firsts ps)) (c.and.ensures ∙ ap (λ ps. ps ++ (c.args.batch.now, tt) ∷ []) c.new-none.ensures)) c.control_count.ensures.count c.set.ensures c.push.ensures.turns)
    c.requires.unbroken c.requires.journal c.requires.admitted refl

pub returns-clause-broken : goal.returns-clause-broken
returns-clause-broken c =
    let new : Machine = record c.args.self.now { history = c.push.new.self } in
    broke
    (broke_made c.args.seat c.args.self.now new (batch_of c.args.batch.now) (firsts c.and.result.items) c.control_count.result c.set.result.now c.requires.kept
    (ap (λ ps. map batch_of (firsts ps)) (c.and.ensures ∙ ap (λ ps. ps ++ (c.args.batch.now, tt) ∷ []) c.new-none.ensures)) c.control_count.ensures.count c.set.ensures c.push.ensures.turns)

pub returns-clause-added : goal.returns-clause-added
returns-clause-added c =
    let new : Machine = record c.args.self.now { history = c.push.new.self } in
    added_of
    (broke_made c.args.seat c.args.self.now new (batch_of c.args.batch.now) (firsts c.and.result.items) c.control_count.result c.set.result.now c.requires.kept
    (ap (λ ps. map batch_of (firsts ps)) (c.and.ensures ∙ ap (λ ps. ps ++ (c.args.batch.now, tt) ∷ []) c.new-none.ensures)) c.control_count.ensures.count c.set.ensures c.push.ensures.turns)
