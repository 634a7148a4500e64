use Rattle.std.proofs.Common.{◌≡◌, ◌≢◌, ◌+◌, ◌∙◌, ℕ, List, [], All, Contains, length, map, reverse, drop, take, ◌++◌, refl, ap, sym, subst, arith, rules}
use Rattle.std.specs.List.{AllPairs}
use Rattle.std.proofs.lemmas.List.Elements.{All-weaker}
use Rattle.shared_door.specs.Shown.{shown_by}
use Rattle.shared_door.specs.declared.acts.Act.{Act}
use Rattle.door_workers.specs.declared.worker.Worker.{Worker}
use Rattle.turn_book.specs.declared.hall.Pass.{Pass}
use Rattle.door_workers.specs.Serving.{over_of, IsIdlePass, IsRestingPass, HasWorked, IsGathered}
use Rattle.turn_book.specs.Passes.{known_by}
use Rattle.turn_book.specs.Rule.{turns_by}
use Rattle.turn_book.specs.declared.view.View.{View}
use Rattle.door_workers.proofs.ServingLemmas.{served_and_done, many_images, all_taken, taken_is, map_again, worked_new, all_done}
use Rattle.door_workers.proofs.door.serve_in.Goals as goal

pub returns-clause-served : goal.returns-clause-served
returns-clause-served g c =
    let d = g.D.Door in let o = c.open_by-parts in let h = c.hire-workers in
    let W : Type 0 = Worker g.row.V.Denot g.row.Own.Denot (Act g.row.D-In.Denot g.row.D-Out.Denot g.row.V-Turn.Denot) g.row.V-Turn.Denot g.V.Story in
    let R : Type 0 = Pass g.row.V.Denot g.row.V-Turn.Denot g.V.Story in
    let pair : W → ℕ × g.row.Own.Denot = λ w. (w.pass.seat.me.0.number, w.lent.value) in
    let n : h.result.len ≡ length o.new.workers = search rules in
    let lent : c.as_mut_slice.result.now ≡ h.result.items = search rules in
    let hired : map pair (take h.result.len (o.new.workers ++ drop (length o.new.workers) h.result.items)) ≡ map pair h.result.items =
    ap (map pair) (taken_is h.result.len o.new.workers (drop (length o.new.workers) h.result.items) n) ∙ (o.ensures.same ∙ ap (map pair) lent) in
    let known = map (λ (p : R). known_by p.seat) c.gather.new.passes.items in
    let some : length c.gather.new.passes.items ≡ h.result.len + 1 = search rules in
    let many : length known ≡ length c.gather.new.passes.items = many_images (λ (p : R). known_by p.seat) c.gather.new.passes.items in
    served_and_done g.V.Served.fits g.V.Served.lasts g.W.Work.did g.V.Story.made_by c.args.connections (shown_by d.faults d.ahead d.given d.ended d.gave d.took_back d.closed c.args.door)
    (shown_by d.faults d.ahead d.given d.ended d.gave d.took_back d.closed o.result.door) o.result.standing c.end_of.result
    o.result.pass.seat.me.0.seen c.gather.new.pass.seat.me.0.seen o.result.acts.items c.args.pass.now.seat.me.0.made c.args.owns.items c.gather.new.owns.items known
    c.end_of.ensures.over o.ensures.gave o.ensures.visited c.gather.ensures.last
    (all_done g.W.Work.did g.V.Story.made_by o.result.acts.items c.args.pass.now.seat.me.0.made c.another-last.new.pass.seat.me.0.made h.new.pass.seat.me.0.made
    (map pair h.result.items) c.args.owns.items c.gather.new.owns.items known
    (subst (λ (k : ℕ). IsGathered g.W.Work.did o.result.acts.items g.V.Story.made_by k (reverse (map pair h.result.items)) c.gather.new.owns.items known)
    (o.ensures.unturned.0 ∙ ap (λ (v : View g.row.V-Turn.Denot). v.number) c.another-last.ensures.new.2)
    (subst (λ (l : List (ℕ × g.row.Own.Denot)). IsGathered g.W.Work.did o.result.acts.items g.V.Story.made_by o.result.pass.seat.me.0.number (reverse l) c.gather.new.owns.items known) hired
    c.gather.ensures.crew))
    (h.ensures.lent ∙ ap reverse (sym (map_again pair (λ p. p.1) h.result.items))) c.another-last.ensures.made
    (omega (arith, h.ensures.made, c.another-last.ensures.made, many, some, h.ensures.count))
    (λ k low high. subst (λ (l : List ℕ). Contains l k) (sym (map_again pair (λ p. p.0) h.result.items)) (h.ensures.numbers k low high))
    (subst (AllPairs (λ n m. n ≢ m)) (sym (map_again pair (λ p. p.0) h.result.items)) h.ensures.distinct))

pub gather-requires-clause-workers : goal.gather-requires-clause-workers
gather-requires-clause-workers g c =
    let W : Type 0 = Worker g.row.V.Denot g.row.Own.Denot (Act g.row.D-In.Denot g.row.D-Out.Denot g.row.V-Turn.Denot) g.row.V-Turn.Denot g.V.Story in
    let P : W → Type 0 = λ w. IsRestingPass g.V.Served.rests c.args.hall.now.table.shared.table_id w.pass.seat in
    let ws = c.open_by-parts.new.workers in let n : c.hire-workers.result.len ≡ length ws = search rules in
    all_taken P c.hire-workers.result.len ws (drop (length ws) c.hire-workers.result.items) n c.open_by-parts.ensures.workers

pub gather-requires-clause-worked : goal.gather-requires-clause-worked
gather-requires-clause-worked g c =
    let W : Type 0 = Worker g.row.V.Denot g.row.Own.Denot (Act g.row.D-In.Denot g.row.D-Out.Denot g.row.V-Turn.Denot) g.row.V-Turn.Denot g.V.Story in
    let P : W → Type 0 = λ w. HasWorked g.W.Work.did c.open_by-parts.result.acts.items w.pass.seat w.lent.value w.own in
    let ws = c.open_by-parts.new.workers in let n : c.hire-workers.result.len ≡ length ws = search rules in
    all_taken P c.hire-workers.result.len ws (drop (length ws) c.hire-workers.result.items) n c.open_by-parts.ensures.worked

pub gather-requires-clause-unturned : goal.gather-requires-clause-unturned
gather-requires-clause-unturned g c = let (number, none) = c.open_by-parts.ensures.unturned in let seen = c.open_by-parts.result.pass.seat.me.0.seen in
    subst (λ (n : ℕ). turns_by g.V.Story.made_by n seen ≡ []) (sym number) none

pub open_by-parts-requires-clause-unturned : goal.open_by-parts-requires-clause-unturned
open_by-parts-requires-clause-unturned g c κs lives = let a = c.another-last.ensures in let (_, _, new) = a.new in
    (refl, subst (λ (v : View g.row.V-Turn.Denot). turns_by g.V.Story.made_by v.number v.seen ≡ []) (sym new) a.no_turn)

pub open_by-parts-requires-clause-worked : goal.open_by-parts-requires-clause-worked
open_by-parts-requires-clause-worked g c κs lives =
    let laws = g.met.W.Work g.world.𝓛 g.world.𝓜 g.world.𝓡 ((λ s x. x), (λ x. x), (λ x. x), λ x. x) in
    let W : Type 0 = Worker g.row.V.Denot g.row.Own.Denot (Act g.row.D-In.Denot g.row.D-Out.Denot g.row.V-Turn.Denot) g.row.V-Turn.Denot g.V.Story in
    let Q : W → Type 0 = λ w. HasWorked g.W.Work.did w.front.items w.pass.seat w.lent.value w.own in
    let lent : c.as_mut_slice.result.now ≡ c.hire-workers.result.items = search rules in
    subst (λ (ws : List W). All Q ws) (sym lent) (All-weaker (λ (w : W). (turns_by g.V.Story.made_by w.pass.seat.me.0.number w.pass.seat.me.0.seen ≡ []) × (w.lent.value ≡ w.own)) Q
    (λ w h. worked_new g.W.Work.did g.V.Story.made_by laws.unturned w.front.items w.pass.seat w.lent.value w.own h.0 h.1) c.hire-workers.result.items c.hire-workers.ensures.fresh)

pub returns-clause-passes : goal.returns-clause-passes
returns-clause-passes g c = let hall = c.args.hall.now.table.shared.table_id in let R : Type 0 = Pass g.row.V.Denot g.row.V-Turn.Denot g.V.Story in
    All-weaker (λ (p : R). IsRestingPass g.V.Served.rests hall p.seat) (λ p. IsIdlePass hall p.seat) (λ p h. h.0) _ c.gather.ensures.passes

pub returns-clause-rests : goal.returns-clause-rests
returns-clause-rests g c = let hall = c.args.hall.now.table.shared.table_id in let R : Type 0 = Pass g.row.V.Denot g.row.V-Turn.Denot g.V.Story in
    All-weaker (λ (p : R). IsRestingPass g.V.Served.rests hall p.seat) (λ p. g.V.Served.rests p.seat.me.0.number p.seat.me.0.seen) (λ p h. h.1) _
    c.gather.ensures.passes

pub returns-clause-stopped : goal.returns-clause-stopped
returns-clause-stopped g c = λ is. g.V.Served.stays _ _ c.gather.ensures.last (c.open_by-parts.ensures.stopped (c.end_of.ensures.over ∙ ap over_of is))
