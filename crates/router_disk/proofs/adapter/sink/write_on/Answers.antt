use Rattle.std.proofs.Common.{◌≡◌, ℕ, ◌-◌, List, ◌++◌, length, drop, take, ◌∙◌, ap, sym, append_assoc, length-drop, arith}
use Rattle.std.proofs.lemmas.List.{take-append-drop, take_all}
use Rattle.router_disk.proofs.StreamLemmas.{Appends-append, Appends-Keeps}
use Rattle.router_disk.proofs.adapter.sink.write_on.Goals.{in-Ok, in-Err}
use Rattle.router_disk.proofs.adapter.sink.write_on.Goals as goal

-- a part of the rest joins what was written
moved : (bytes first rest tail : List ℕ) (n : ℕ) → bytes ≡ first ++ rest → tail ≡ take (length rest - n) (drop n rest) →
    bytes ≡ first ++ take n rest ++ tail
moved bytes first rest tail n is end =
    let short : length (drop n rest) ≡ length rest - n = length-drop n rest in
    let whole = take_all (length rest - n) (drop n rest) (omega (arith, short)) in
    let all = take-append-drop n rest in
    let joined = append_assoc first (take n rest) tail in cc

pub loop-preserved : goal.loop-preserved
loop-preserved g c = elim c.match-write.branch [
  | in-Ok w ↦ let before = c.loop.invariant in (
    before.0 ++ take w.in-Ok.count c.loop.rest.now,
    moved c.args.bytes.now before.0 c.loop.rest.now c.match-write.rest.now w.in-Ok.count before.1 (ap (λ r. r.now) w.rest-is),
    Appends-append _ (g.W.Write.contents c.loop.writer) _ before.0 (take w.in-Ok.count c.loop.rest.now) before.2 w.in-Ok.ensures.bytes,
    w.wrote-is ∙ w.hear.ensures ∙ ap (λ m. m ++ take w.in-Ok.count c.loop.rest.now) before.3
        ∙ append_assoc c.args.wrote.now before.0 (take w.in-Ok.count c.loop.rest.now),
  )
  | in-Err w ↦ let before = c.loop.invariant in (
    before.0,
    before.1 ∙ ap (λ r. before.0 ++ r.now) (sym w.rest-is),
    Appends-Keeps _ (g.W.Write.contents c.loop.writer) _ before.0 before.2 w.in-Err.ensures.bytes,
    w.wrote-is ∙ before.3,
  )
]
