use Rattle.std.proofs.Common.{◌≡◌, ℕ, ◌+◌, List, ◌∷◌, length, take, drop, sym, ap, ◌∙◌, arith, length-drop}
use Rattle.std.proofs.lemmas.List.Sums.{sum_by_push, sum_by-take-le}
use Rattle.std.proofs.lemmas.Option.{MatchOption-at_some, MatchOption-at_none}
use Rattle.archive_keep.specs.declared.event_ref.KeptEvent.{KeptEvent}
use Rattle.archive_keep.specs.Archive.{size_of}
use Rattle.archive_keep.proofs.KeptLemmas.{left_more}
use Rattle.archive_keep.proofs.archive.size_of_first.Goals as goal

size_more : (events left new : List KeptEvent) (i bytes size : ℕ) (e : KeptEvent) → left ≡ drop i events → bytes ≡ size_of (take i events)
    → left ≡ e ∷ new → size ≡ length e.text → (new ≡ drop (i + 1) events) × (bytes + size ≡ size_of (take (i + 1) events))
size_more events left new i bytes size e is summed step sized =
    let (rest, taken) = left_more events new i e (sym is ∙ step) in
    let f : KeptEvent → ℕ = λ e. length e.text in
    (sym rest, omega (arith, summed, sized, ap size_of taken, sum_by_push f (take i events) e))

stepped : (c : goal.After-text) → (c.next.new.self ≡ drop (c.loop.counter + 1) c.args.events.now)
    × (c.loop.bytes + length c.text.result.now ≡ size_of (take (c.loop.counter + 1) c.args.events.now))
stepped c =
    size_more c.args.events.now c.loop.left c.next.new.self c.loop.counter c.loop.bytes (length c.text.result.now) c.in-Some.event.now c.loop.invariant.0
    c.loop.invariant.1 (MatchOption-at_some _ _ c.in-Some.event c.in-Some.is c.next.ensures.steps) (ap (length {A = ℕ}) c.text.ensures.text)

pub overflow_add-bytes : goal.overflow_add-bytes
overflow_add-bytes c =
    let f : KeptEvent → ℕ = λ e. length e.text in
    omega (arith, (stepped c).1, sum_by-take-le f c.args.events.now (c.loop.counter + 1), c.requires.all, c.ranges.all)

pub unreachable-requires : goal.unreachable-requires
unreachable-requires c =
    let (none, same) = MatchOption-at_none _ _ c.in-None.is c.next.ensures.steps in
    omega (arith, c.loop-test.true, c.requires.count, length-drop c.loop.counter c.args.events.now, ap (length {A = KeptEvent}) (sym c.loop.invariant.0 ∙ none))

pub loop-preserved : goal.loop-preserved
loop-preserved c = stepped c
