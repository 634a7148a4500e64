use Rattle.std.proofs.Common.{◌≡◌, ◌+◌, ◌∷◌, ◌++◌, [], map, take, sym, ap, subst, ◌∙◌}
use Rattle.std.proofs.lemmas.List.{map-append, take_more}
use Rattle.memory_disk.specs.HeldDisk.{IsLeft}
use Rattle.memory_disk.specs.Tape.{call_of}
use Rattle.memory_disk.proofs.HeldDiskLemmas.{left_push}
use Rattle.memory_disk.proofs.image.left_by.Goals as goal

pub loop-call-preserved : goal.loop-call-preserved
loop-call-preserved c =
    let first = c.args.first.now in
    let calls = c.args.calls.now in
    let i = c.loop-call.call-index in
    let item = c.call-item.result in
    let more : map call_of (take (i + 1) calls) ≡ map call_of (take i calls) ++ call_of item ∷ [] =
    ap (map call_of) (take_more calls i item c.loop-call-test.true ∙ ap (λ one. take i calls ++ one ∷ []) (sym c.call-item.is))
    ∙ map-append call_of (take i calls) (item ∷ []) in
    subst (λ cs. IsLeft first cs c.in_ok-left.left) (sym more)
    (left_push first (map call_of (take i calls)) (call_of item) c.loop-call.left c.in_ok-left.left c.loop-call.invariant c.in_ok-left.ensures.file
    c.in_ok-left.ensures.image)
