use Rattle.std.proofs.Common.{◌≤◌, length, map, take, sym, ap, ◌∙◌, arith}
use Rattle.std.proofs.lemmas.List.{length-map, take-append-le, take-map}
use Rattle.memory_disk.specs.Tape.{call_of}
use Rattle.memory_disk.proofs.tape.Tape.front.Goals as goal

pub returns : goal.returns
returns c =
    let kept = c.self.inside.kept.items in
    let n = c.args.calls in
    let value = c.as_slice.ensures.value in
    let few : n ≤ length (map call_of kept) =
    omega (arith, c.if-calls-len.false, c.len.ensures, c.as_slice.ensures.len, ap (λ ks. length ks) value, length-map kept call_of) in
    ap (λ ks. map call_of (take n ks)) value ∙ sym (take-map call_of n kept) ∙ sym (take-append-le n (map call_of kept) c.self.inside.lost few)
    ∙ ap (take n) c.self.view_is
