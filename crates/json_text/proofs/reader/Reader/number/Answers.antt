use Rattle.json_text.specs.{Scan.scan_number, Node.number_node, Tree.number, Reading.put, Parts.part_of, Kept.repeat_of}
use Rattle.std.proofs.Common.{◌+◌, ◌∙◌, sym, ap, take, drop}
use Rattle.json_text.proofs.{KeptLemmas.first_of-none, ViewLemmas.tree_of_number, TokenRuns.value_number, TokenRuns.value_number_stops, TokenRuns.number_front}
use Rattle.json_text.proofs.reader.Reader.number.Goals as goal

pub from_utf8-requires : goal.from_utf8-requires
from_utf8-requires c = number_front (part_of c.args.first) c.in-Ok.len c.args.place.rest.now c.requires
    (ap (scan_number (part_of c.args.first) 0) (sym c.after-inside.ensures.rest) ∙ sym c.in-Ok.ensures.scanned)

pub returns-in_ok-next-in-Ok-clause-goes : goal.returns-in_ok-next-in-Ok-clause-goes
returns-in_ok-next-in-Ok-clause-goes c outer kept r = let rest = c.args.place.rest.now in let n = number_node (take (1 + c.in-Ok.len) rest) in
    let read = value_number c.args.self.now.levels c.args.place.at outer (part_of c.args.first) rest c.in-Ok.len c.after.result.at c.after.result.rest.now
    c.requires (ap (scan_number (part_of c.args.first) 0) (sym c.after-inside.ensures.rest) ∙ sym c.in-Ok.ensures.scanned) (c.after.ensures.at
    ∙ ap (λ k. k + c.in-Ok.len) c.after-inside.ensures.at) (c.after.ensures.rest ∙ ap (drop c.in-Ok.len) c.after-inside.ensures.rest) in
    let state = c.in_ok-next-in-Ok.ensures.ok n outer (tree_of_number c.in_ok-spelling-in-Ok.spelling ∙ ap number c.in_ok-spelling-in-Ok.ensures) kept
    (r ∙ sym (first_of-none (repeat_of outer))) in (put n outer, state, read.0, read.1)

pub returns-in-Err-clause-goes : goal.returns-in-Err-clause-goes
returns-in-Err-clause-goes c outer kept r =
    value_number_stops c.args.self.now.levels c.args.place.at outer (part_of c.args.first) c.args.place.rest.now c.in-Err.n _ c.requires (ap (scan_number
    (part_of c.args.first) 0) (sym c.after-inside.ensures.rest) ∙ sym c.in-Err.ensures.scanned) (ap (λ k. k + c.in-Err.n) c.after-inside.ensures.at)
