use Rattle.std.proofs.Common.{◌∙◌, sym, refl}
use Rattle.json_text.specs.{Node.text_node, Reading.put, Reading.value, Reading.in_value, Kept.repeat_of}
use Rattle.json_text.proofs.{KeptLemmas.first_of-none, ViewLemmas.tree_of_text, TokenRuns.string_takes, TokenRuns.string_faults}
use Rattle.json_text.proofs.reader.Reader.string.Goals as goal

pub returns-in-Err-clause-goes : goal.returns-in-Err-clause-goes
returns-in-Err-clause-goes c outer kept r =
    string_faults c.args.self.now.levels (value outer) (in_value outer) c.args.place c.in-Err.fault refl c.requires c.in-Err.ensures.err

pub returns-in_ok-next-in-Ok-clause-goes : goal.returns-in_ok-next-in-Ok-clause-goes
returns-in_ok-next-in-Ok-clause-goes c outer kept r = let read = c.in-Ok.ensures.ok in
    let state = c.in_ok-next-in-Ok.ensures.ok (text_node c.in-Ok.text) outer (tree_of_text c.in-Ok.text) kept (r ∙ sym (first_of-none (repeat_of outer))) in
    let same = string_takes c.args.self.now.levels c.args.place.at (value outer) (in_value outer) c.args.place.rest.now c.in-Ok.text read.0 c.in-Ok.there.at
    c.in-Ok.there.rest.now c.requires refl read.1 read.2 read.3 in (put (text_node c.in-Ok.text) outer, state, same, read.4)
