use Rattle.json_text.specs.{Scan.scan_word, Reading.put, Node.first_of, Kept.repeat_of}
use Rattle.std.proofs.Common.{◌+◌, ◌∙◌, sym, ap, drop}
use Rattle.json_text.proofs.{KeptLemmas.first_of-none, TokenRuns.value_word, TokenRuns.value_word_stops}
use Rattle.json_text.proofs.reader.Reader.word.Goals as goal

pub returns-in_ok-next-in-Ok-clause-goes : goal.returns-in_ok-next-in-Ok-clause-goes
returns-in_ok-next-in-Ok-clause-goes c outer kept r = let word = c.requires in
    let read = value_word c.args.self.now.levels c.args.place.at outer c.args.word.now word.0 c.args.place.rest.now c.in-Ok.len c.after.result.at
    c.after.result.rest.now word.3 (ap (scan_word c.args.word.now 0) (sym c.after-inside.ensures.rest) ∙ sym c.in-Ok.ensures.scanned)
    (c.after.ensures.at ∙ ap (λ k. k + c.in-Ok.len) c.after-inside.ensures.at) (c.after.ensures.rest ∙ ap (drop c.in-Ok.len) c.after-inside.ensures.rest) in
    let state = c.in_ok-next-in-Ok.ensures.ok word.0 outer word.1 kept
    (r ∙ sym (first_of-none (repeat_of outer)) ∙ ap (first_of (repeat_of outer)) (sym word.2)) in (put word.0 outer, state, read.0, read.1)

pub returns-in-Err-clause-goes : goal.returns-in-Err-clause-goes
returns-in-Err-clause-goes c outer kept r = let word = c.requires in
    value_word_stops c.args.self.now.levels c.args.place.at outer c.args.word.now word.0 c.args.place.rest.now c.in-Err.n _ word.3 (ap
    (scan_word c.args.word.now 0) (sym c.after-inside.ensures.rest) ∙ sym c.in-Err.ensures.scanned) (ap (λ k. k + c.in-Err.n) c.after-inside.ensures.at)
