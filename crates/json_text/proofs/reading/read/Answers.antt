use Rattle.std.proofs.Common.{◌≤◌, ◌∙◌, sym, ap, subst}
use Rattle.json_text.specs.{Compact.IsValue, Compact.tree_levels, Node.value_of}
use Rattle.json_text.proofs.FaultPlaces.{is_only, only_memory, stands_so, deep_so, same_fault}
use Rattle.json_text.proofs.{ValueLemmas.text_is_value, ValueLemmas.text_within, WholeTexts.read_spelled}
use Rattle.json_text.proofs.reading.read.Goals as goal

pub returns-in-Ok-clause-found : goal.returns-in-Ok-clause-found
returns-in-Ok-clause-found c = let r = c.in-Ok.ensures.ok in (r.0, read_spelled c.args.levels c.args.bytes.now r.0 r.1, r.2)

pub returns-in-Ok-clause-only : goal.returns-in-Ok-clause-only
returns-in-Ok-clause-only c m h = let r = c.in-Ok.ensures.ok in r.2 ∙ ap value_of (is_only c.args.levels c.args.bytes.now r.0 m r.1 h)

pub returns-in-Ok-clause-value : goal.returns-in-Ok-clause-value
returns-in-Ok-clause-value c = let r = c.in-Ok.ensures.ok in
    subst IsValue (sym r.2) (text_is_value c.args.levels c.args.bytes.now r.0 (read_spelled c.args.levels c.args.bytes.now r.0 r.1))

pub returns-in-Err-clause-only : goal.returns-in-Err-clause-only
returns-in-Err-clause-only c m h = only_memory c.args.levels c.args.bytes.now m c.in-Err.fault h c.in-Err.ensures.err

pub returns-in-Err-clause-not_json : goal.returns-in-Err-clause-not_json
returns-in-Err-clause-not_json c at is = stands_so c.args.levels c.args.bytes.now c.in-Err.fault at c.in-Err.ensures.err (same_fault is)

pub returns-in-Err-clause-too_deep : goal.returns-in-Err-clause-too_deep
returns-in-Err-clause-too_deep c at is = deep_so c.args.levels c.args.bytes.now c.in-Err.fault at c.in-Err.ensures.err (same_fault is)

pub returns-in-Ok-clause-levels : goal.returns-in-Ok-clause-levels
returns-in-Ok-clause-levels c = let r = c.in-Ok.ensures.ok in
    subst (λ t. tree_levels t ≤ c.args.levels) (sym r.2) (text_within c.args.levels c.args.bytes.now r.0 (read_spelled c.args.levels c.args.bytes.now r.0 r.1))
