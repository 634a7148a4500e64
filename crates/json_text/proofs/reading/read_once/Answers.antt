use Rattle.std.proofs.Common.{◌≤◌, ◌∙◌, sym, ap, subst}
use Rattle.json_text.specs.{Compact.IsValue, Compact.tree_levels, Node.value_of, Node.first_repeat, Once.IsRepeatOrMemory}
use Rattle.json_text.proofs.FaultPlaces.{is_only, only_memory, stands_so, deep_so, same_fault}
use Rattle.json_text.proofs.{ValueLemmas.text_is_value, ValueLemmas.text_within, WholeTexts.read_spelled}
use Rattle.json_text.proofs.reading.read_once.Goals as goal

pub returns-in-None-clause-found : goal.returns-in-None-clause-found
returns-in-None-clause-found c = let r = c.in-Ok.ensures.ok in (r.0, read_spelled c.args.levels c.args.bytes.now r.0 r.1, sym r.3 ∙ c.in-None.is, r.2)

pub returns-in-None-clause-only : goal.returns-in-None-clause-only
returns-in-None-clause-only c m h = let r = c.in-Ok.ensures.ok in let same = is_only c.args.levels c.args.bytes.now r.0 m r.1 h in
    (ap first_repeat (sym same) ∙ sym r.3 ∙ c.in-None.is, r.2 ∙ ap value_of same)

pub returns-in-None-clause-value : goal.returns-in-None-clause-value
returns-in-None-clause-value c = let r = c.in-Ok.ensures.ok in
    subst IsValue (sym r.2) (text_is_value c.args.levels c.args.bytes.now r.0 (read_spelled c.args.levels c.args.bytes.now r.0 r.1))

pub returns-in-Some-clause-only : goal.returns-in-Some-clause-only
returns-in-Some-clause-only c m h = let r = c.in-Ok.ensures.ok in ap first_repeat (sym (is_only c.args.levels c.args.bytes.now r.0 m r.1 h)) ∙ sym r.3
    ∙ c.in-Some.is

pub returns-in-Some-clause-key_twice : goal.returns-in-Some-clause-key_twice
returns-in-Some-clause-key_twice c at is = let r = c.in-Ok.ensures.ok in
    (r.0, read_spelled c.args.levels c.args.bytes.now r.0 r.1, (cc (r.3, c.in-Some.is, is)))

pub returns-in-Err-clause-only : goal.returns-in-Err-clause-only
returns-in-Err-clause-only c m h = subst (IsRepeatOrMemory m) (sym (only_memory c.args.levels c.args.bytes.now m c.in-Err.fault h c.in-Err.ensures.err)) tt

pub returns-in-Err-clause-not_json : goal.returns-in-Err-clause-not_json
returns-in-Err-clause-not_json c at is = stands_so c.args.levels c.args.bytes.now c.in-Err.fault at c.in-Err.ensures.err (same_fault is)

pub returns-in-Err-clause-too_deep : goal.returns-in-Err-clause-too_deep
returns-in-Err-clause-too_deep c at is = deep_so c.args.levels c.args.bytes.now c.in-Err.fault at c.in-Err.ensures.err (same_fault is)

pub returns-in-None-clause-levels : goal.returns-in-None-clause-levels
returns-in-None-clause-levels c = let r = c.in-Ok.ensures.ok in
    subst (λ t. tree_levels t ≤ c.args.levels) (sym r.2) (text_within c.args.levels c.args.bytes.now r.0 (read_spelled c.args.levels c.args.bytes.now r.0 r.1))
