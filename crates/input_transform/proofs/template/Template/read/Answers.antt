use Rattle.std.proofs.Common.{sym, ap, ◌∙◌, subst}
use Rattle.json_text.specs.View.{tree_of}
use Rattle.json_text.specs.Compact.{compact_text}
use Rattle.std.proofs.lemmas.Result.{IfOk-weaker, MatchResult-from_both}
use Rattle.input_transform.specs.Template.{Content, IsTemplate}
use Rattle.input_transform.specs.Stored.{FillsAs}
use Rattle.input_transform.proofs.TemplateLemmas.{read_back, read_sound, template_there, IsWritten}
use Rattle.input_transform.proofs.template.Template.read.Goals as goal

pub stored-requires : goal.stored-requires
stored-requires c =
    let l = c.in-Ok.ensures.found in
    let r = c.in-Ok-read_value.ensures.found in
    read_sound c.args.paths.now c.args.text.now (tree_of c.in-Ok-read_value.json)
    (read_back c.args.paths.now c.args.text.now c.as_slice.result.now l.0 r.0 (tree_of c.in-Ok-read_value.json) l.1 (sym c.as_bytes.ensures.value ∙ l.2)
    (c.as_slice.ensures ∙ l.3) r.1 r.2)

pub returns-in-Ok-read_value-clause-found : goal.returns-in-Ok-read_value-clause-found
returns-in-Ok-read_value-clause-found c =
    let l = c.in-Ok.ensures.found in
    let r = c.in-Ok-read_value.ensures.found in
    let b = read_back c.args.paths.now c.args.text.now c.as_slice.result.now l.0 r.0 (tree_of c.in-Ok-read_value.json) l.1 (sym c.as_bytes.ensures.value ∙ l.2)
    (c.as_slice.ensures ∙ l.3) r.1 r.2 in
    IfOk-weaker c.stored.result _ (λ t. (x : Content) × IsTemplate c.args.paths.now c.args.text.now x × FillsAs t x)
    (λ t h. (b.0, b.1, λ scene. h scene ∙ ap compact_text (b.2 scene))) c.stored.ensures.filled

-- what is written of a template that the text spells, for each clause
pub returns-in-Ok-read_value-clause-only : goal.returns-in-Ok-read_value-clause-only
returns-in-Ok-read_value-clause-only c x h =
    let t = template_there c.args.paths.now c.args.text.now x h in
    let same = c.in-Ok.ensures.only t.0 t.1 (c.as_bytes.ensures.value ∙ t.2) in
    let n = subst (IsWritten c.args.paths.now x) (sym (c.as_slice.ensures ∙ same)) t.3 in
    let v = c.in-Ok-read_value.ensures.only n.0 n.1 in
    MatchResult-from_both c.stored.result (λ s. FillsAs s x) _
    (IfOk-weaker c.stored.result _ (λ s. FillsAs s x) (λ s k scene. k scene ∙ ap compact_text (n.2 (tree_of c.in-Ok-read_value.json) v scene)) c.stored.ensures.filled)
    c.stored.ensures.memory

pub returns-in-Ok-clause-only : goal.returns-in-Ok-clause-only
returns-in-Ok-clause-only c x h =
    let t = template_there c.args.paths.now c.args.text.now x h in
    let same = c.in-Ok.ensures.only t.0 t.1 (c.as_bytes.ensures.value ∙ t.2) in
    let n = subst (IsWritten c.args.paths.now x) (sym (c.as_slice.ensures ∙ same)) t.3 in
    c.in-Err-read_value.ensures.only n.0 n.1

pub returns-clause-only : goal.returns-clause-only
returns-clause-only c x h =
    let t = template_there c.args.paths.now c.args.text.now x h in
    c.in-Err.ensures.only t.0 t.1 (c.as_bytes.ensures.value ∙ t.2)
