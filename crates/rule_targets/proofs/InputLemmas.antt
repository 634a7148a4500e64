-- Inputs of targets: entries are one list of paths (`paths_once`); what is read of an input has one text (`one_text`), and is sound
-- (`sound_input`). `read_transformer` cites `transformer_read`.
use Rattle.std.proofs.Common.{◌≡◌, ◌&&◌, ℕ, true, List, [], ◌∷◌, length, Option, Some, None, sym, ap, ◌∙◌, subst, arith}
use Rattle.std.specs.Prelude.{nat_le, MatchOption}
use Rattle.std.proofs.lemmas.Bool.{and_parts, leb-true}
use Rattle.json_text.specs.Node.{value_of}
use Rattle.json_text.specs.Grammar.{IsText}
use Rattle.json_text.specs.Compact.{compact_text}
use Rattle.json_text.proofs.OneValue.{one_value}
use Rattle.json_text.proofs.SpelledBack.{compact_spelled}
use Rattle.json_text.proofs.ValueLemmas.{text_is_value, text_within}
use Rattle.input_transform.specs.declared.fill.Input.{Input}
use Rattle.input_transform.specs.declared.fill.Input.TheVariants as input
use Rattle.input_transform.specs.Names.{Scene, Paths}
use Rattle.input_transform.specs.Template.{Content, IsTemplate}
use Rattle.input_transform.specs.Filled.{filled}
use Rattle.input_transform.specs.Fills.{input_text, IsSoundInput}
use Rattle.input_transform.proofs.LawLemmas.{one_path, one_template}
use Rattle.rule_targets.specs.Given.{Transformer}
use Rattle.rule_targets.specs.declared.given.GivenInput.{GivenInput}
use Rattle.rule_targets.specs.declared.given.GivenInput.TheVariants as given
use Rattle.rule_targets.specs.Input.{has_chars, ArePaths, IsTemplateOf, IsInputTransformer, IsReadOf}

pub paths_once : (entries : List (List ℕ × List ℕ)) (ps qs : Paths) → ArePaths entries ps → ArePaths entries qs → ps ≡ qs
paths_once [] ps qs h k = h ∙ sym k
paths_once (entry ∷ entries) ps qs (steps, rest, is, key, path, more) (steps', rest', is', key', path', more') =
    let first = one_path entry.1 steps steps' path path' in
    let others = paths_once entries rest rest' more more' in
    cc

-- templates with the same text and paths are the same
contents_once : (t : Transformer) (ps qs : Paths) (c d : Content) → IsTemplateOf t ps c → IsTemplateOf t qs d → c ≡ d
contents_once t ps qs c d h k =
    let same = paths_once t.paths qs ps k.entries h.entries in
    one_template ps t.template c d h.template (subst (λ paths. IsTemplate paths t.template d) same k.template)

pub one_text : (g : GivenInput) (a b : Input) (scene : Scene) → IsReadOf g a → IsReadOf g b → input_text scene a ≡ input_text scene b
one_text (given.Input t) (input.Fixed a) (input.Fixed b) scene (n, h, is) (m, k, is') =
    is ∙ ap (λ node. compact_text (value_of node)) (one_value 100 100 t n m h k) ∙ sym is'
one_text (given.InputPath t) (input.Path a) (input.Path b) scene h k = ap (λ steps. input_text scene (input.Path steps)) (one_path t a b h k)
one_text (given.InputTransformer t) (input.Transform a) (input.Transform b) scene (ps, c, h, fills) (qs, d, k, fills') =
    fills scene ∙ ap (λ content. compact_text (filled scene content)) (contents_once t ps qs c d h k) ∙ sym (fills' scene)
one_text (given.Input t) (input.Fixed a) _ scene h k = absurd k
one_text (given.InputPath t) (input.Path a) _ scene h k = absurd k
one_text (given.InputTransformer t) (input.Transform a) _ scene h k = absurd k
one_text _ _ _ scene h k = absurd h

pub sound_input : (g : GivenInput) (a : Input) → IsReadOf g a → IsSoundInput a
sound_input (given.Input t) (input.Fixed a) (n, h, is) =
    let back = compact_spelled (value_of n) (text_is_value 100 t n h) in
    let within = text_within 100 t n h in
    let deep = back.1.within in
    let text : IsText 100 (compact_text (value_of n)) back.0 = record { spelled = back.1.spelled; within = omega (arith, deep, within) } in
    (back.0, subst (λ bytes. IsText 100 bytes back.0) (sym is) text)
sound_input (given.InputPath t) (input.Path a) h = tt
sound_input (given.InputTransformer t) (input.Transform a) h = tt
sound_input _ _ h = absurd h

-- what is read of a template is what is read of an InputTransformer within its limits, whose paths these are
pub transformer_read : (t : Transformer) (paths : Paths) (found : Option Input) → (nat_le (length t.paths) 100 && has_chars 1 8192 t.template) ≡ true
    → ArePaths t.paths paths
    → MatchOption found ((c : Content) → ¬ IsTemplate paths t.template c)
    (λ read. (c : Content) × IsTemplate paths t.template c × IsReadOf (given.InputTransformer t) read)
    → MatchOption found (¬ IsInputTransformer t) (λ read. IsInputTransformer t × IsReadOf (given.InputTransformer t) read)
transformer_read t paths None within are none = λ valid.
    let it = valid.template in
    none it.1 (subst (λ qs. IsTemplate qs t.template it.1) (paths_once t.paths it.0 paths it.2.entries are) it.2.template)
transformer_read t paths (Some read) within are some =
    let limits = and_parts (nat_le (length t.paths) 100) (has_chars 1 8192 t.template) within in (
      record {
        few = leb-true (length t.paths) 100 limits.0;
        size = limits.1;
        template = (paths, some.0, record { entries = are; template = some.1 });
      },
      some.2,
    )
