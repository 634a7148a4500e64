-- The duties of an event: what is read of an input gives its text (`text_read`), and a duty is that of its target (`duty_filled`,
-- `duty_whole`). Other crates cite `duties_once` (the duties are determined), `duties_count` and `duties_short` (at most 1,048,576 bytes each).
use Rattle.std.proofs.Common.{◌≡◌, ℕ, suc, ◌≤◌, Bool, true, false, not, cond, List, [], ◌∷◌, length, Option, Some, None, refl, sym, ap, ◌∙◌, subst, codes}
use Rattle.std.specs.Prelude.{All, nat_le}
use Rattle.std.specs.Str.{IsUtf8}
use Rattle.std.proofs.lemmas.Bool.{leb-true}
use Rattle.std.proofs.lemmas.List.Elements.{All-nil, All-cons}
use Rattle.json_text.specs.Tree.{Tree}
use Rattle.json_text.specs.Node.{Node, value_of}
use Rattle.json_text.specs.Compact.{compact_text}
use Rattle.json_text.specs.Limits.{most_text}
use Rattle.json_text.proofs.OneValue.{one_value}
use Rattle.input_transform.specs.declared.fill.Input.{Input as Read}
use Rattle.input_transform.specs.declared.fill.Input.TheVariants as read
use Rattle.input_transform.specs.declared.path.Step.{Step}
use Rattle.input_transform.specs.Names.{Scene, Paths}
use Rattle.input_transform.specs.Template.{Content, IsTemplate}
use Rattle.input_transform.specs.Filled.{filled}
use Rattle.input_transform.specs.Fills.{input_text}
use Rattle.input_transform.proofs.LawLemmas.{one_path, one_template}
use Rattle.rule_targets.specs.declared.given.GivenInput.{GivenInput}
use Rattle.rule_targets.specs.declared.given.GivenInput.TheVariants.{Input, InputPath, InputTransformer}
use Rattle.rule_targets.specs.Given.{Transformer}
use Rattle.rule_targets.specs.Input.{IsReadOf, IsTemplateOf}
use Rattle.rule_targets.proofs.InputLemmas.{paths_once}
use Rattle.delivery_duties.specs.declared.duty.NewDuty.{NewDuty}
use Rattle.shared_text.specs.declared.row.TargetRow.{TargetRow}
use Rattle.router_requests.specs.declared.duties.Sent.{Sent}
use Rattle.router_requests.specs.declared.seen.SeenTarget.{SeenTarget}
use Rattle.router_requests.specs.Duties.{scene_at, IsTextOf, IsTargetText, is_too_long, duty_of, IsDutyOf, AreDuties, IsSentOf, IsInputSent}

-- what is read of an input gives its text
pub text_read : (given : GivenInput) (r : Read) (scene : Scene) → IsReadOf given r → IsTextOf scene given (input_text scene r)
text_read (Input t) (read.Fixed text) scene (n, spelled, is) = (n, spelled, is)
text_read (InputPath t) (read.Path steps) scene is = (steps, is, refl)
text_read (InputTransformer t) (read.Transform stored) scene (paths, c, is, fills) = (paths, c, is, fills scene)
text_read _ _ scene is = absurd is

-- ---- the duties are determined

template_once : (scene : Scene) (t : Transformer) (ps qs : Paths) (c d : Content) → IsTemplateOf t ps c → IsTemplateOf t qs d → c ≡ d
template_once scene t ps qs c d h k =
    one_template ps t.template c d h.template
    (subst (λ (paths : Paths). IsTemplate paths t.template d) (paths_once t.paths qs ps k.entries h.entries) k.template)

text_once : (scene : Scene) (given : GivenInput) (a b : List ℕ) → IsTextOf scene given a → IsTextOf scene given b → a ≡ b
text_once scene (Input t) a b (n, h, is) (m, k, so) = is ∙ ap (λ (x : Node). compact_text (value_of x)) (one_value 100 100 t n m h k) ∙ sym so
text_once scene (InputPath t) a b (xs, h, is) (ys, k, so) =
    is ∙ ap (λ (steps : List Step). input_text scene (read.Path steps)) (one_path t xs ys h k) ∙ sym so
text_once scene (InputTransformer t) a b (ps, c, h, is) (qs, d, k, so) =
    is ∙ ap (λ (x : Content). compact_text (filled scene x)) (template_once scene t ps qs c d h k) ∙ sym so

target_text_once : (scene : Scene) (input : Option GivenInput) (a b : List ℕ) → IsTargetText scene input a → IsTargetText scene input b → a ≡ b
target_text_once scene None a b p q = p ∙ sym q
target_text_once scene (Some given) a b p q = text_once scene given a b p q

duty_once : (event : Tree) (time : List ℕ) (seen : SeenTarget) (x y : NewDuty) → IsDutyOf event time seen x → IsDutyOf event time seen y → x ≡ y
duty_once event time seen x y p q =
    p.is ∙ ap (duty_of seen.row) (target_text_once (scene_at event time seen) seen.input p.text q.text p.filled q.filled) ∙ sym q.is

pub duties_once : (event : Tree) (time : List ℕ) (targets : List SeenTarget) (xs ys : List NewDuty) → AreDuties event time targets xs
    → AreDuties event time targets ys → xs ≡ ys
duties_once event time [] xs ys p q = p ∙ sym q
duties_once event time (seen ∷ targets) [] ys p q = absurd p
duties_once event time (seen ∷ targets) (x ∷ xs) [] p q = absurd q
duties_once event time (seen ∷ targets) (x ∷ xs) (y ∷ ys) p q =
    ap (λ (d : NewDuty). d ∷ xs) (duty_once event time seen x y p.0 q.0) ∙ ap (λ (ds : List NewDuty). y ∷ ds) (duties_once event time targets xs ys p.1 q.1)

-- ---- their number and their size

pub duties_count : (event : Tree) (time : List ℕ) (targets : List SeenTarget) (duties : List NewDuty) → AreDuties event time targets duties
    → length duties ≡ length targets
duties_count event time [] duties none = ap length none
duties_count event time (seen ∷ targets) [] are = absurd are
duties_count event time (seen ∷ targets) (duty ∷ duties) are = ap suc (duties_count event time targets duties are.1)

-- the text of a duty is short
short_text : (b : Bool) (text : List ℕ) → not (nat_le (length text) most_text) ≡ b → length (cond b (codes "{}") text) ≤ most_text
short_text true text is = leb-true 2 most_text refl
short_text false text is = leb-true (length text) most_text (short_so (nat_le (length text) most_text) is)
  where
    short_so : (b : Bool) → not b ≡ false → b ≡ true
    short_so true e = refl
    short_so false e = cc

abbrev IsShort : NewDuty → Type 0
IsShort duty = length duty.text ≤ most_text

pub duties_short : (event : Tree) (time : List ℕ) (targets : List SeenTarget) (duties : List NewDuty) → AreDuties event time targets duties
    → All IsShort duties
duties_short event time [] duties none = subst (All IsShort) (sym none) (All-nil IsShort)
duties_short event time (seen ∷ targets) [] are = absurd are
duties_short event time (seen ∷ targets) (duty ∷ duties) (is, are) =
    All-cons IsShort duty duties (subst IsShort (sym is.is) (short_text (is_too_long is.text) is.text refl)) (duties_short event time targets duties are)

-- ---- the duty of one target

abbrev scene_of : Tree → List ℕ → List ℕ → Scene
scene_of event arn time = record { event = event; rule_arn = arn; time = time }

-- what is sent of the text that an input gives
pub sent_read : (given : GivenInput) (r : Read) (arn time : List ℕ) (tree event : Tree) (sent : Sent) → IsReadOf given r → tree ≡ event
    → IsSentOf (input_text (scene_of tree arn time) r) sent → IsInputSent (scene_of event arn time) given sent
sent_read given r arn time tree event sent is same of =
    subst (λ (t : Tree). IsInputSent (scene_of t arn time) given sent) same
    (input_text (scene_of tree arn time) r, text_read given r (scene_of tree arn time) is, of)

abbrev pub duty_with : TargetRow → Sent → NewDuty
duty_with row sent = record { target = row; text = sent.text; too_long = sent.too_long }

abbrev duty_from : TargetRow → List ℕ → Bool → NewDuty
duty_from row text too_long = record { target = row; text = text; too_long = too_long }

duty_same : (row : TargetRow) (text : List ℕ) (sent : Sent) → IsSentOf text sent → duty_with row sent ≡ duty_of row text
duty_same row text sent of =
    ap (λ (t : List ℕ). duty_from row t sent.too_long) of.text
    ∙ ap (duty_from row (cond (is_too_long text) (codes "{}") text)) of.too_long

-- the duty of a target with an input
pub duty_filled : (event : Tree) (time : List ℕ) (seen : SeenTarget) (given : GivenInput) (arn : List ℕ) (sent : Sent) → seen.input ≡ Some given
    → arn ≡ seen.row.rule_arn → IsUtf8 arn → IsInputSent (scene_of event arn time) given sent → IsDutyOf event time seen (duty_with seen.row sent)
duty_filled event time seen given arn sent input same utf8 (text, is, of) = record {
  text = text;
  filled = subst (λ (o : Option GivenInput). IsTargetText (scene_at event time seen) o text) (sym input)
      (subst (λ (a : List ℕ). IsTextOf (scene_of event a time) given text) same is);
  is = duty_same seen.row text sent of;
  arn = subst IsUtf8 same utf8;
}

-- and of one without
pub duty_whole : (event : Tree) (time : List ℕ) (seen : SeenTarget) (arn : List ℕ) (sent whole : Sent) → seen.input ≡ None → arn ≡ seen.row.rule_arn
    → IsUtf8 arn → sent ≡ whole → IsSentOf (compact_text event) whole → IsDutyOf event time seen (duty_with seen.row sent)
duty_whole event time seen arn sent whole input named utf8 same of = record {
  text = compact_text event;
  filled = subst (λ (o : Option GivenInput). IsTargetText (scene_at event time seen) o (compact_text event)) (sym input) refl;
  is = duty_same seen.row (compact_text event) sent (subst (IsSentOf (compact_text event)) (sym same) of);
  arn = subst IsUtf8 named utf8;
}
