-- The duties of an event: one for each target of each rule that matches, with the text that this target gets.
use Rattle.std.specs.Prelude.{◌≡◌, ℕ, Bool, true, false, not, nat_le, if◌then◌else◌, List, [], ◌∷◌, length, codes, Option, Some, None, unwrap_or}
use Rattle.std.specs.List.{list_any}
use Rattle.std.specs.Str.{IsUtf8}
use Rattle.json_text.specs.Tree.{Tree, null}
use Rattle.json_text.specs.Node.{Node, value_of}
use Rattle.json_text.specs.Grammar.{IsText}
use Rattle.json_text.specs.Compact.{compact_text, IsValue}
use Rattle.json_text.specs.View.{tree_of}
use Rattle.json_text.specs.declared.value.Json.{Json}
use Rattle.json_text.specs.Limits.{most_text}
use Rattle.shared_text.specs.declared.row.TargetRow.{TargetRow}
use Rattle.input_transform.specs.declared.path.Step.{Step}
use Rattle.input_transform.specs.Path.{IsPath, found_at}
use Rattle.input_transform.specs.Names.{Scene, Paths}
use Rattle.input_transform.specs.Template.{Content}
use Rattle.input_transform.specs.Filled.{filled}
use Rattle.rule_targets.specs.declared.given.GivenInput.{GivenInput}
use Rattle.rule_targets.specs.declared.given.GivenInput.TheVariants.{Input, InputPath, InputTransformer}
use Rattle.rule_targets.specs.Input.{IsTemplateOf}
use Rattle.delivery_duties.specs.declared.duty.NewDuty.{NewDuty}
use Rattle.router_requests.specs.declared.seen.SeenTarget.{SeenTarget}
use Rattle.router_requests.specs.declared.duties.Sent.{Sent}

-- What the text of a target is filled from: the event, the ARN of the target's rule, and the time text of the batch's moment.
-- Shown by: templates; tables router_core.rows: a_template_sees_its_rule_and_its_event.
abbrev pub scene_at : Tree → List ℕ → SeenTarget → Scene
scene_at event time seen = record { event = event; rule_arn = seen.row.rule_arn; time = time }

-- The text of a target with this input: of an Input the compact text of its value; of an InputPath that of what the path finds in the event,
-- or `null` if it finds nothing; of an InputTransformer that of its template with the names replaced.
-- Shown by: templates; tables router_core.rows: each_target_gets_its_own_text.
abbrev pub IsTextOf : Scene → GivenInput → List ℕ → Type 0
IsTextOf scene (Input given) text = (n : Node) × IsText 100 given n × (text ≡ compact_text (value_of n))
IsTextOf scene (InputPath given) text =
    (steps : List Step) × IsPath given steps × (text ≡ compact_text (unwrap_or (found_at steps scene.event) null))
IsTextOf scene (InputTransformer given) text =
    (paths : Paths) × (c : Content) × IsTemplateOf given paths c × (text ≡ compact_text (filled scene c))

-- The text of a target; without an input it is the compact text of the event.
-- Shown by: templates; tables router_core.rows: each_target_gets_its_own_text.
abbrev pub IsTargetText : Scene → Option GivenInput → List ℕ → Type 0
IsTargetText scene None text = text ≡ compact_text scene.event
IsTargetText scene (Some input) text = IsTextOf scene input text

-- The text has more bytes than a target accepts, which are 1,048,576 (this project's own limit).
-- Shown by: tables router_core.rows: each_target_is_owed_one_duty, each_target_gets_its_own_text.
abbrev pub is_too_long : List ℕ → Bool
is_too_long text = not (nat_le (length text) most_text)

-- The duty to deliver a text: the target's row, and the text, or `{}` if that is too long. The edit changes the test of texts that are not
-- filled: an event's and an Input's. That a filled text is too long is in the table.
-- Shown by: a_too_long_text_is_sent.edit; tables router_core.rows: each_target_gets_its_own_text.
abbrev pub duty_of : TargetRow → List ℕ → NewDuty
duty_of row text = record {
  target = row;
  text = (if is_too_long text then codes "{}" else text);
  too_long = is_too_long text;
}

-- The duty of one target, of an event and with the time text of the batch's moment. The rule's ARN is a text.
-- Shown by: templates; the_first_target_fills_all.edit.
pub record IsDutyOf (event : Tree) (time : List ℕ) (seen : SeenTarget) (duty : NewDuty) : Type 0 where
  pub text : List ℕ
  pub filled : IsTargetText (scene_at event time seen) seen.input text
  pub is : duty ≡ duty_of seen.row text
  pub arn : IsUtf8 seen.row.rule_arn

-- The duties of an event, one for each target, in their order.
-- Shown by: templates; the_first_target_fills_all.edit; tables router_core.rows: a_text_is_made_with_its_event.
abbrev pub AreDuties : Tree → List ℕ → List SeenTarget → List NewDuty → Type 0
AreDuties event time [] duties = duties ≡ []
AreDuties event time (seen ∷ targets) [] = ⊥
AreDuties event time (seen ∷ targets) (duty ∷ duties) = IsDutyOf event time seen duty × AreDuties event time targets duties

-- The target has a path or a template, which are looked up in the event's tree. An event's text and a fixed text need no tree.
-- Shown by: proofs alone.
abbrev pub needs_tree : Option GivenInput → Bool
needs_tree None = false
needs_tree (Some (Input given)) = false
needs_tree (Some (InputPath given)) = true
needs_tree (Some (InputTransformer given)) = true

-- One of the targets needs the event's tree.
-- Shown by: proofs alone.
abbrev pub any_needs_tree : List SeenTarget → Bool
any_needs_tree = list_any (λ seen. needs_tree seen.input)

-- The event's tree is there if a target needs it. A tree that is there is a JSON value.
-- Shown by: proofs alone.
abbrev pub HasTree : Bool → Option Json → Type 0
HasTree false None = Unit {0}
HasTree true None = ⊥
HasTree needed (Some json) = IsValue (tree_of json)

-- A tree that is there is the event's.
-- Shown by: proofs alone.
abbrev pub IsTreeOf : Tree → Option Json → Type 0
IsTreeOf event None = Unit {0}
IsTreeOf event (Some json) = tree_of json ≡ event

-- for private clauses: what is sent of a text
pub record IsSentOf (t : List ℕ) (sent : Sent) : Type 0 where
  pub text : sent.text ≡ (if is_too_long t then codes "{}" else t)
  pub too_long : sent.too_long ≡ is_too_long t

-- for private clauses: what is sent of the text of a target with this input
abbrev pub IsInputSent : Scene → GivenInput → Sent → Type 0
IsInputSent scene input sent = (text : List ℕ) × IsTextOf scene input text × IsSentOf text sent
