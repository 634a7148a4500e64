-- The names that a template may use, and their values.
use Rattle.std.specs.Prelude.{ℕ, Bool, ◌==◌, ◌||◌, List, [], ◌∷◌, map, Option, Some, None, if◌then◌else◌, codes}
use Rattle.std.specs.List.{list_all, list_any}
use Rattle.std.specs.Str.{bytes_eq}
use Rattle.json_text.specs.Tree.{Tree, null, truth, number, text, list, object, Members, no_members, member}
use Rattle.input_transform.specs.declared.path.Step.{Step}
use Rattle.input_transform.specs.Path.{is_letter, found_at}

-- What a text is filled from: the event, the ARN of the rule, and the time text of the batch's moment.
-- Shown by: text_tests test_input_transform.rt: filled_texts.
pub record Scene : Type 0 where
  pub event : Tree
  pub rule_arn : List ℕ
  pub time : List ℕ

-- What a name stands for.
-- Shown by: text_tests test_input_transform.rt: filled_texts.
pub data Source : Type 0 where
  rule_arn : Source
  rule_name : Source
  ingestion_time : Source
  whole_event : Source
  bare_event : Source
  found : List Step → Source

-- The keys of an InputPathsMap with their paths, in its order.
-- Shown by: text_tests test_input_transform.rt: filled_texts.
abbrev pub Paths : Type 0
Paths = List (List ℕ × List Step)

-- Each name with what it stands for.
-- Shown by: text_tests test_input_transform.rt: filled_texts.
abbrev pub names : Paths → List (List ℕ × Source)
names paths =
    (codes "aws.events.rule-arn", rule_arn)
    ∷ (codes "aws.events.rule-name", rule_name)
    ∷ (codes "aws.events.event.ingestion-time", ingestion_time)
    ∷ (codes "aws.events.event.json", whole_event)
    ∷ (codes "aws.events.event", bare_event)
    ∷ map (λ p. (p.0, found p.1)) paths

abbrev pub first_named : List ℕ → List (List ℕ × Source) → Option Source
first_named name [] = None
first_named name (n ∷ ns) = if bytes_eq name n.0 then Some n.1 else first_named name ns

-- A byte of a name: `A-Z a-z 0-9 _ - .`.
-- Shown by: text_tests test_input_transform.rt: templates.
abbrev pub is_name_byte : ℕ → Bool
is_name_byte b = is_letter b || (b == 46)

-- What a name stands for, if it is one: it has only such bytes, and is in the list. Of two equal keys the first counts.
-- Shown by: text_tests test_input_transform.rt: templates.
abbrev pub source_named : Paths → List ℕ → Option Source
source_named paths name =
    if list_all is_name_byte name then first_named name (names paths) else None

-- The text after the last `/`; all of it if there is none.
-- Shown by: text_tests test_input_transform.rt: filled_texts.
abbrev pub after_slash : List ℕ → List ℕ
after_slash [] = []
after_slash (b ∷ bs) = if list_any (λ c. c == 47) bs then after_slash bs else (if b == 47 then bs else b ∷ bs)

abbrev pub without_key : List ℕ → Members → Members
without_key key no_members = no_members
without_key key (member k t others) = if bytes_eq k key then without_key key others else member k t (without_key key others)

-- An event without its `detail`. A value that is no object is itself.
-- Shown by: text_tests test_input_transform.rt: filled_texts.
abbrev pub without_detail : Tree → Tree
without_detail (object inside) = object (without_key (codes "detail") inside)
without_detail null = null
without_detail (truth b) = truth b
without_detail (number spelling) = number spelling
without_detail (text t) = text t
without_detail (list items) = list items

-- The value of what a name stands for. It is missing if a path finds nothing.
-- Shown by: text_tests test_input_transform.rt: filled_texts; tables input_transform.rows: each_name_has_its_value.
abbrev pub value_in : Scene → Source → Option Tree
value_in scene rule_arn = Some (text scene.rule_arn)
value_in scene rule_name = Some (text (after_slash scene.rule_arn))
value_in scene ingestion_time = Some (text scene.time)
value_in scene whole_event = Some scene.event
value_in scene bare_event = Some (without_detail scene.event)
value_in scene (found steps) = found_at steps scene.event
