-- What a target gets is one JSON text: `delivered_json`, of an accepted event, `delivered_scenes`, what its duties are filled from, and
-- `target_text_json`, of a scene. The law of src/laws.rt cites the three.
use Rattle.std.proofs.Common.{◌≡◌, ℕ, suc, ◌+◌, ◌<◌, ◌≤◌, Bool, true, false, cond, ◌==◌, ◌||◌, List, [], ◌∷◌, ◌++◌, length, drop, get_or, codes}
use Rattle.std.proofs.Common.{Option, Some, None, refl, sym, ap, subst, arith, length-append, add-one}
use Rattle.std.specs.Prelude.{All}
use Rattle.std.specs.List.{Contains, list_any}
use Rattle.std.specs.Str.{IsUtf8}
use Rattle.std.proofs.lemmas.Bool.{eqb-true}
use Rattle.std.proofs.lemmas.Grind.{common_steps}
use Rattle.std.proofs.lemmas.List.Elements.{All-nil, All-cons, All-contains}
use Rattle.std.proofs.lemmas.Str.{IsUtf8-drop, IsCharBoundary-after_ascii}
use Rattle.json_text.specs.Tree.{Tree, object, no_members}
use Rattle.json_text.specs.Node.{Node, value_of}
use Rattle.json_text.specs.Grammar.{IsText}
use Rattle.json_text.specs.Compact.{compact_text, tree_levels}
use Rattle.json_text.proofs.ValueLemmas.{text_is_value, text_within}
use Rattle.event_time.specs.Time.{IsIso}
use Rattle.event_time.proofs.Utf8Lemmas.{iso_utf8}
use Rattle.event_shape.specs.Event.{Event, IsEventAt, event_tree}
use Rattle.event_shape.specs.Unnumbered.{with_number}
use Rattle.event_shape.proofs.SpelledLemmas.{event_spelled}
use Rattle.event_shape.proofs.ValidLemmas.{event_value}
use Rattle.input_transform.specs.Names.{Scene, after_slash}
use Rattle.input_transform.specs.Stored.{IsScene}
use Rattle.input_transform.proofs.FillLemmas.{IsJson, path_json, value_json}
use Rattle.input_transform.proofs.LawLemmas.{spells_tree}
use Rattle.rule_targets.specs.declared.given.GivenInput.{GivenInput}
use Rattle.rule_targets.specs.declared.given.GivenInput.TheVariants.{Input, InputPath, InputTransformer}
use Rattle.rule_table.specs.RuleSet.{RuleSet}
use Rattle.delivery_duties.specs.declared.duty.NewDuty.{NewDuty}
use Rattle.router_requests.specs.Batch as batch
use Rattle.router_requests.specs.Request.{Request}
use Rattle.router_core.specs.Tables.{Tables}
use Rattle.router_requests.specs.Duties.{scene_at, is_too_long, duty_of, IsTargetText, IsTextOf, IsDutyOf, AreDuties}
use Rattle.router_requests.specs.declared.seen.SeenTarget.{SeenTarget}
use Rattle.router_calls.specs.Accepted.{HasScenes}
use Rattle.router_calls.specs.Answer.{Answer, IsAnswer}
use Rattle.router_calls.proofs.AllowedLemmas.{answer_allowed}

text_json : (scene : Scene) (input : GivenInput) (text : List ℕ) → IsScene scene → tree_levels scene.event ≤ 100 → IsTextOf scene input text → IsJson text
text_json scene (Input given) text from within (n, spelled, is) =
    let deep = text_within 100 given n spelled in
    subst IsJson (sym is) (value_json (value_of n) (text_is_value 100 given n spelled) (omega (arith, deep)))
text_json scene (InputPath given) text from within (steps, spelled, is) = subst IsJson (sym is) (path_json steps scene.event from.value within)
text_json scene (InputTransformer given) text from within (paths, c, of, is) =
    let (n, spelled, same, once) = spells_tree paths given.template c scene of.template from within in
    subst IsJson (sym is) (n, spelled)

pub target_text_json : (scene : Scene) (input : Option GivenInput) (text : List ℕ) → IsScene scene → tree_levels scene.event ≤ 100
    → IsTargetText scene input text → (n : Node) × IsText 200 text n
target_text_json scene None text from within is = subst IsJson (sym is) (value_json scene.event from.value (omega (arith, within)))
target_text_json scene (Some input) text from within is = text_json scene input text from within is

-- ---- the name of a rule is a text if its ARN is one

drop_suc : (front : List ℕ) (b : ℕ) (bs : List ℕ) → drop (suc (length front)) (front ++ b ∷ bs) ≡ bs
drop_suc [] b bs = refl
drop_suc (x ∷ front) b bs = drop_suc front b bs

drop_front : (front : List ℕ) (b : ℕ) (bs : List ℕ) → drop (length front + 1) (front ++ b ∷ bs) ≡ bs
drop_front front b bs = rw add-one (drop_suc front b bs)

get_front : (front : List ℕ) (b : ℕ) (bs : List ℕ) → get_or (front ++ b ∷ bs) (length front) 0 ≡ b
get_front front b bs = grind (arith, common_steps)

after_byte : (front : List ℕ) (b : ℕ) (bs : List ℕ) → b < 128 → IsUtf8 (front ++ b ∷ bs) → IsUtf8 bs
after_byte front b bs small utf8 =
    let within : length front < length (front ++ b ∷ bs) = simp length-append (omega arith) in
    let ascii : get_or (front ++ b ∷ bs) (length front) 0 < 128 = let e = get_front front b bs in omega (arith, e, small) in
    subst IsUtf8 (drop_front front b bs)
    (IsUtf8-drop (front ++ b ∷ bs) (length front + 1) utf8 (IsCharBoundary-after_ascii (front ++ b ∷ bs) (length front) utf8 within ascii))

slash_more : (more here : Bool) (b : ℕ) (bs rest : List ℕ) → (here ≡ true → b ≡ 47) → (here || more) ≡ true
    → (more ≡ true → (front : List ℕ) × (bs ≡ front ++ 47 ∷ rest)) → (front : List ℕ) × (b ∷ bs ≡ front ++ 47 ∷ cond more rest (cond here bs (b ∷ bs)))
slash_more true here b bs rest is has from = let (front, e) = from refl in (b ∷ front, ap (λ xs. b ∷ xs) e)
slash_more false true b bs rest is has from = ([], ap (λ x. x ∷ bs) (is refl))
slash_more false false b bs rest is has from = cc

-- what is before the last slash and what is after it
last_slash : (bs : List ℕ) → list_any (λ c. c == 47) bs ≡ true → (front : List ℕ) × (bs ≡ front ++ 47 ∷ after_slash bs)
last_slash [] has = cc
last_slash (b ∷ bs) has = slash_more (list_any (λ c. c == 47) bs) (b == 47) b bs (after_slash bs) (eqb-true b 47) has (last_slash bs)

slash_less : (here more : Bool) (b : ℕ) (bs rest : List ℕ) → (here || more) ≡ false → cond more rest (cond here bs (b ∷ bs)) ≡ b ∷ bs
slash_less true more b bs rest none = cc
slash_less false true b bs rest none = cc
slash_less false false b bs rest none = refl

no_slash : (bs : List ℕ) → list_any (λ c. c == 47) bs ≡ false → after_slash bs ≡ bs
no_slash [] none = refl
no_slash (b ∷ bs) none = slash_less (b == 47) (list_any (λ c. c == 47) bs) b bs (after_slash bs) none

by_slash : (b : Bool) (bs : List ℕ) → list_any (λ c. c == 47) bs ≡ b → IsUtf8 bs → IsUtf8 (after_slash bs)
by_slash true bs has utf8 = let (front, is) = last_slash bs has in after_byte front 47 (after_slash bs) (omega arith) (subst IsUtf8 is utf8)
by_slash false bs none utf8 = subst IsUtf8 (sym (no_slash bs none)) utf8

-- ---- the text that an accepted event owes a target

event_levels : (moment : ℕ) (e : Event) → IsEventAt moment e → tree_levels (event_tree e None) ≤ 100
event_levels moment e at =
    let bytes : List ℕ = compact_text (event_tree e None) in
    let (n, spelled, is) = event_spelled bytes e (record { written = refl; is_event = (moment, at) }) in
    subst (λ (t : Tree). tree_levels t ≤ 100) is (text_within 100 bytes n spelled)

scene_sound : (moment at : ℕ) (e : Event) (time : List ℕ) (seen : SeenTarget) → IsEventAt at e → IsIso moment time → IsUtf8 seen.row.rule_arn
    → IsScene (scene_at (event_tree e None) time seen)
scene_sound moment at e time seen is iso arn = record {
  value = event_value e None (at, is) tt;
  rule_arn = arn;
  rule_name = by_slash (list_any (λ c. c == 47) seen.row.rule_arn) seen.row.rule_arn refl arn;
  time = iso_utf8 moment time iso;
}

-- `{}` is sent in the place of a text that is too long
sent_json : (long : Bool) (text : List ℕ) → IsJson text → IsJson (cond long (codes "{}") text)
sent_json true text json = value_json (object no_members) tt (omega arith)
sent_json false text json = json

duty_json : (moment at : ℕ) (e : Event) (time : List ℕ) (seen : SeenTarget) (d : NewDuty) → IsEventAt at e → IsIso moment time
    → IsDutyOf (event_tree e None) time seen d → IsJson d.text
duty_json moment at e time seen d is iso of =
    let json = target_text_json (scene_at (event_tree e None) time seen) seen.input of.text (scene_sound moment at e time seen is iso of.arn)
    (event_levels at e is) of.filled in
    subst (λ (x : NewDuty). IsJson x.text) (sym of.is) (sent_json (is_too_long of.text) of.text json)

duties_json : (moment at : ℕ) (e : Event) (time : List ℕ) (targets : List SeenTarget) (ds : List NewDuty) → IsEventAt at e → IsIso moment time
    → AreDuties (event_tree e None) time targets ds → All (λ (d : NewDuty). IsJson d.text) ds
duties_json moment at e time [] ds is iso are = subst (All (λ (d : NewDuty). IsJson d.text)) (sym are) (All-nil (λ (d : NewDuty). IsJson d.text))
duties_json moment at e time (seen ∷ targets) [] is iso are = absurd are
duties_json moment at e time (seen ∷ targets) (d ∷ ds) is iso (of, are) = All-cons (λ (x : NewDuty). IsJson x.text) d ds
    (duty_json moment at e time seen d is iso of) (duties_json moment at e time targets ds is iso are)

scenes_sound : (moment at : ℕ) (e : Event) (time : List ℕ) (targets : List SeenTarget) (ds : List NewDuty) → IsEventAt at e → IsIso moment time
    → AreDuties (event_tree e None) time targets ds → All (λ seen. IsScene (scene_at (event_tree e None) time seen)) targets
scenes_sound moment at e time [] ds is iso are = All-nil (λ seen. IsScene (scene_at (event_tree e None) time seen))
scenes_sound moment at e time (seen ∷ targets) [] is iso are = absurd are
scenes_sound moment at e time (seen ∷ targets) (d ∷ ds) is iso (of, are) = All-cons (λ one. IsScene (scene_at (event_tree e None) time one)) seen targets
    (scene_sound moment at e time seen is iso of.arn) (scenes_sound moment at e time targets ds is iso are)

pub delivered_scenes : (t : Tables) (r : Request) (k : ℕ) (set : RuleSet) (a : Answer) (b : batch.Batch) (e : batch.Accepted) → IsAnswer t r k set a
    → a.batch ≡ Some b → Contains b.entries (batch.accepted e) → HasScenes e
delivered_scenes t r k set a b e h is has =
    let one = answer_allowed t r k set a b e h is has in
    let numbered = with_number e.number one.event.event in
    let made : IsEventAt one.event.moment numbered = one.accepted.is_event in
    record {
      event = one.event;
      time = one.time;
      targets = one.targets;
      duties = one.accepted.duties;
      scenes = scenes_sound b.moment one.event.moment numbered one.time one.targets e.duties made one.is_time one.accepted.duties;
      levels = event_levels one.event.moment numbered made;
    }

pub delivered_json : (t : Tables) (r : Request) (k : ℕ) (set : RuleSet) (a : Answer) (b : batch.Batch) (e : batch.Accepted) (d : NewDuty)
    → IsAnswer t r k set a → a.batch ≡ Some b → Contains b.entries (batch.accepted e) → Contains e.duties d → (n : Node) × IsText 200 d.text n
delivered_json t r k set a b e d h is has owes =
    let one = answer_allowed t r k set a b e h is has in
    All-contains (λ (x : NewDuty). IsJson x.text) e.duties d
    (duties_json b.moment one.event.moment (with_number e.number one.event.event) one.time one.targets e.duties one.accepted.is_event one.is_time
    one.accepted.duties) owes
