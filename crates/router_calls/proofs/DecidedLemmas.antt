-- What is decided of a call on a rule (`on_rule_found`) and of items that succeed or fail one by one (`items_decided`), and that the batch of what is decided is
-- ready (`ready_so`).
use Rattle.std.proofs.Common.{◌≡◌, ℕ, ◌<◌, ◌≤◌, Bool, true, false, List, [], ◌∷◌, length, map, Some, sym, refl, ap, ◌∙◌, subst, arith}
use Rattle.std.specs.Prelude.{cond, codes}
use Rattle.std.proofs.lemmas.List.{length-map}
use Rattle.json_text.specs.Moment.{IsMoment}
use Rattle.json_text.specs.View.{tree_of, trees_of}
use Rattle.json_text.specs.declared.value.Json.{Json}
use Rattle.rule_table.specs.Control.{Control}
use Rattle.rule_table.specs.RuleSet.{Rule, RuleSet, rule_at}
use Rattle.rule_table.proofs.ChangeLemmas.{bus_of_rule}
use Rattle.name_rows.specs.Rows.{named}
use Rattle.api_replies.specs.declared.cause.Cause.{Cause}
use Rattle.api_replies.specs.Reply.{Reply}
use Rattle.call_replies.specs.Replies.{items_reply, target_report, targets_reply}
use Rattle.router_core.specs.Admitted.{IsAdmitted}
use Rattle.router_requests.specs.Batch as batch
use Rattle.router_core.specs.Ready.{ArePartsOf, AreMadeOn, IsReadyFor}
use Rattle.router_core.specs.Tables.{Tables, is_full}
use Rattle.router_requests.specs.View.{batch_of, entry_of}
use Rattle.router_requests.specs.declared.batch.Batch.{Batch}
use Rattle.router_core.specs.declared.ready.Part.{Part}
use Rattle.router_core.specs.declared.ready.Ready.{Ready}
use Rattle.resource_calls.specs.Decision as answer
use Rattle.resource_calls.specs.Decision.{shown, writes}
use Rattle.router_calls.specs.Answer.{on_rule, unless_none}
use Rattle.resource_calls.specs.Decided.{CanBeMade}
use Rattle.resource_calls.specs.declared.decided.Decided.{Decided}

-- a rule that is there has its bus
pub on_rule_found : (set : RuleSet) (bus rule : List ℕ) (r : Rule) (decide : Rule → answer.Decided) → rule_at bus rule set ≡ Some r
    → decide r ≡ on_rule set bus rule decide
on_rule_found set bus rule r decide is = rw (bus_of_rule (named (λ b. b.name) bus set.buses) rule r is, is) refl

-- the reply counts the items that failed
reply_so : (failed : List (List ℕ × Cause)) (reports : List Json) → trees_of reports ≡ map target_report failed
    → items_reply (length reports) (codes "FailedEntries") (trees_of reports) ≡ targets_reply failed
reply_so failed reports are =
    let counted : length reports ≡ length failed =
    omega (arith, ap length are, length-map failed target_report, length-map reports tree_of) in
    ap (λ k. items_reply k (codes "FailedEntries") (trees_of reports)) counted ∙ ap (items_reply (length failed) (codes "FailedEntries")) are

-- the change of the items that succeeded, or their reply alone
some_so : {A : Type 0} (xs : List A) (c : Control) (reply : Reply) (some : Bool) → (some ≡ true → 0 < length xs) → (some ≡ false → length xs ≡ 0)
    → cond some (writes (batch.control c) reply) (shown reply) ≡ unless_none xs c reply
some_so [] c reply true there none = absurd (omega (arith, there refl))
some_so [] c reply false there none = refl
some_so (x ∷ xs) c reply true there none = refl
some_so (x ∷ xs) c reply false there none = absurd (omega (arith, none refl))

-- the same, with the items that failed as the reply
pub items_decided : {A : Type 0} (xs ys : List A) (c d : Control) (reports : List Json) (failed : List (List ℕ × Cause)) (some : Bool)
    (x : answer.Decided) → xs ≡ ys → c ≡ d → trees_of reports ≡ map target_report failed → (some ≡ true → 0 < length xs)
    → (some ≡ false → length xs ≡ 0)
    → x ≡ cond some (writes (batch.control c) (items_reply (length reports) (codes "FailedEntries") (trees_of reports)))
    (shown (items_reply (length reports) (codes "FailedEntries") (trees_of reports)))
    → x ≡ unless_none ys d (targets_reply failed)
items_decided xs ys c d reports failed some x items change are there none is =
    let reply = items_reply (length reports) (codes "FailedEntries") (trees_of reports) in
    is ∙ some_so xs c reply some there none ∙ ap (λ zs. unless_none zs c reply) items ∙ ap (λ (e : Control). unless_none ys e reply) change
    ∙ ap (unless_none ys d) (reply_so failed reports are)

-- the batch of operations that were decided is ready
abbrev batch_from : ℕ → Decided → Batch
batch_from moment d = record { moment = moment; entries = d.entries }

pub ready_so : (t : Tables) (moment : ℕ) (d : Decided) (r : Ready) → r.batch ≡ batch_from moment d → r.parts.items ≡ d.parts.items → IsMoment moment
    → t.moment ≤ moment → is_full t ≡ false → 1 ≤ length d.entries.items → CanBeMade t moment d → IsReadyFor t r
ready_so t moment d r is parts fits later numbered some made = record {
  admitted = subst (λ (b : Batch). IsAdmitted t (batch_of b)) (sym is) (record {
    moment = fits;
    later = later;
    numbered = numbered;
    one_turn = made.one_turn (omega (arith, some, length-map d.entries.items entry_of));
    entries = made.admitted;
  });
  prepared = (
    subst (λ (b : Batch). ArePartsOf b.moment t.set (batch_of b).entries r.parts.items) (sym is)
        (subst (λ (ps : List Part). ArePartsOf moment t.set (map entry_of d.entries.items) ps) (sym parts) made.parts),
    subst (λ (b : Batch). AreMadeOn b.moment t (batch_of b).entries r.parts.items) (sym is)
        (subst (λ (ps : List Part). AreMadeOn moment t (map entry_of d.entries.items) ps) (sym parts) made.on),
  );
}
