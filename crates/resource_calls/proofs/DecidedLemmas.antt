-- What is decided of a change, and what it needs to be made: `none_made`, `one_made` and `one_written` (no operation, or one), `allowed_so`, `refused_so` and
-- `controlled_so` (a change that is allowed, or refused), `bus_used`, `bus_refused` and `bus_free` (the deletion of a bus).
use Rattle.std.proofs.Common.{◌≡◌, ℕ, inl, Bool, true, false, List, [], ◌∷◌, length, map, Some, sym, refl, ap, ◌∙◌, subst, arith}
use Rattle.std.specs.Prelude.{cond, Result, Ok, Err, IfOk, is_some, not, ◌&&◌}
use Rattle.rule_table.specs.declared.control.ControlFault.{ControlFault}
use Rattle.rule_table.specs.Control.{Control, bus_deleted}
use Rattle.rule_table.specs.Refusal as table
use Rattle.rule_table.specs.Refusal.{IsAllowed}
use Rattle.rule_table.specs.RuleSet.{RuleSet}
use Rattle.api_replies.specs.declared.cause.Cause.{Cause}
use Rattle.api_replies.specs.declared.cause.Cause.TheVariants as cause
use Rattle.api_replies.specs.declared.kind.Kind.TheVariants as kind
use Rattle.replay_run.specs.Replays.{is_sent_to}
use Rattle.api_replies.specs.Reply.{Reply, refused}
use Rattle.call_replies.specs.Causes.{change_cause}
use Rattle.call_replies.specs.Replies.{empty_reply}
use Rattle.router_core.specs.Admitted.{AreAdmitted, IsEntryAdmitted}
use Rattle.router_requests.specs.Batch as batch
use Rattle.router_core.specs.Ready.{IsPartOf, ArePartsOf, AreMadeOn, IsMadeOn}
use Rattle.router_core.specs.Tables.{Tables}
use Rattle.router_requests.specs.View.{entry_of}
use Rattle.router_core.specs.declared.ready.Part.{Part}
use Rattle.resource_calls.specs.Decision as answer
use Rattle.resource_calls.specs.Decision.{bus_deletion, controlled, shown, writes}
use Rattle.router_requests.specs.declared.batch.Entry.{Entry}
use Rattle.resource_calls.specs.Decided.{decided_of, CanBeMade}
use Rattle.resource_calls.specs.declared.decided.Decided.{Decided}

-- nothing is written
pub none_made : (t : Tables) (moment : ℕ) (d : Decided) → d.entries.items ≡ [] → d.parts.items ≡ [] → CanBeMade t moment d
none_made t moment d none no_parts =
    let entries : map entry_of d.entries.items ≡ [] = ap (map entry_of) none in
    record {
      one_turn = λ some. absurd (omega (arith, some, ap length entries));
      admitted = subst (λ (es : List batch.Entry). AreAdmitted moment es t) (sym entries) tt;
      parts = subst (λ (es : List batch.Entry). ArePartsOf moment t.set es d.parts.items) (sym entries) no_parts;
      on = subst (λ (es : List batch.Entry). AreMadeOn moment t es d.parts.items) (sym entries) tt;
    }

-- one operation is written
pub one_made : (t : Tables) (moment : ℕ) (d : Decided) (e : batch.Entry) (part : Part) → map entry_of d.entries.items ≡ e ∷ [] → d.parts.items ≡ part ∷ []
    → IsEntryAdmitted moment e t → IsPartOf moment t.set e part → IsMadeOn moment t e part → CanBeMade t moment d
one_made t moment d e part entries parts admitted fits on = record {
  one_turn = λ some. inl (e, entries);
  admitted = subst (λ (es : List batch.Entry). AreAdmitted moment es t) (sym entries) (admitted, tt);
  parts = subst (λ (es : List batch.Entry). ArePartsOf moment t.set es d.parts.items) (sym entries)
      (subst (λ (ps : List Part). ArePartsOf moment t.set (e ∷ []) ps) (sym parts) (fits, refl));
  on = subst (λ (es : List batch.Entry). AreMadeOn moment t es d.parts.items) (sym entries)
      (subst (λ (ps : List Part). AreMadeOn moment t (e ∷ []) ps) (sym parts) (on, tt));
}

-- one operation was written
pub one_written : {E : Type 0} (r : Result Decided E) (t : Tables) (moment : ℕ) (e : Entry) (part : Part) → IfOk r (λ d. d.entries.items ≡ e ∷ [])
    → IfOk r (λ d. d.parts.items ≡ part ∷ []) → IsEntryAdmitted moment (entry_of e) t → IsPartOf moment t.set (entry_of e) part
    → IsMadeOn moment t (entry_of e) part → IfOk r (λ d. CanBeMade t moment d)
one_written (Ok d) t moment e part entries parts admitted fits on = one_made t moment d (entry_of e) part (ap (map entry_of) entries) parts admitted fits on
one_written (Err x) t moment e part entries parts admitted fits on = tt

-- the same change with the same reply
pub controlled_so : {E : Type 0} (r : Result Decided E) (set : RuleSet) {c d : Control} {reply other : Reply} → c ≡ d → reply ≡ other
    → IfOk r (λ x. decided_of x ≡ controlled set c reply) → IfOk r (λ x. decided_of x ≡ controlled set d other)
controlled_so (Ok x) set {c} {d} {reply} {other} same is h = h ∙ ap (λ (y : Control). controlled set y reply) same ∙ ap (controlled set d) is
controlled_so (Err e) set same is h = tt

-- a change that is allowed is written
pub allowed_so : (set : RuleSet) (c : Control) (reply : Reply) → IsAllowed c set → writes (batch.control c) reply ≡ controlled set c reply
allowed_so set c reply allowed = rw allowed refl

-- a change with a fault is refused for its cause
pub refused_so : (set : RuleSet) (c : Control) (reply : Reply) (fault : ControlFault) (why : Cause) → table.refusal c set ≡ Some fault
    → change_cause c fault ≡ Some why → shown (refused why) ≡ controlled set c reply
refused_so set c reply fault why is cause = rw (is, cause) refl

-- the deletion of a bus to which a running replay goes, which the rule set allows or refuses; and of one to which none goes
pub bus_used : (t : Tables) (name : List ℕ) → IsAllowed (bus_deleted name) t.set → is_sent_to name t.replays ≡ true
    → answer.refusal (cause.InUse kind.EventBus name) ≡ bus_deletion t name
bus_used t name allowed used = rw (allowed, used) refl

pub bus_refused : (t : Tables) (name : List ℕ) (fault : ControlFault) (why : Cause) → table.refusal (bus_deleted name) t.set ≡ Some fault
    → change_cause (bus_deleted name) fault ≡ Some why → answer.refusal why ≡ bus_deletion t name
bus_refused t name fault why is cause_so = rw (is, cause_so) refl

pub bus_free : (t : Tables) (name : List ℕ) → is_sent_to name t.replays ≡ false → controlled t.set (bus_deleted name) empty_reply ≡ bus_deletion t name
bus_free t name unused = sym (ap (λ b. cond b (answer.refusal (cause.InUse kind.EventBus name)) (controlled t.set (bus_deleted name) empty_reply))
    (ap (λ b. not (is_some (table.refusal (bus_deleted name) t.set)) && b) unused ∙ no_and (not (is_some (table.refusal (bus_deleted name) t.set)))))
  where
    no_and : (a : Bool) → (a && false) ≡ false
    no_and true = refl
    no_and false = refl
