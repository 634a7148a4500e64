-- A request that a message asks for is one that its caller may make: `is_entitled`.
use Rattle.std.proofs.Common.{◌≡◌, ℕ, Bool, true, false, ◌⊎◌, inl, inr, List, [], ◌∷◌, Option, Some, None, Ok, Err, subst}
use Rattle.std.specs.Prelude.{Result, All, IfSome, if◌then◌else◌}
use Rattle.std.specs.Option.{option_map}
use Rattle.std.proofs.lemmas.List.Elements.{All-nil, All-cons}
use Rattle.json_text.specs.Tree.{Tree, Members}
use Rattle.event_shape.specs.Names.{owner}
use Rattle.event_shape.specs.Entry.{Entry}
use Rattle.event_shape.specs.Unnumbered.{Unnumbered}
use Rattle.event_shape.specs.declared.entry.EntryFault.{EntryFault}
use Rattle.router_requests.specs.Request.{Action, remove_policy, remove_statement, delete_messages, Request, IsPublishing, IsEntryOf, AreEntriesOf, IsEntitled}
use Rattle.api_replies.specs.declared.member.Member.TheVariants as member
use Rattle.api_members.specs.Given.{given, text_given, text_of, values_in}
use Rattle.api_members.specs.Count.{count_given}
use Rattle.api_members.specs.Entry.{entries_of}
use Rattle.api_members.specs.CheckedEntry.{IsChecked, AreChecked}
use Rattle.api_members.specs.Value.{bus_of_source}
use Rattle.api_messages.specs.declared.message.Message.{Message}
use Rattle.api_wire.specs.declared.call.operation.Operation.{Operation}
use Rattle.api_wire.specs.declared.call.operation.Operation.TheVariants.{PutTargets, RemovePermission, DeleteMessages, PutPermission, PutEvents, TestEventPattern, CreateArchive, StartReplay}
use Rattle.api_wire.specs.Call.{caller_of, event_bus, removes_all, creation_in, action_in, IsPermission, IsAction, MayCall, IsAsked}

own_entry : (reading : ℕ) (caller : List ℕ) (e : Entry) (one : Result Unnumbered EntryFault) → IsChecked reading caller e one → IsEntryOf caller one
own_entry reading caller e (Ok u) p = p.2.account
own_entry reading caller e (Err fault) p = tt

own_entries : (reading : ℕ) (caller : List ℕ) (es : List Entry) (xs : List (Result Unnumbered EntryFault)) → AreChecked reading caller es xs
    → All (IsEntryOf caller) xs
own_entries reading caller [] xs p = rw p (All-nil (IsEntryOf caller))
own_entries reading caller (e ∷ es) xs p =
    rw p.2 (All-cons (IsEntryOf caller) p.0 p.1 (own_entry reading caller e p.0 p.3) (own_entries reading caller es p.1 p.4))

-- no action of `action_in` has entries
own_found : (operation : Operation) (caller : List ℕ) (ms : Members) → IfSome (action_in operation ms) (AreEntriesOf caller)
own_found RemovePermission caller ms = by_truth (removes_all (given member.RemoveAllPermissions ms))
  where
    by_truth : (all : Bool)
        → AreEntriesOf caller (if all then remove_policy (event_bus ms) else remove_statement (event_bus ms) (text_given member.StatementId ms))
    by_truth true = tt
    by_truth false = tt
own_found DeleteMessages caller ms = by_count (count_given 0 281474976710655 (given member.Through ms))
  where
    by_count : (o : Option ℕ) → IfSome (option_map (delete_messages (text_of member.QueueName ms)) o) (AreEntriesOf caller)
    by_count None = tt
    by_count (Some through) = tt
own_found CreateArchive caller ms = by_bus (bus_of_source (text_of member.EventSourceArn ms))
  where
    by_bus : (o : Option (List ℕ)) → IfSome (option_map (creation_in ms) o) (AreEntriesOf caller)
    by_bus None = tt
    by_bus (Some bus) = tt
own_found _ caller ms = tt

own_permission : (v : Option Tree) (caller : List ℕ) (ms : Members) (a : Action) → IsPermission v ms a → AreEntriesOf caller a
own_permission None caller ms a is = rw is tt
own_permission (Some policy) caller ms a is = rw is.2 tt

own_action : (operation : Operation) (caller : List ℕ) (ms : Members) (reading : ℕ) (a : Action) → IsAction operation caller ms reading a
    → AreEntriesOf caller a
own_action PutPermission caller ms reading a p = own_permission (given member.Policy ms) caller ms a p
own_action PutEvents caller ms reading a p = rw p.2 (own_entries reading caller (entries_of (values_in member.Entries ms)) p.0 p.1)
own_action PutTargets caller ms reading a p = rw p.2 tt
own_action TestEventPattern caller ms reading a p = rw p.2 tt
own_action StartReplay caller ms reading a p = rw p.is tt
own_action operation caller ms reading a p = subst (λ o. IfSome o (AreEntriesOf caller)) p (own_found operation caller ms)

allowed_action : (operation : Operation) (caller : List ℕ) (ms : Members) (reading : ℕ) (a : Action) → MayCall operation caller
    → IsAction operation caller ms reading a → (caller ≡ owner) ⊎ IsPublishing a
allowed_action PutEvents caller ms reading a may p = inr (rw p.2 tt)
allowed_action _ caller ms reading a may p = inl may

pub is_entitled : (m : Message) (reading : ℕ) (r : Request) → IsAsked m reading r → IsEntitled r
is_entitled m reading r p = record {
  account = rw p.caller p.is_account;
  allowed = rw p.caller (allowed_action p.operation (caller_of m.caller) p.members reading r.action p.entitled p.action);
  own = rw p.caller (own_action p.operation (caller_of m.caller) p.members reading r.action p.action);
}
