use Rattle.std.proofs.Common.{inl, inr, sym, refl, ◌∙◌}
use Rattle.std.specs.Prelude.{IsTrue}
use Rattle.std.proofs.lemmas.Bool.{false≢true}
use Rattle.std.proofs.lemmas.Result.{err_from_is_err_and}
use Rattle.json_text.specs.Tree.{members_of}
use Rattle.json_text.specs.View.{pairs_of}
use Rattle.event_shape.specs.Names.{is_account}
use Rattle.api_replies.specs.declared.cause.Cause.TheVariants as cause
use Rattle.api_members.specs.Refusal.{IsFirstRefusal, RefusedFor}
use Rattle.router_requests.specs.View.{request_of}
use Rattle.api_wire.specs.Call.{caller_of, MayCall, asked, IsBody, IsAsked}
use Rattle.api_wire.specs.CallAnswers.{IsFault}
use Rattle.api_wire.proofs.CallLemmas.{one_request, only_memory, named_refused, members_fault}
use Rattle.api_wire.proofs.EntitledLemmas.{is_entitled}
use Rattle.api_wire.proofs.BoundLemmas.{asked_bounded}
use Rattle.api_wire.proofs.call.read_call.Goals as goal

pub returns-then-not-may_call-clause-refused : goal.returns-then-not-may_call-clause-refused
returns-then-not-may_call-clause-refused c =
    let ms = members_of (pairs_of c.in_ok-members.members.items) in
    let account : IsTrue (is_account (caller_of c.args.message.now.caller)) =
    rw (← c.caller_of-caller.ensures, ← c.is_account.ensures) c.if-not-is_account.false in
    let body : IsBody c.args.message.now.body ms = rw (← c.as_slice.ensures) c.in_ok-members.ensures.read in
    let never : ¬ MayCall c.in-Some.operation (caller_of c.args.message.now.caller) =
    λ may. false≢true (sym c.if-not-may_call.true ∙ c.may_call.ensures.1 (rw c.caller_of-caller.ensures may)) in
    named_refused c.args.message.now c.in-Some.operation cause.OwnerOnly (sym c.in-Some.ensures) (inr (account, inr ((ms, body), inl (refl, never))))

refused_fault : (c : goal.After-drop-members-in_err-check_asked) → IsFault c.args.message.now c.in_err-check_asked.field-0.0
refused_fault c =
    let ms = members_of (pairs_of c.in_ok-members.members.items) in
    let account : IsTrue (is_account (caller_of c.args.message.now.caller)) =
    rw (← c.caller_of-caller.ensures, ← c.is_account.ensures) c.if-not-is_account.false in
    let body : IsBody c.args.message.now.body ms = rw (← c.as_slice.ensures) c.in_ok-members.ensures.read in
    let may : MayCall c.in-Some.operation (caller_of c.args.message.now.caller) =
    rw (← c.caller_of-caller.ensures) (c.may_call.ensures.0 c.if-not-may_call.false) in
    let first : RefusedFor (IsFirstRefusal (asked c.in-Some.operation ms) ms) c.in_err-check_asked.field-0.0 =
    rw (← c.as_slice-2.ensures.value) c.in_err-check_asked.ensures in
    members_fault c.args.message.now c.in-Some.operation ms c.in_err-check_asked.field-0.0 (sym c.in-Some.ensures) account body may first

pub returns-in_err-check_asked-clause-only : goal.returns-in_err-check_asked-clause-only
returns-in_err-check_asked-clause-only c = λ q is.
    let p = err_from_is_err_and c.from_residual-in_err-check_asked.result c.from_residual-in_err-check_asked.ensures.1 in
    rw (p.1, p.2) (only_memory c.args.message.now c.args.reading q c.in_err-check_asked.field-0.0 is (refused_fault c))

pub returns-in_err-check_asked-clause-refused : goal.returns-in_err-check_asked-clause-refused
returns-in_err-check_asked-clause-refused c =
    let p = err_from_is_err_and c.from_residual-in_err-check_asked.result c.from_residual-in_err-check_asked.ensures.1 in
    rw (p.1, p.2) (refused_fault c)

is_asked : (c : goal.After-drop-members-2)
    → IsAsked c.args.message.now c.args.reading
    (request_of (record { action = c.in_ok-action.action; caller = c.in_ok-caller.caller; reading = c.args.reading }))
is_asked c = record {
  operation = c.in-Some.operation;
  named = sym c.in-Some.ensures;
  caller = c.in_ok-caller.ensures ∙ c.caller_of-caller.ensures;
  is_account = rw (← c.caller_of-caller.ensures, ← c.is_account.ensures) c.if-not-is_account.false;
  members = members_of (pairs_of c.in_ok-members.members.items);
  body = rw (← c.as_slice.ensures) c.in_ok-members.ensures.read;
  entitled = rw (← c.caller_of-caller.ensures) (c.may_call.ensures.0 c.if-not-may_call.false);
  sound = rw (← c.as_slice-2.ensures.value) c.in_ok-check_asked.ensures;
  action = rw (← c.caller_of-caller.ensures, ← c.as_slice-3.ensures.value) c.in_ok-action.ensures;
  read_at = refl;
}

pub returns-clause-only : goal.returns-clause-only
returns-clause-only c = λ q other. one_request c.args.message.now c.args.reading _ q (is_asked c) other

pub returns-clause-entitled : goal.returns-clause-entitled
returns-clause-entitled c = is_entitled c.args.message.now c.args.reading _ (is_asked c)

pub returns-clause-bounded : goal.returns-clause-bounded
returns-clause-bounded c = asked_bounded c.args.message.now c.args.reading _ (is_asked c)
