-- A message asks for at most one request or has one refusal. Other files cite `one_request`, `one_refusal`, `never_both`; `body_only` and
-- `body_none` (its body); `only_memory`, `named_refused` and `members_fault` (a fault that read_call returns).
use Rattle.std.proofs.Common.{◌≡◌, ℕ, ◌<◌, List, [], ◌∷◌, length, Option, Some, None, inl, inr, sym, refl, ap, ◌∙◌, subst, arith}
use Rattle.std.specs.Prelude.{IsTrue}
use Rattle.json_text.specs.Tree.{Tree, object, Members}
use Rattle.json_text.specs.Node.{Node, value_of}
use Rattle.json_text.specs.Grammar.{IsText}
use Rattle.json_text.specs.Checks.{AllHold, IsFirst}
use Rattle.json_text.proofs.OneValue.{one_value}
use Rattle.event_shape.specs.Names.{is_account}
use Rattle.router_requests.specs.Request.{Request}
use Rattle.api_replies.specs.declared.cause.Cause.{Cause}
use Rattle.api_replies.specs.declared.cause.Cause.TheVariants as cause
use Rattle.api_replies.specs.declared.member.Member.TheVariants as member
use Rattle.api_members.specs.declared.fault.CallFault.{CallFault}
use Rattle.api_members.specs.declared.fault.CallFault.TheVariants.{Refused, NoMemory}
use Rattle.api_members.specs.Refusal.{IsFirstRefusal, RefusedFor}
use Rattle.api_members.proofs.OneLemmas.{HasOneFault, HaveOneFault, none_first, one_first, else_decided, sound_no_first, one_first_refusal}
use Rattle.api_messages.specs.declared.message.Message.{Message}
use Rattle.api_wire.specs.declared.call.operation.Operation.{Operation}
use Rattle.api_wire.specs.Call.{operation_of, caller_of, MayCall, asked, IsAction, IsBody, IsAsked, GivesBody, body_check, message_checks, IsCallRefused}
use Rattle.api_wire.specs.CallAnswers.{IsFault}
use Rattle.api_wire.proofs.ActionLemmas.{one_action}

one_object : (tree : Tree) (a b : Members) → tree ≡ object a → tree ≡ object b → a ≡ b
one_object tree a b p q =
    let both : object a ≡ object b = sym p ∙ q in
    cc

-- the members of a body that is an object; a body that is no object has none
pub body_only : (bytes : List ℕ) (tree : Tree) (ms other : Members) → 0 < length bytes → ((n : Node) → IsText 100 bytes n → tree ≡ value_of n)
    → tree ≡ object ms → IsBody bytes other → ms ≡ other
body_only [] tree ms other some only is p = absurd (omega arith)
body_only (b ∷ bytes) tree ms other some only is p = one_object tree ms other is (only p.0 p.1 ∙ p.2)

pub body_none : (bytes : List ℕ) (tree : Tree) → 0 < length bytes → ((n : Node) → IsText 100 bytes n → tree ≡ value_of n)
    → ((ms : Members) → tree ≡ object ms → ⊥) → (other : Members) → IsBody bytes other → ⊥
body_none [] tree some only none other p = absurd (omega arith)
body_none (b ∷ bytes) tree some only none other p = none other (only p.0 p.1 ∙ p.2)

same_operation : (target : Option (List ℕ)) (a b : Operation) → operation_of target ≡ Some a → operation_of target ≡ Some b → a ≡ b
same_operation target a b p q =
    let both : Some a ≡ Some b = sym p ∙ q in
    cc

one_body : (bytes : List ℕ) (a b : Members) → IsBody bytes a → IsBody bytes b → a ≡ b
one_body [] a b p q = p ∙ sym q
one_body (x ∷ bytes) a b p q =
    let node = one_value 100 100 (x ∷ bytes) p.0 q.0 p.1 q.1 in
    one_object (value_of p.0) a b p.2 (ap value_of node ∙ q.2)

pub one_request : (m : Message) (reading : ℕ) (a b : Request) → IsAsked m reading a → IsAsked m reading b → a ≡ b
one_request m reading a b p q =
    let operations = same_operation m.target p.operation q.operation p.named q.named in
    let bodies = one_body m.body p.members q.members p.body q.body in
    let is : IsAction p.operation (caller_of m.caller) p.members reading b.action = rw (operations, bodies) q.action in
    let same = one_action p.operation (caller_of m.caller) p.members reading a.action b.action p.action is in
    let callers : a.caller ≡ b.caller = p.caller ∙ sym q.caller in
    let times : a.reading ≡ b.reading = p.read_at ∙ sym q.read_at in
    λ i. record { action = same i; caller = callers i; reading = times i }

one_body_refusal : (operation : Operation) (bytes : List ℕ) (c d : Cause) → (body_check operation bytes).refuses c
    → (body_check operation bytes).refuses d → c ≡ d
one_body_refusal operation bytes c d (ms, body, first) (other, spelled, then) =
    let same = one_body bytes ms other body spelled in
    one_first_refusal (asked operation ms) ms c d first (rw same then)

body_not_refused : (operation : Operation) (bytes : List ℕ) (c : Cause) → (body_check operation bytes).holds
    → (body_check operation bytes).refuses c → ⊥
body_not_refused operation bytes c (ms, body, sound) (other, spelled, first) =
    let same = one_body bytes ms other body spelled in
    sound_no_first (asked operation ms) ms c sound (rw same first)

message_decided : (m : Message) (o : Option Operation) → HaveOneFault (message_checks m o)
message_decided m None = (else_decided ⊥ cause.UnknownOperation, tt)
message_decided m (Some operation) =
    let account = else_decided (IsTrue (is_account (caller_of m.caller))) (cause.NotValid member.CallerAccount) in
    let body = else_decided (GivesBody m.body) cause.NoObject in
    let may = else_decided (MayCall operation (caller_of m.caller)) cause.OwnerOnly in
    let members : HasOneFault (body_check operation m.body) = (body_not_refused operation m.body, one_body_refusal operation m.body) in
    (account, (body, (may, (members, tt))))

pub one_refusal : (m : Message) (c d : Cause) → IsCallRefused m c → IsCallRefused m d → c ≡ d
one_refusal m c d p q = one_first (message_checks m (operation_of m.target)) c d (message_decided m (operation_of m.target)) p q

pub never_both : (m : Message) (reading : ℕ) (a : Request) (c : Cause) → IsAsked m reading a → IsCallRefused m c → ⊥
never_both m reading a c p refused =
    let held : AllHold (message_checks m (Some p.operation)) =
    (p.is_account, ((p.members, p.body), (p.entitled, ((p.members, p.body, p.sound), tt)))) in
    let first = subst (λ o. IsFirst (message_checks m o) c) p.named refused in
    none_first (message_checks m (Some p.operation)) c (message_decided m (Some p.operation)) held first

-- a fault of the message comes with no request but if memory ran out
pub only_memory : (m : Message) (reading : ℕ) (a : Request) (e : CallFault) → IsAsked m reading a → IsFault m e → e ≡ NoMemory
only_memory m reading a (Refused c) p fault = absurd (never_both m reading a c p fault)
only_memory m reading a NoMemory p fault = refl

-- what is refused of the operation that the message names is refused of the message
pub named_refused : (m : Message) (operation : Operation) (c : Cause) → operation_of m.target ≡ Some operation
    → IsFirst (message_checks m (Some operation)) c → IsCallRefused m c
named_refused m operation c named first = subst (λ o. IsFirst (message_checks m o) c) (sym named) first

pub members_fault : (m : Message) (operation : Operation) (ms : Members) (e : CallFault) → operation_of m.target ≡ Some operation
    → IsTrue (is_account (caller_of m.caller)) → IsBody m.body ms → MayCall operation (caller_of m.caller)
    → RefusedFor (IsFirstRefusal (asked operation ms) ms) e → IsFault m e
members_fault m operation ms (Refused c) named account body may first =
    named_refused m operation c named (inr (account, inr ((ms, body), inr (may, inl (ms, body, first)))))
members_fault m operation ms NoMemory named account body may first = tt
