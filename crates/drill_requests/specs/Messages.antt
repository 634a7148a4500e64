-- The messages of a drill, as bytes.
use Rattle.std.specs.Prelude.{ℕ, zero, suc, ◌%◌, List, [], ◌∷◌, ◌++◌, map, length, codes, decimal}
use Rattle.std.specs.List.{range_with_len}
use Rattle.json_text.specs.Compact.{compact_text}
use Rattle.json_text.specs.Tree.{Tree, number, text, list, object, items_of, members_of}
use Rattle.drill_requests.specs.Draws.{next, draw}

-- a line end
abbrev pub crlf : List ℕ
crlf = 13 ∷ 10 ∷ []

-- The bytes of a POST of a body for an operation (RFC 9112, section 2.1).
-- Shown by: command_tests test_drill_requests.rt: a_drill_has_these_messages.
unfoldable pub message : List ℕ → List ℕ → List ℕ
message operation body =
    codes "POST / HTTP/1.1" ++ (crlf
    ++ (codes "Host: 127.0.0.1" ++ (crlf
    ++ (codes "X-Amz-Target: " ++ (operation ++ (crlf
    ++ (codes "Content-Length: " ++ (decimal (length body) ++ (crlf ++ (crlf ++ body))))))))))

-- an object with these members
abbrev pub object_of : List (List ℕ × Tree) → Tree
object_of members = object (members_of members)

-- a list with one item
abbrev pub one_of : Tree → Tree
one_of item = list (items_of (item ∷ []))

-- a body that is an object with these members
abbrev pub body_of : List (List ℕ × Tree) → List ℕ
body_of members = compact_text (object_of members)

-- The queue of a drill is `d`.
-- Shown by: command_tests test_drill_requests.rt: a_drill_has_these_messages.
unfoldable pub create_queue : List ℕ
create_queue = message (codes "RouterLocal.CreateQueue") (body_of ((codes "QueueName", text (codes "d")) ∷ []))

-- A name and a pattern: one of the rules `k0` to `k9`, whose pattern wants its name as `k` of the detail.
-- Shown by: command_tests test_drill_requests.rt: a_drill_has_these_messages.
abbrev pub name_rule : ℕ → List ℕ × Tree
name_rule i =
    let name = codes "k" ++ decimal i in
    (name, object_of ((codes "detail", object_of ((codes "k", one_of (text name)) ∷ [])) ∷ []))

-- The rule `low`, whose pattern wants a `b` of the detail below 600.
-- Shown by: command_tests test_drill_requests.rt: a_drill_has_these_messages.
abbrev pub low_rule : List ℕ × Tree
low_rule =
    let below = object_of ((codes "numeric", list (items_of (text (codes "<") ∷ number (codes "600") ∷ []))) ∷ []) in
    (codes "low", object_of ((codes "detail", object_of ((codes "b", one_of below) ∷ [])) ∷ []))

-- The eleven rules.
-- Shown by: command_tests test_drill_requests.rt: a_drill_has_these_messages.
unfoldable pub rules : List (List ℕ × Tree)
rules = map name_rule (range_with_len 0 10) ++ low_rule ∷ []

-- The message that puts a rule.
-- Shown by: command_tests test_drill_requests.rt: a_drill_has_these_messages.
unfoldable pub put_rule : List ℕ × Tree → List ℕ
put_rule rule = message (codes "AWSEvents.PutRule")
    (body_of ((codes "Name", text rule.0) ∷ (codes "EventPattern", text (compact_text rule.1)) ∷ []))

-- The message that gives a rule its target `t`, the queue.
-- Shown by: command_tests test_drill_requests.rt: a_drill_has_these_messages.
unfoldable pub put_targets : List ℕ × Tree → List ℕ
put_targets rule =
    let target = object_of ((codes "Id", text (codes "t")) ∷ (codes "Arn", text (codes "arn:aws:sqs:us-east-1:111122223333:d")) ∷ []) in
    message (codes "AWSEvents.PutTargets") (body_of ((codes "Rule", text rule.0) ∷ (codes "Targets", one_of target) ∷ []))

-- The 23 messages before the events.
-- Shown by: command_tests test_drill_requests.rt: a_drill_has_these_messages.
unfoldable pub set_up_messages : List (List ℕ)
set_up_messages = create_queue ∷ (map put_rule rules ++ map put_targets rules)

-- The message of an event, whose detail has `k` and a number as `k`, and a number as `b`.
-- Shown by: command_tests test_drill_requests.rt: a_drill_has_these_messages.
unfoldable pub put_events : ℕ → ℕ → List ℕ
put_events a b =
    let detail = object_of ((codes "k", text (codes "k" ++ decimal a)) ∷ (codes "b", number (decimal b)) ∷ []) in
    let entry = object_of ((codes "Source", text (codes "drill")) ∷ (codes "DetailType", text (codes "drill"))
    ∷ (codes "Detail", text (compact_text detail)) ∷ []) in
    message (codes "AWSEvents.PutEvents") (body_of ((codes "Entries", one_of entry) ∷ []))

-- The messages of events, from a state of the draws on: each has two draws, of which the first gives `k` and the second `b`.
-- Shown by: the_draws_are_exchanged.edit; command_tests test_drill_requests.rt: a_drill_has_these_messages.
abbrev pub event_messages : ℕ → ℕ → List (List ℕ)
event_messages x zero = []
event_messages x (suc events) =
    put_events (draw (next x) % 10) (draw (next (next x)) % 1000) ∷ event_messages (next (next x)) events

-- The messages of a drill up to its last event, by its seed and its number of events.
-- Shown by: command_tests test_drill_requests.rt: a_drill_has_these_messages.
abbrev pub drill_messages : ℕ → ℕ → List (List ℕ)
drill_messages seed events = set_up_messages ++ event_messages seed events

-- The message that asks for at most 1,000 attempts of deliveries that are due. It comes after the events, until one makes no attempt.
-- Shown by: command_tests test_drill_requests.rt: a_drill_has_these_messages.
unfoldable pub deliver_due : List ℕ
deliver_due = message (codes "RouterLocal.DeliverDue") (body_of ((codes "Budget", number (codes "1000")) ∷ []))
