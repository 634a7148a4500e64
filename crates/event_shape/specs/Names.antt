-- Names and ARNs: the syntax of the Amazon EventBridge API Reference, and the one account and region that the router serves.
use Rattle.std.specs.Prelude.{◌≡◌, ℕ, Bool, ◌==◌, ◌&&◌, ◌||◌, ◌⊎◌, nat_le, if◌then◌else◌, List, [], ◌∷◌, ◌++◌, length, Option, Some, None, unwrap_or, codes, IsTrue}
use Rattle.std.specs.List.{list_all}
use Rattle.std.specs.Char.{is_ascii_digit}
use Rattle.std.specs.Str.{bytes_eq}

-- `A-Z a-z 0-9`
abbrev pub is_alphanumeric : ℕ → Bool
is_alphanumeric b = (nat_le 65 b && nat_le b 90) || ((nat_le 97 b && nat_le b 122) || (nat_le 48 b && nat_le b 57))

-- `A-Z a-z 0-9 - _`
abbrev pub is_queue_byte : ℕ → Bool
is_queue_byte b = is_alphanumeric b || ((b == 45) || (b == 95))

-- `A-Z a-z 0-9 . - _`
abbrev pub is_name_byte : ℕ → Bool
is_name_byte b = is_queue_byte b || (b == 46)

-- From 1 to `most` bytes, each of which passes the test.
-- Shown by: event_tests test_event_shape.rt: a_name_has_its_length, a_name_has_its_letters.
abbrev pub is_name_of : (ℕ → Bool) → ℕ → List ℕ → Bool
is_name_of test most name = list_all test name && (nat_le 1 (length name) && nat_le (length name) most)

-- The name of a rule, a target or a replay: 1 to 64 of `A-Z a-z 0-9 . - _`.
-- Shown by: event_tests test_event_shape.rt: a_name_has_its_length, a_name_has_its_letters.
abbrev pub is_short_name : List ℕ → Bool
is_short_name name = is_name_of is_name_byte 64 name

-- The name of an archive: 1 to 48 of `A-Z a-z 0-9 . - _`.
-- Shown by: event_tests test_event_shape.rt: a_name_has_its_length, a_name_has_its_letters.
abbrev pub is_archive_name : List ℕ → Bool
is_archive_name name = is_name_of is_name_byte 48 name

-- The name of a bus: 1 to 256 of `A-Z a-z 0-9 . - _`. `/` would begin the name of a partner's bus.
-- Shown by: event_tests test_event_shape.rt: a_name_has_its_length, a_name_has_its_letters.
abbrev pub is_bus_name : List ℕ → Bool
is_bus_name name = is_name_of is_name_byte 256 name

-- The name of a queue: 1 to 80 of `A-Z a-z 0-9 - _`.
-- Shown by: event_tests test_event_shape.rt: a_name_has_its_length, a_name_has_its_letters.
abbrev pub is_queue_name : List ℕ → Bool
is_queue_name name = is_name_of is_queue_byte 80 name

-- The text passes `is_short_name`.
-- Shown by: event_tests test_event_shape.rt: a_name_has_its_length, a_name_has_its_letters.
abbrev pub IsShortName : List ℕ → Type 0
IsShortName name = IsTrue (is_short_name name)

-- The text passes `is_archive_name`.
-- Shown by: event_tests test_event_shape.rt: a_name_has_its_length, a_name_has_its_letters.
abbrev pub IsArchiveName : List ℕ → Type 0
IsArchiveName name = IsTrue (is_archive_name name)

-- The text passes `is_bus_name`.
-- Shown by: event_tests test_event_shape.rt: a_name_has_its_length, a_name_has_its_letters.
abbrev pub IsBusName : List ℕ → Type 0
IsBusName name = IsTrue (is_bus_name name)

-- The text passes `is_queue_name`.
-- Shown by: event_tests test_event_shape.rt: a_name_has_its_length, a_name_has_its_letters.
abbrev pub IsQueueName : List ℕ → Type 0
IsQueueName name = IsTrue (is_queue_name name)

-- The text is an account: twelve digits.
-- Shown by: event_tests test_event_shape.rt: arns_are_as_they_are_spelled.
abbrev pub is_account : List ℕ → Bool
is_account account = (length account == 12) && list_all is_ascii_digit account

-- The account that owns every bus, `111122223333`.
-- Shown by: event_tests test_event_shape.rt: arns_are_as_they_are_spelled.
abbrev pub owner : List ℕ
owner = codes "111122223333"

-- The region of every bus, `us-east-1`.
-- Shown by: event_tests test_event_shape.rt: arns_are_as_they_are_spelled.
abbrev pub region : List ℕ
region = codes "us-east-1"

-- The bus that always exists, `default`.
-- Shown by: event_tests test_event_shape.rt: arns_are_as_they_are_spelled.
abbrev pub default_bus : List ℕ
default_bus = codes "default"

-- `arn:aws:SERVICE:REGION:ACCOUNT:RESOURCE`
abbrev pub events_arn : List ℕ → List ℕ
events_arn resource = codes "arn:aws:events:us-east-1:111122223333:" ++ resource

-- `arn:aws:events:us-east-1:111122223333:event-bus/` and the bus.
-- Shown by: event_tests test_event_shape.rt: arns_are_as_they_are_spelled.
abbrev pub bus_arn : List ℕ → List ℕ
bus_arn bus = events_arn (codes "event-bus/" ++ bus)

-- `arn:aws:events:us-east-1:111122223333:rule/` and the rule; the bus and `/` come before the rule unless the bus is `default`.
-- Shown by: event_tests test_event_shape.rt: arns_are_as_they_are_spelled.
abbrev pub rule_arn : List ℕ → List ℕ → List ℕ
rule_arn bus rule =
    if bytes_eq bus default_bus then events_arn (codes "rule/" ++ rule)
    else events_arn (codes "rule/" ++ (bus ++ (codes "/" ++ rule)))

-- `arn:aws:events:us-east-1:111122223333:archive/` and the archive.
-- Shown by: event_tests test_event_shape.rt: arns_are_as_they_are_spelled.
abbrev pub archive_arn : List ℕ → List ℕ
archive_arn archive = events_arn (codes "archive/" ++ archive)

-- `arn:aws:events:us-east-1:111122223333:replay/` and the replay.
-- Shown by: event_tests test_event_shape.rt: arns_are_as_they_are_spelled.
abbrev pub replay_arn : List ℕ → List ℕ
replay_arn replay = events_arn (codes "replay/" ++ replay)

-- `arn:aws:sqs:us-east-1:111122223333:` and the queue.
-- Shown by: event_tests test_event_shape.rt: arns_are_as_they_are_spelled.
abbrev pub queue_arn : List ℕ → List ℕ
queue_arn queue = codes "arn:aws:sqs:us-east-1:111122223333:" ++ queue

-- The text after the prefix, if it begins with it.
-- Shown by: event_tests test_event_shape.rt: an_arn_shows_its_name.
abbrev pub after_prefix : List ℕ → List ℕ → Option (List ℕ)
after_prefix [] text = Some text
after_prefix (p ∷ prefix) [] = None
after_prefix (p ∷ prefix) (b ∷ text) = if p == b then after_prefix prefix text else None

-- The name, if it passes the test.
-- Shown by: event_tests test_event_shape.rt: an_arn_shows_its_name.
abbrev pub named : (List ℕ → Bool) → Option (List ℕ) → Option (List ℕ)
named test None = None
named test (Some name) = if test name then Some name else None

-- The name of the queue whose ARN the text is.
-- Shown by: event_tests test_event_shape.rt: an_arn_shows_its_name.
abbrev pub queue_in : List ℕ → Option (List ℕ)
queue_in text = named is_queue_name (after_prefix (queue_arn []) text)

-- The name of the bus whose name or ARN the text is.
-- Shown by: event_tests test_event_shape.rt: an_arn_shows_its_name.
abbrev pub bus_in : List ℕ → Option (List ℕ)
bus_in text = named is_bus_name (Some (unwrap_or (after_prefix (bus_arn []) text) text))

-- The name of the bus that is given, by its name or its ARN; `default` if none is given. None if the text is neither.
-- Shown by: event_tests test_event_shape.rt: the_first_fault_is_reported.
abbrev pub bus_of_entry : Option (List ℕ) → Option (List ℕ)
bus_of_entry None = Some default_bus
bus_of_entry (Some text) = bus_in text

-- The text is the ARN of the queue of this name, which has the syntax of a queue's name.
-- Shown by: event_tests test_event_shape.rt: an_arn_shows_its_name.
abbrev pub IsQueueArn : List ℕ → List ℕ → Type 0
IsQueueArn text queue = IsQueueName queue × (text ≡ queue_arn queue)

-- The text is the name of this bus, or its ARN.
-- Shown by: event_tests test_event_shape.rt: arns_are_as_they_are_spelled.
abbrev pub IsBusGiven : List ℕ → List ℕ → Type 0
IsBusGiven text bus = IsBusName bus × ((text ≡ bus) ⊎ (text ≡ bus_arn bus))
