-- ARNs alone: a text that is the ARN of a bus, of an archive, or of a rule on a bus, and nothing else.
use Rattle.std.specs.Prelude.{◌≡◌, ℕ, List}
use Rattle.event_shape.specs.Names.{IsBusName, IsArchiveName, IsShortName, bus_arn, archive_arn, rule_arn}

-- The text is the ARN of the bus of this name, which has the syntax of a bus's name.
-- Shown by: event_tests test_event_arns.rt: an_arn_alone_shows_its_name.
abbrev pub IsBusArn : List ℕ → List ℕ → Type 0
IsBusArn text bus = IsBusName bus × (text ≡ bus_arn bus)

-- The text is the ARN of the archive of this name, which has the syntax of an archive's name.
-- Shown by: event_tests test_event_arns.rt: an_arn_alone_shows_its_name.
abbrev pub IsArchiveArn : List ℕ → List ℕ → Type 0
IsArchiveArn text archive = IsArchiveName archive × (text ≡ archive_arn archive)

-- The text is the ARN of the rule of this name on the bus. The name has the syntax of a rule's name. On `default` the ARN has no bus.
-- Shown by: event_tests test_event_arns.rt: an_arn_alone_shows_its_name.
abbrev pub IsRuleArn : List ℕ → List ℕ → List ℕ → Type 0
IsRuleArn text bus rule = IsShortName rule × (text ≡ rule_arn bus rule)
