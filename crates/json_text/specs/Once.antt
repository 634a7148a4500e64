-- What `read_once` answers of a text.
use Rattle.std.specs.Prelude.{◌≡◌, Some}
use Rattle.json_text.specs.Node.{Node, first_repeat}
use Rattle.json_text.specs.declared.fault.JsonFault.{JsonFault}
use Rattle.json_text.specs.declared.fault.JsonFault.TheVariants.{NotJson, TooDeep, KeyTwice, NoMemory}

-- What `read_once` reports of a JSON text within the levels: its first repeated key, or out of memory.
-- Shown by: text_tests test_json_text.rt: the_first_repeated_key_is_reported.
abbrev pub IsRepeatOrMemory : Node → JsonFault → Type 0
IsRepeatOrMemory n (NotJson at) = ⊥
IsRepeatOrMemory n (TooDeep at) = ⊥
IsRepeatOrMemory n (KeyTwice at) = first_repeat n ≡ Some at
IsRepeatOrMemory n NoMemory = Unit {0}
