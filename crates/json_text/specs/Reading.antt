-- For private clauses alone: what is known of a text after each byte of it, as the reader keeps it. That this reads exactly
-- the texts of `Grammar` is proved in proofs/.
use Rattle.std.specs.Prelude.{ℕ, zero, suc, ◌+◌, ◌*◌, Bool, true, false, not, ◌&&◌, ◌||◌, ◌==◌, nat_lt, nat_le, List, [], ◌∷◌, ◌++◌, length, if◌then◌else◌, Option, Some, None, Result, Ok, Err, codes, encode_utf8}
use Rattle.std.specs.Char.{is_ascii_digit}
use Rattle.json_text.specs.Number.{is_digit_above_zero}
use Rattle.json_text.specs.Characters.{escape_of, hex_digit_of, pair_of}
use Rattle.json_text.specs.Node.{Node, null_node, truth_node, number_node, text_node, list_node, object_node, Nodes, no_nodes, node, Fields, no_fields, field}
use Rattle.json_text.specs.Grammar.{is_space}

-- why no JSON text goes on with a byte
pub data Stop : Type 0 where
  unexpected : Stop
  too_deep : Stop

-- Within a number: after its sign, a first zero, a digit of its whole part, its point, a digit of its fraction, its `e`, the
-- exponent's sign, a digit of the exponent.
pub data NumberPart : Type 0 where
  minus : NumberPart
  zero_int : NumberPart
  int : NumberPart
  point : NumberPart
  fraction : NumberPart
  exponent : NumberPart
  exponent_sign : NumberPart
  exponent_digits : NumberPart

-- whether a number may end after this part
abbrev pub may_end : NumberPart → Bool
may_end minus = false
may_end zero_int = true
may_end int = true
may_end point = false
may_end fraction = true
may_end exponent = false
may_end exponent_sign = false
may_end exponent_digits = true

abbrev pub digit_goes : NumberPart → ℕ → Option NumberPart
digit_goes part b = if is_ascii_digit b then Some part else None

abbrev pub exponent_goes : ℕ → Option NumberPart → Option NumberPart
exponent_goes b other = if (b == 101) || (b == 69) then Some exponent else other

-- the part that the byte belongs to, if the number can continue with it
abbrev pub number_step : NumberPart → ℕ → Option NumberPart
number_step minus b = if b == 48 then Some zero_int else digit_goes int b
number_step zero_int b = if b == 46 then Some point else exponent_goes b None
number_step int b = if b == 46 then Some point else exponent_goes b (digit_goes int b)
number_step point b = digit_goes fraction b
number_step fraction b = exponent_goes b (digit_goes fraction b)
number_step exponent b = if (b == 45) || (b == 43) then Some exponent_sign else digit_goes exponent_digits b
number_step exponent_sign b = digit_goes exponent_digits b
number_step exponent_digits b = digit_goes exponent_digits b

-- Within a string: between characters, after a backslash, before a hexadecimal digit of a code unit with a number of digits after
-- it (after a high surrogate, if there is one), after a high surrogate, after it and a backslash, and within a character whose
-- next byte is in a range of this first byte and width and which has a number of bytes after that. So each part can be completed.
pub data StringPart : Type 0 where
  between : StringPart
  backslash : StringPart
  hex : Option ℕ → ℕ → ℕ → StringPart
  high : ℕ → StringPart
  high_backslash : ℕ → StringPart
  tail : ℕ → ℕ → ℕ → StringPart

-- what a byte does to a string: it continues the text so far, ends it, or is not allowed there
pub data StringStep : Type 0 where
  goes_on : StringPart → List ℕ → StringStep
  ends : StringStep
  stops : StringStep

abbrev pub is_within : ℕ → ℕ → ℕ → Bool
is_within low up b = nat_le low b && nat_le b up

-- a byte between characters that is no quotation mark and no backslash (RFC 3629, section 4, for those above 127)
abbrev pub unescaped_step : List ℕ → ℕ → StringStep
unescaped_step text b =
    if is_within 32 127 b then goes_on between (text ++ b ∷ []) else
    if is_within 194 223 b then goes_on (tail 128 63 0) (text ++ b ∷ []) else
    if b == 224 then goes_on (tail 160 31 1) (text ++ b ∷ []) else
    if b == 237 then goes_on (tail 128 31 1) (text ++ b ∷ []) else
    if is_within 225 239 b then goes_on (tail 128 63 1) (text ++ b ∷ []) else
    if b == 240 then goes_on (tail 144 47 2) (text ++ b ∷ []) else
    if is_within 241 243 b then goes_on (tail 128 63 2) (text ++ b ∷ []) else
    if b == 244 then goes_on (tail 128 15 2) (text ++ b ∷ []) else stops

-- the part after a byte of a character of several bytes
abbrev pub tail_after : ℕ → StringPart
tail_after zero = between
tail_after (suc more) = tail 128 63 more

abbrev pub escape_step : List ℕ → Option ℕ → StringStep
escape_step text None = stops
escape_step text (Some c) = goes_on between (text ++ c ∷ [])

-- A code unit may not be a low surrogate alone, and after a high one it has to be low: the first two digits decide.
abbrev pub digit_fits : Option ℕ → ℕ → ℕ → ℕ → Bool
digit_fits None more unit d = not ((more == 2) && ((unit == 13) && nat_le 12 d))
digit_fits (Some lead) more unit d = if more == 3 then d == 13 else (not (more == 2) || nat_le 12 d)

-- the code unit is whole
abbrev pub unit_step : List ℕ → Option ℕ → ℕ → StringStep
unit_step text None unit = if is_within 0xD800 0xDBFF unit then goes_on (high unit) text else goes_on between (text ++ encode_utf8 unit)
unit_step text (Some lead) unit = goes_on between (text ++ encode_utf8 (pair_of lead unit))

-- a number of digits is to come
abbrev pub unit_after : List ℕ → Option ℕ → ℕ → ℕ → StringStep
unit_after text lead zero unit = unit_step text lead unit
unit_after text lead (suc more) unit = goes_on (hex lead more unit) text

abbrev pub hex_step : List ℕ → Option ℕ → ℕ → ℕ → Option ℕ → StringStep
hex_step text lead more unit None = stops
hex_step text lead more unit (Some d) = if digit_fits lead more unit d then unit_after text lead more (16 * unit + d) else stops

abbrev pub string_step : StringPart → List ℕ → ℕ → StringStep
string_step between text b = if b == 34 then ends else if b == 92 then goes_on backslash text else unescaped_step text b
string_step backslash text b = if b == 117 then goes_on (hex None 3 0) text else escape_step text (escape_of b)
string_step (hex lead more unit) text b = hex_step text lead more unit (hex_digit_of b)
string_step (high lead) text b = if b == 92 then goes_on (high_backslash lead) text else stops
string_step (high_backslash lead) text b = if b == 117 then goes_on (hex (Some lead) 3 0) text else stops
string_step (tail low width more) text b = if is_within low (low + width) b then goes_on (tail_after more) (text ++ b ∷ []) else stops

-- a member without its place in the list of them
pub record Member : Type 0 where
  pub place : ℕ
  pub key : List ℕ
  pub of : Node

-- a list or an object that waits for a value inside it, with what it has so far
pub data Waiting : Type 0 where
  in_list : List Node → Waiting
  in_object : List Member → ℕ → List ℕ → Waiting

-- nodes and members after others
abbrev pub then_nodes : List Node → Nodes → Nodes
then_nodes [] xs = xs
then_nodes (n ∷ ns) xs = node n (then_nodes ns xs)

abbrev pub then_fields : List Member → Fields → Fields
then_fields [] xs = xs
then_fields (m ∷ ms) xs = field m.place m.key m.of (then_fields ms xs)

abbrev pub nodes_of : List Node → Nodes
nodes_of ns = then_nodes ns no_nodes

abbrev pub fields_of : List Member → Fields
fields_of ms = then_fields ms no_fields

-- what a string's text goes to: a value, or a member's key with its place
pub data Hole : Type 0 where
  in_value : List Waiting → Hole
  in_key : ℕ → List Member → List Waiting → Hole

-- the state between two bytes of a text
pub data State : Type 0 where
  -- a value is next
  value : List Waiting → State
  -- after the bracket that opens a list
  first_item : List Waiting → State
  -- after an item
  after_item : List Node → List Waiting → State
  -- after the bracket that opens an object
  first_key : List Waiting → State
  -- after a comma of an object
  next_key : List Member → List Waiting → State
  -- after a key
  colon : List Member → ℕ → List ℕ → List Waiting → State
  -- after a member
  after_member : List Member → List Waiting → State
  -- after the text's own value
  whole : Node → State
  -- within a word, a number, a string: the bytes of the word that are left, the spelling and the text so far
  word : ℕ → List ℕ → Node → List Waiting → State
  digits : NumberPart → List ℕ → List Waiting → State
  string : StringPart → List ℕ → Hole → State

-- a value is whole: what waits for it has it
abbrev pub put : Node → List Waiting → State
put n [] = whole n
put n (in_list ns ∷ outer) = after_item (ns ++ n ∷ []) outer
put n (in_object ms place key ∷ outer) = after_member (ms ++ record { place = place; key = key; of = n } ∷ []) outer

-- a string's text is whole
abbrev pub fill : Hole → List ℕ → State
fill (in_value outer) t = put (text_node t) outer
fill (in_key place ms outer) t = colon ms place t outer

abbrev pub opened : ℕ → List Waiting → State → Result State Stop
opened levels outer state = if nat_lt (length outer) levels then Ok state else Err too_deep

-- the first byte of a value
abbrev pub value_step : ℕ → List Waiting → ℕ → Result State Stop
value_step levels outer b =
    if b == 34 then Ok (string between [] (in_value outer)) else
    if b == 91 then opened levels outer (first_item outer) else
    if b == 123 then opened levels outer (first_key outer) else
    if b == 45 then Ok (digits minus (b ∷ []) outer) else
    if b == 48 then Ok (digits zero_int (b ∷ []) outer) else
    if is_digit_above_zero b then Ok (digits int (b ∷ []) outer) else
    if b == 110 then Ok (word 117 (codes "ll") null_node outer) else
    if b == 116 then Ok (word 114 (codes "ue") (truth_node true) outer) else
    if b == 102 then Ok (word 97 (codes "lse") (truth_node false) outer) else Err unexpected

abbrev pub word_step : ℕ → List ℕ → Node → List Waiting → State
word_step c [] n outer = put n outer
word_step c (d ∷ rest) n outer = word d rest n outer

-- a byte after a value that is whole
abbrev pub after_step : State → ℕ → Result State Stop
after_step (after_item ns outer) b =
    if is_space b then Ok (after_item ns outer) else
    if b == 44 then Ok (value (in_list ns ∷ outer)) else
    if b == 93 then Ok (put (list_node (nodes_of ns)) outer) else Err unexpected
after_step (after_member ms outer) b =
    if is_space b then Ok (after_member ms outer) else
    if b == 44 then Ok (next_key ms outer) else
    if b == 125 then Ok (put (object_node (fields_of ms)) outer) else Err unexpected
after_step (whole n) b = if is_space b then Ok (whole n) else Err unexpected
after_step other b = Err unexpected

abbrev pub digits_step : Option NumberPart → NumberPart → List ℕ → List Waiting → ℕ → Result State Stop
digits_step (Some part) old spelling outer b = Ok (digits part (spelling ++ b ∷ []) outer)
digits_step None old spelling outer b = if may_end old then after_step (put (number_node spelling) outer) b else Err unexpected

abbrev pub string_goes : StringStep → (StringPart → List ℕ → State) → State → Result State Stop
string_goes (goes_on part text) within end = Ok (within part text)
string_goes ends within end = Ok end
string_goes stops within end = Err unexpected

-- what a byte does at a place
abbrev pub step : ℕ → ℕ → State → ℕ → Result State Stop
step levels at (value outer) b = if is_space b then Ok (value outer) else value_step levels outer b
step levels at (first_item outer) b =
    if is_space b then Ok (first_item outer) else
    if b == 93 then Ok (put (list_node no_nodes) outer) else value_step levels (in_list [] ∷ outer) b
step levels at (after_item ns outer) b = after_step (after_item ns outer) b
step levels at (first_key outer) b =
    if is_space b then Ok (first_key outer) else
    if b == 34 then Ok (string between [] (in_key at [] outer)) else
    if b == 125 then Ok (put (object_node no_fields) outer) else Err unexpected
step levels at (next_key ms outer) b =
    if is_space b then Ok (next_key ms outer) else
    if b == 34 then Ok (string between [] (in_key at ms outer)) else Err unexpected
step levels at (colon ms place key outer) b =
    if is_space b then Ok (colon ms place key outer) else
    if b == 58 then Ok (value (in_object ms place key ∷ outer)) else Err unexpected
step levels at (after_member ms outer) b = after_step (after_member ms outer) b
step levels at (whole n) b = after_step (whole n) b
step levels at (word c rest n outer) b = if b == c then Ok (word_step c rest n outer) else Err unexpected
step levels at (digits part spelling outer) b = digits_step (number_step part b) part spelling outer b
step levels at (string part text hole) b = string_goes (string_step part text b) (λ p t. string p t hole) (fill hole text)

-- a fault: why, and the number of bytes before the first one that no JSON text goes on with
pub record Fault : Type 0 where
  pub why : Stop
  pub at : ℕ

-- the end of the bytes
abbrev pub end_of : State → Option Node
end_of (value outer) = None
end_of (first_item outer) = None
end_of (after_item ns outer) = None
end_of (first_key outer) = None
end_of (next_key ms outer) = None
end_of (colon ms place key outer) = None
end_of (after_member ms outer) = None
end_of (whole n) = Some n
end_of (word c rest n outer) = None
end_of (digits part spelling []) = if may_end part then Some (number_node spelling) else None
end_of (digits part spelling (w ∷ outer)) = None
end_of (string part text hole) = None

abbrev pub ended : ℕ → Option Node → Result Node Fault
ended at None = Err (record { why = unexpected; at = at })
ended at (Some n) = Ok n

abbrev pub go_on : ℕ → Result State Stop → (State → Result Node Fault) → Result Node Fault
go_on at (Err why) next = Err (record { why = why; at = at })
go_on at (Ok state) next = next state

-- what the bytes that are left give
unfoldable pub read_from : ℕ → ℕ → State → List ℕ → Result Node Fault
read_from levels at state [] = ended at (end_of state)
read_from levels at state (b ∷ bs) = go_on at (step levels at state b) (λ next. read_from levels (at + 1) next bs)

-- what a text gives
abbrev pub read_text : ℕ → List ℕ → Result Node Fault
read_text levels bytes = read_from levels 0 (value []) bytes
