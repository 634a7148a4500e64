-- For private clauses alone: by which key a test is found. What a leaf meets is found; more may be found.
use Rattle.std.specs.Prelude.{ℕ, List, [], ◌∷◌, length}
use Rattle.json_text.specs.Tree.{Tree, null, truth, number, text, list, object}
use Rattle.leaf_match.specs.Cidr as address
use Rattle.leaf_match.specs.Wild.{literal_front}
use Rattle.pattern_meaning.specs.Pattern.{Test, same, prefix, prefix_ignoring_case, suffix, suffix_ignoring_case, equals_ignoring_case}
use Rattle.pattern_meaning.specs.Pattern.{wildcard, anything_but, numeric, cidr, exists, missing}
use Rattle.value_index.specs.declared.key.Key.{Key}
use Rattle.value_index.specs.declared.lengths.Length.TheVariants.{Any, Whole, End, Network}
use Rattle.value_index.specs.declared.signature.Side.{Side}
use Rattle.value_index.specs.declared.signature.Side.TheVariants.{Front, Back}
use Rattle.value_index.specs.Signature.{signature, read_from, seed_of, whole, network}

abbrev pub plain_key : ℕ → Key
plain_key n = record { signature = n; length = Any }

-- every leaf is asked
abbrev pub asked_key : Key
asked_key = plain_key 0

-- no leaf is looked up by this key
abbrev pub unsigned_key : Key
unsigned_key = plain_key 1

abbrev pub text_key : List ℕ → Key
text_key t = record { signature = signature 6 t; length = Whole (length t) }

abbrev pub scalar_key : Tree → Key
scalar_key null = plain_key (whole null)
scalar_key (truth b) = plain_key (whole (truth b))
scalar_key (number spelling) = plain_key (whole (number spelling))
scalar_key (text t) = text_key t
scalar_key (list items) = plain_key (whole (list items))
scalar_key (object inside) = plain_key (whole (object inside))

abbrev pub end_key : Side → List ℕ → Key
end_key side bytes = record { signature = signature (seed_of side) (read_from side bytes); length = End side (length bytes) }

-- by the letters at the front, if there are any
abbrev pub letters_key : List ℕ → Key
letters_key [] = asked_key
letters_key (b ∷ bytes) = end_key Front (b ∷ bytes)

abbrev pub network_key : address.Prefix → Key
network_key addresses =
    record { signature = network addresses.family addresses.length addresses.first_bits; length = Network addresses.family addresses.length }

abbrev pub key_of : Test → Key
key_of (same scalar) = scalar_key scalar
key_of (prefix bytes) = end_key Front bytes
key_of (prefix_ignoring_case bytes) = end_key Front bytes
key_of (suffix bytes) = end_key Back bytes
key_of (suffix_ignoring_case bytes) = end_key Back bytes
key_of (equals_ignoring_case other) = text_key other
key_of (wildcard pieces) = letters_key (literal_front pieces)
key_of (anything_but ts) = asked_key
key_of (numeric cs) = unsigned_key
key_of (cidr addresses) = network_key addresses
key_of exists = asked_key
key_of missing = unsigned_key
