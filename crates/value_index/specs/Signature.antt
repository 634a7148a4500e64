-- For private clauses alone: signatures. Equal bytes have equal signatures; no clause needs more of them.
use Rattle.std.specs.Prelude.{ℕ, ◌+◌, ◌*◌, ◌/◌, ◌%◌, ◌^◌, true, false, List, reverse}
use Rattle.std.specs.List.{fold}
use Rattle.std.specs.Char.{to_ascii_lowercase}
use Rattle.json_text.specs.Tree.{Tree, null, truth, number, text, list, object}
use Rattle.leaf_match.specs.declared.address.Family.{Family}
use Rattle.leaf_match.specs.declared.address.Family.TheVariants.{V4, V6}
use Rattle.value_index.specs.declared.signature.Side.{Side}
use Rattle.value_index.specs.declared.signature.Side.TheVariants.{Front, Back}

-- one more word
unfoldable pub joined : ℕ → ℕ → ℕ
joined sum word = ((sum * 1099511628211) % 2 ^ 64 + word) % 2 ^ 64

-- one more byte, an ASCII letter in lower case
abbrev pub with_byte : ℕ → ℕ → ℕ
with_byte sum byte = joined sum (to_ascii_lowercase byte)

-- the signature of bytes after a seed
abbrev pub signature : ℕ → List ℕ → ℕ
signature seed bytes = fold with_byte seed bytes

-- the bytes, the first first or the last first
abbrev pub read_from : Side → List ℕ → List ℕ
read_from Front bytes = bytes
read_from Back bytes = reverse bytes

-- the seed of the first or the last bytes of a text
abbrev pub seed_of : Side → ℕ
seed_of Front = 7
seed_of Back = 8

-- the signature of a scalar
abbrev pub whole : Tree → ℕ
whole null = 2
whole (truth true) = 3
whole (truth false) = 4
whole (number spelling) = signature 5 spelling
whole (text t) = signature 6 t
whole (list items) = 1
whole (object _) = 1

-- the seed of the first bits of an address
abbrev pub seed_for : Family → ℕ
seed_for V4 = 9
seed_for V6 = 10

-- the signature of the first bits of an address
abbrev pub network : Family → ℕ → ℕ → ℕ
network family length bits = joined (joined (joined (seed_for family) length) (bits / 2 ^ 64)) (bits % 2 ^ 64)
