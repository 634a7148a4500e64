use Rattle.std.proofs.Common.{◌≡◌, ◌++◌, List, length}
use Rattle.input_transform.specs.Letters.{Token, AreTokens, given, letters}
use Rattle.input_transform.proofs.rewriting.lettered.Given as goal

-- tokens of the rest make tokens of all bytes, and each list of tokens of all bytes goes on with tokens of the rest
abbrev pub invariant-loop-rest : goal.invariant-loop-rest
invariant-loop-rest l = record {
  there : (left : List Token) → AreTokens l.paths left → l.rest ≡ given left
      → (all : List Token) × AreTokens l.paths all × (l.text ≡ given all) × (letters all ≡ l.out ++ letters left);
  only : (all : List Token) → AreTokens l.paths all → l.text ≡ given all
      → (left : List Token) × AreTokens l.paths left × (l.rest ≡ given left) × (letters all ≡ l.out ++ letters left);
}

abbrev pub decreases-loop-rest : goal.decreases-loop-rest
decreases-loop-rest l = length l.rest
