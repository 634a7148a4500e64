-- For private clauses alone: what the anchors of a pattern are.
use Rattle.std.specs.Prelude.{◌≡◌, ℕ, Bool, IsTrue, List, [], Some, Contains}
use Rattle.json_text.specs.Tree.{Tree}
use Rattle.pattern_meaning.specs.Alternatives.{Part}
use Rattle.pattern_meaning.specs.Pattern.{Test, Pattern}
use Rattle.pattern_meaning.specs.View.{leaf_at}
use Rattle.pattern_meaning.specs.Holds.{IsMet, HoldsOnView}
use Rattle.pattern_read.specs.Text.{IsPatternText}

-- on the view, the leaf at the path of one of the parts meets one of its tests
abbrev pub MeetsSome : Tree → List Part → Type 0
MeetsSome view parts =
    (part : Part) × Contains parts part × (leaf : Tree) × (leaf_at part.0 view ≡ Some leaf) × (test : Test) × Contains part.1 test × IsMet test leaf

-- on each view on which the pattern holds, one of the parts is met
abbrev pub AreAnchors : Pattern → List Part → Type 0
AreAnchors p parts = (event view : Tree) → HoldsOnView p event [] view → MeetsSome view parts

-- the same of a pattern's text
abbrev pub AreAnchorsOf : List ℕ → List Part → Type 0
AreAnchorsOf text parts = (p : Pattern) → IsPatternText text p → AreAnchors p parts

-- Parts were added. If the answer is yes, one of all is met on each view on which something holds below a path.
pub record Adds (holds : Tree → List (List ℕ) → Tree → Type 0) (path : List (List ℕ)) (old new : List Part) (found : Bool) : Type 0 where
  pub kept : (view : Tree) → MeetsSome view old → MeetsSome view new
  pub met : IsTrue found → (event view : Tree) → holds event path view → MeetsSome view new
