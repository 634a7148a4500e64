-- A text spells at most one value: `one_value`.
use Rattle.std.proofs.Common.{◌≡◌, ℕ, ◌+◌, ◌≤◌, List, Ok, sym, ◌∙◌, arith}
use Rattle.json_text.specs.{Node.Node, Grammar.IsText}
use Rattle.json_text.proofs.WholeTexts.{spelled_read}

-- more levels are allowed
deeper : (a b : ℕ) (bytes : List ℕ) (n : Node) → a ≤ b → IsText a bytes n → IsText b bytes n
deeper a b bytes n le is = record { spelled = is.spelled; within = let w = is.within in omega (arith, w, le) }

pub one_value : (a b : ℕ) (bytes : List ℕ) (n m : Node) → IsText a bytes n → IsText b bytes m → n ≡ m
one_value a b bytes n m p q = let first = spelled_read (a + b) bytes n (deeper a (a + b) bytes n (omega arith) p) in
    let second = spelled_read (a + b) bytes m (deeper b (a + b) bytes m (omega arith) q) in let same : Ok n ≡ Ok m = sym first ∙ second in cc
