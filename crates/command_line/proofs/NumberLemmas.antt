-- A word spells one number: `number_once`.
use Rattle.std.proofs.Common.{◌≡◌, ℕ, ◌<◌, ◌^◌, List, sym, ◌∙◌, arith}
use Rattle.std.proofs.lemmas.Fmt.{decimal_injective}
use Rattle.command_line.specs.Number.{IsNumber}

pub number_once : (least most : ℕ) (word : List ℕ) (m n : ℕ) → most < 2 ^ 64 → IsNumber least most word m → IsNumber least most word n
    → m ≡ n
number_once least most word m n small (m1, m2, m3) (n1, n2, n3) =
    decimal_injective m n (omega (arith, m2, small)) (omega (arith, n2, small)) (sym m3 ∙ n3)
