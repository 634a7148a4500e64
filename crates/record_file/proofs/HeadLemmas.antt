-- A gate and the length after it.
use Rattle.std.proofs.Common.{◌≡◌, ℕ, ◌<◌, List, ◌∷◌, length, get_or, drop, sym, ap, ◌∙◌, arith, length-drop}
use Rattle.std.proofs.lemmas.List.{drop_more}
use Rattle.std.proofs.lemmas.Nat.{be_bytes_8}
use Rattle.std.specs.Int.{w64, from_be_bytes}
use Rattle.record_file.specs.Records.{length_bytes}

pub gate_and_rest : (bytes : List ℕ) → 0 < length bytes → bytes ≡ get_or bytes 0 0 ∷ drop 1 bytes
gate_and_rest bytes some = drop_more bytes 0 0 some

pub head_length : (bytes lens : List ℕ) (n : ℕ) → length bytes ≡ 9 → get_or bytes 0 0 ≡ 1 → lens ≡ drop 1 bytes → ((i : ℕ) → get_or lens i 0 < 256) →
    n ≡ from_be_bytes w64 lens → bytes ≡ 1 ∷ length_bytes n
unfolding length_bytes
head_length bytes lens n nine one is fits read =
    gate_and_rest bytes (omega (arith, nine)) ∙ ap (λ g. g ∷ drop 1 bytes) one
    ∙ ap (λ m. 1 ∷ m) (sym is ∙ sym (be_bytes_8 lens n (ap (λ m. length m) is ∙ eight bytes nine) fits read))
  where
    eight : (bytes : List ℕ) → length bytes ≡ 9 → length (drop 1 bytes) ≡ 8
    eight bytes nine = omega (arith, nine, length-drop 1 bytes)
