-- What a source in memory gave, and what is left. Its reads and `gives_its_bytes` cite these.
use Rattle.std.proofs.Common.{◌≡◌, ℕ, ◌+◌, ◌-◌, ◌<◌, ◌≤◌, min, List, [], ◌∷◌, ◌++◌, length, take, drop, inl, inr, arith}
use Rattle.std.proofs.Common.{subst, sym, ◌∙◌, ap, append-nil, take-add, length-drop}
use Rattle.std.proofs.Math.Seq.{take-append_seam}
use Rattle.std.proofs.lemmas.List.{take-append-drop, drop_all, length-take}
use Rattle.std.proofs.lemmas.List.Elements.{Contains-push_cases}
use Rattle.std.proofs.lemmas.List.Folds.{concat-append}
use Rattle.std.specs.List.{concat, Contains}
use Rattle.router_disk.specs.Memory.{GivesItsBytes}

pub gives_its_bytes : (bytes : List ℕ) (gave : List (List ℕ)) (place most : ℕ) → concat gave ≡ take place bytes →
    (Contains gave [] → length bytes ≤ place) → GivesItsBytes (record { bytes = bytes; gave = gave; left = drop place bytes; most = most })
gives_its_bytes bytes gave place most same end = record {
  whole = ap (λ m. m ++ drop place bytes) same ∙ take-append-drop place bytes;
  end = λ empty. drop_all place bytes (end empty);
}

-- a piece joins what was given
pub concat_more : (bytes piece : List ℕ) (gave : List (List ℕ)) (place n : ℕ) → concat gave ≡ take place bytes →
    piece ≡ take n (drop place bytes) → concat (gave ++ piece ∷ []) ≡ take (place + n) bytes
concat_more bytes piece gave place n same next =
    concat-append gave (piece ∷ []) ∙ ap (λ m. concat gave ++ m) (append-nil piece) ∙ ap (λ m. m ++ piece) same
    ∙ ap (λ m. take place bytes ++ m) next ∙ sym (take-add place n bytes)

-- if a read gave the empty piece, nothing is left after it
pub ends : (bytes piece : List ℕ) (gave : List (List ℕ)) (place n most room : ℕ) → (Contains gave [] → length bytes ≤ place) →
    piece ≡ take n (drop place bytes) → n ≡ min (min most room) (length bytes - place) → 0 < most → 0 < room →
    Contains (gave ++ piece ∷ []) [] → length bytes ≤ place + n
ends bytes piece gave place n most room end next is positive space empty = elim (Contains-push_cases gave piece [] empty) [
  | inl before ↦ (let short = end before in omega (arith, short))
  | inr none ↦ (
      let long = ap length (sym next ∙ none) in
      let taken = length-take n (drop place bytes) in
      let dropped = length-drop place bytes in omega (arith, long, taken, dropped, is, positive, space)
      )
]

-- the piece that a read put into the buffer's front
pub piece_is : (bytes rest copied : List ℕ) (place n : ℕ) → copied ≡ take n (drop place bytes) → length copied ≡ n →
    take n (copied ++ rest) ≡ take n (drop place bytes)
piece_is bytes rest copied place n same len = subst (λ m. take m (copied ++ rest) ≡ copied) len (take-append_seam copied rest) ∙ same
