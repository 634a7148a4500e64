-- A text spells at most one list of pieces. What a reader keeps: `Reads`.
use Rattle.std.proofs.Common.{◌≡◌, ◌≢◌, ℕ, ◌<◌, ◌⊎◌, inl, inr, false, ◌==◌, List, [], ◌∷◌, ◌++◌, map, length, refl, sym, ap, subst, ◌∙◌}
use Rattle.std.proofs.Common.{arith, append_assoc, append-nil}
use Rattle.std.proofs.lemmas.Bool.{false≢true}
use Rattle.std.proofs.lemmas.Bool.Decides.{nat_tests}
use Rattle.leaf_match.specs.declared.piece.Piece.{Piece}
use Rattle.leaf_match.specs.declared.piece.Piece.TheVariants.{Letter, Run, OneCharacter}
use Rattle.leaf_match.specs.Wild.{star, backslash, escaped, BeginsWith, Spells, IsWildcard, literal_front}

-- a letter is spelled with a backslash before it, or as itself
escaped_cases : (byte : ℕ) → (((byte ≡ star) ⊎ (byte ≡ backslash)) × (escaped byte ≡ backslash ∷ byte ∷ []))
    ⊎ ((byte ≢ star) × (byte ≢ backslash) × (escaped byte ≡ byte ∷ []))
escaped_cases byte = grind (arith, nat_tests)

-- a letter's spelling begins with a backslash, or is the letter, which is no `*`
same_letters : (a b : ℕ) (s r t : List ℕ) → BeginsWith (Letter a) s r → BeginsWith (Letter b) s t → (a ≡ b) × (r ≡ t)
same_letters a b s r t h k = elim (escaped_cases a) [
  | inl e ↦ elim (escaped_cases b) [
    | inl f ↦ let both : backslash ∷ a ∷ r ≡ backslash ∷ b ∷ t = ap (λ x. x ++ r) (sym e.1) ∙ sym h ∙ k ∙ ap (λ x. x ++ t) f.1 in (cc, cc)
    | inr f ↦ let both : backslash ∷ a ∷ r ≡ b ∷ t = ap (λ x. x ++ r) (sym e.1) ∙ sym h ∙ k ∙ ap (λ x. x ++ t) f.2 in
        let same : b ≡ backslash = cc in absurd (f.1 same)
  ]
  | inr e ↦ elim (escaped_cases b) [
    | inl f ↦ let both : a ∷ r ≡ backslash ∷ b ∷ t = ap (λ x. x ++ r) (sym e.2) ∙ sym h ∙ k ∙ ap (λ x. x ++ t) f.1 in
        let same : a ≡ backslash = cc in absurd (e.1 same)
    | inr f ↦ let both : a ∷ r ≡ b ∷ t = ap (λ x. x ++ r) (sym e.2) ∙ sym h ∙ k ∙ ap (λ x. x ++ t) f.2 in (cc, cc)
  ]
]

no_letter_run : (a : ℕ) (s r t : List ℕ) → BeginsWith (Letter a) s r → s ≡ star ∷ t → ⊥
no_letter_run a s r t h k = elim (escaped_cases a) [
  | inl e ↦ let both : backslash ∷ a ∷ r ≡ star ∷ t = ap (λ x. x ++ r) (sym e.1) ∙ sym h ∙ k in
      let same : backslash ≡ star = cc in omega (arith, same)
  | inr e ↦ let both : a ∷ r ≡ star ∷ t = ap (λ x. x ++ r) (sym e.2) ∙ sym h ∙ k in
      let same : a ≡ star = cc in e.0 same
]

same_piece : (p q : Piece) (s r t : List ℕ) → BeginsWith p s r → BeginsWith q s t → (p ≡ q) × (r ≡ t)
same_piece (Letter a) (Letter b) s r t h k = let e = same_letters a b s r t h k in (ap Letter e.0, e.1)
same_piece (Letter a) Run s r t h k = absurd (no_letter_run a s r t h k.0)
same_piece Run (Letter b) s r t h k = absurd (no_letter_run b s t r k h.0)
same_piece Run Run s r t h k = let both : star ∷ r ≡ star ∷ t = sym h.0 ∙ k.0 in (refl, cc)
same_piece OneCharacter q s r t h k = absurd h
same_piece (Letter a) OneCharacter s r t h k = absurd k
same_piece Run OneCharacter s r t h k = absurd k

pub shorter : (p : Piece) (s r : List ℕ) → BeginsWith p s r → length r < length s
shorter (Letter byte) s r h = elim (escaped_cases byte) [
  | inl e ↦ omega (arith, ap length (h ∙ ap (λ x. x ++ r) e.1))
  | inr e ↦ omega (arith, ap length (h ∙ ap (λ x. x ++ r) e.2))
]
shorter Run s r h = omega (arith, ap length h.0)
shorter OneCharacter s r h = absurd h

pub literal_front-letters : (letters : List ℕ) (rest : List Piece) → literal_front rest ≡ [] → literal_front (map Letter letters ++ rest) ≡ letters
literal_front-letters [] rest e = e
literal_front-letters (byte ∷ letters) rest e = ap (λ x. byte ∷ x) (literal_front-letters letters rest e)

pub not_empty : {A : Type 0} (xs : List A) → false ≡ (length xs == 0) → xs ≢ []
not_empty [] e = absurd (false≢true e)
not_empty (x ∷ xs) e = λ h. cc

-- one more piece after pieces that begin with no letter, or after no pieces if this one is no letter
pub literal_front-after : (rest : List Piece) (piece : Piece) → rest ≢ [] → literal_front rest ≡ [] → literal_front (rest ++ piece ∷ []) ≡ []
literal_front-after [] piece ne e = absurd (ne refl)
literal_front-after (Letter byte ∷ rest) piece ne e = cc
literal_front-after (Run ∷ rest) piece ne e = refl
literal_front-after (OneCharacter ∷ rest) piece ne e = refl

pub literal_front-no_letter : (rest : List Piece) (piece : Piece) → ((byte : ℕ) → piece ≢ Letter byte)
    → literal_front rest ≡ [] → literal_front (rest ++ piece ∷ []) ≡ []
literal_front-no_letter [] (Letter byte) other e = absurd (other byte refl)
literal_front-no_letter [] Run other e = refl
literal_front-no_letter [] OneCharacter other e = refl
literal_front-no_letter (p ∷ rest) piece other e = literal_front-after (p ∷ rest) piece (λ h. cc) e

-- What spells the text spells the rest of it, after the pieces that were read.
pub record Reads (text unread : List ℕ) (done : List Piece) : Type 0 where
  pub goes_on : (pieces : List Piece) → Spells text pieces → (more : List Piece) × (pieces ≡ done ++ more) × Spells unread more

-- what spells the rest of a text after its first piece
Spells-after : (p : Piece) (s r : List ℕ) (pieces : List Piece) → BeginsWith p s r → Spells s pieces
    → (more : List Piece) × (pieces ≡ p ∷ more) × Spells r more
Spells-after p s r [] b h = absurd (omega (arith, shorter p s r b, ap length h))
Spells-after p s r (q ∷ more) b h =
    let e = same_piece p q s r h.0 b h.1 in
    (more, ap (λ x. x ∷ more) (sym e.0), subst (λ x. Spells x more) (sym e.1) h.2)

pub Reads-more : (text unread rest : List ℕ) (done : List Piece) (p : Piece) → BeginsWith p unread rest
    → Reads text unread done → Reads text rest (done ++ p ∷ [])
Reads-more text unread rest done p b g = record {
  goes_on = λ pieces h.
      let left = g.goes_on pieces h in
      let next = Spells-after p unread rest left.0 b left.2 in
      (next.0, left.1 ∙ ap (λ x. done ++ x) next.1 ∙ sym (append_assoc done (p ∷ []) next.0), next.2);
}

-- nothing is left, or what is left spells nothing
Spells-no_piece : (s : List ℕ) (pieces : List Piece) → ((p : Piece) (r : List ℕ) → ¬ (BeginsWith p s r)) → Spells s pieces → (pieces ≡ []) × (s ≡ [])
Spells-no_piece s [] none h = (refl, h)
Spells-no_piece s (p ∷ more) none h = absurd (none p h.0 h.1)

pub Reads-only : (text unread : List ℕ) (done : List Piece) → ((p : Piece) (r : List ℕ) → ¬ (BeginsWith p unread r))
    → Reads text unread done → (pieces : List Piece) → Spells text pieces → pieces ≡ done
Reads-only text unread done none g pieces h =
    let left = g.goes_on pieces h in
    left.1 ∙ ap (λ x. done ++ x) (Spells-no_piece unread left.0 none left.2).0 ∙ append-nil done

pub Reads-all : (text unread : List ℕ) (done : List Piece) → ((p : Piece) (r : List ℕ) → ¬ (BeginsWith p unread r))
    → IsWildcard text → Reads text unread done → Spells text done
Reads-all text unread done none w g = subst (Spells text) (Reads-only text unread done none g w.0 w.1) w.1

-- what is left is a wildcard if the text is one
pub IsWildcard-after : (p : Piece) (s r : List ℕ) → BeginsWith p s r → IsWildcard s → IsWildcard r
IsWildcard-after p s r b w = let next = Spells-after p s r w.0 b w.1 in (next.0, next.2)

pub IsWildcard-before : (p : Piece) (s r : List ℕ) → BeginsWith p s r → IsWildcard r → IsWildcard s
IsWildcard-before p s r b w = (p ∷ w.0, (r, b, w.1))

pub not_IsWildcard : (s : List ℕ) → s ≢ [] → ((p : Piece) (r : List ℕ) → ¬ (BeginsWith p s r)) → ¬ (IsWildcard s)
not_IsWildcard s ne none w = ne (Spells-no_piece s w.0 none w.1).1
