-- A text of an append that grows by a payload.
use Rattle.std.proofs.Common.{◌≡◌, ℕ, ◌-◌, ◌<◌, List, [], ◌∷◌, ◌++◌, length, set, sym, ap, ◌∙◌, arith, append_assoc}
use Rattle.std.proofs.lemmas.List.{append-nil, set_at, length_push}
use Rattle.record_file.specs.Records.{length_bytes, records, Fits, IsText}
use Rattle.record_file.specs.Text.{IsTextSoFar, text_with}
use Rattle.record_file.proofs.RecordLemmas.{fit-append, records-append}

regroup : (a q b p z : List ℕ) (g : ℕ) → ((a ++ q) ++ g ∷ []) ++ (b ++ (p ++ z)) ≡ (a ++ (q ++ ((g ∷ (b ++ p)) ++ []))) ++ z
regroup a q b p z g = simp (append_assoc, append-nil)

opened : (r more : List ℕ) → set (r ++ 0 ∷ []) (length (r ++ 0 ∷ []) - 1) 1 ++ more ≡ (r ++ 1 ∷ []) ++ more
opened r more = ap (λ m. m ++ more) (set_at r 0 [] 1 (length (r ++ 0 ∷ []) - 1) (omega (arith, length_push r 0)))

pub text_grows : (ps : List (List ℕ)) (text p : List ℕ) → IsTextSoFar ps text → Fits p → IsTextSoFar (ps ++ p ∷ []) (text_with text p)
text_grows [] text p none fits = (
  (fits, tt),
  ap (λ t. text_with t p) none
      ∙ sym (ap (λ m. m ++ 0 ∷ []) (append-nil (length_bytes (length p) ++ p)) ∙ append_assoc (length_bytes (length p)) p (0 ∷ [])),
)
text_grows (q ∷ qs) text p so_far fits = (
  fit-append (q ∷ qs) (p ∷ []) so_far.0 (fits, tt),
  ap (λ t. text_with t p) so_far.1
      ∙ opened ((length_bytes (length q) ++ q) ++ records qs) (length_bytes (length p) ++ (p ++ 0 ∷ []))
      ∙ regroup (length_bytes (length q) ++ q) (records qs) (length_bytes (length p)) p (0 ∷ []) 1
      ∙ ap (λ m. ((length_bytes (length q) ++ q) ++ m) ++ 0 ∷ []) (sym (records-append qs (p ∷ []))),
)

pub text_whole : (ps : List (List ℕ)) (text : List ℕ) → IsTextSoFar ps text → 0 < length ps → IsText ps text
text_whole [] text so_far some = absurd (omega (arith, some))
text_whole (q ∷ qs) text so_far some = record { some = some; fit = so_far.0; is = so_far.1 }

-- three writes, one after the other
pub written : (s l p z one two three : List ℕ) → one ≡ s ++ l → two ≡ one ++ p → three ≡ two ++ z → three ≡ s ++ (l ++ (p ++ z))
written s l p z one two three first second third =
    third ∙ ap (λ m. m ++ z) (second ∙ ap (λ m. m ++ p) first) ∙ ap (λ m. m ++ z) (append_assoc s l p) ∙ append_assoc s (l ++ p) z
    ∙ ap (λ m. s ++ m) (append_assoc l p z)
