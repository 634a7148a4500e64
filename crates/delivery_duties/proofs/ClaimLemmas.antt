-- A claim that is put back changes nothing: `put_back`.
use Rattle.std.proofs.Common.{◌≡◌, ◌≢◌, ℕ, ◌<◌, true, false, cond, eqb, List, [], ◌∷◌, Some, None, refl, sym, ap, ◌∙◌, subst, arith}
use Rattle.std.proofs.lemmas.Bool.{eqb-true, le-ltb}
use Rattle.key_tree.specs.Entries.{value_at, placed, without, AllKeys, AreSorted}
use Rattle.key_tree.proofs.EntryLemmas.{AllKeys-weaker, others, placed_lower, value_at-without_same, without_none}
use Rattle.delivery_duties.specs.declared.duty.DutyRow.{DutyRow}
use Rattle.delivery_duties.specs.Duties.{Duties, IsFree, IsOrdered, claimed, unclaimed, marked_row}
use Rattle.delivery_duties.proofs.EntryLemmas.{key_has, larger, placed_here, without_placed}

-- an entry that was removed is placed again
placed_back : {V : Type 0} (key : ℕ) (v : V) (es : List (ℕ × V)) → AreSorted es → value_at key es ≡ Some v → placed (key, v) (without key es) ≡ es
placed_back key v [] s e = absurd (cc)
placed_back {V} key v (x ∷ es) s e =
    (elim (eqb x.0 key) as (λ b. eqb x.0 key ≡ b → cond b (Some x.1) (value_at key es) ≡ Some v
    → placed (key, v) (cond b (without key es) (x ∷ without key es)) ≡ x ∷ es) [
      | true ↦ λ i h.
          let after : AllKeys (λ k. key < k) es = subst (λ k. AllKeys (λ j. k < j) es) (eqb-true x.0 key i) s.0 in
          let rest : without key es ≡ es = without_none key es (AllKeys-weaker (λ k. key < k) (λ k. k ≢ key) (λ k p. larger key k p) es after) in
          let value : x.1 ≡ v = cc in
          let entry : (key, v) ≡ x = sym (ap (λ k. (k, x.1)) (eqb-true x.0 key i) ∙ ap (λ w. (key, w)) value) in
          ap (placed (key, v)) rest ∙ placed_lower (key, v) [] es after ∙ ap (λ y. y ∷ es) entry
      | false ↦ λ i h.
          let below : x.0 < key = key_has (λ j. x.0 < j) key v es s.0 h in
          rw (le-ltb key x.0 (omega (arith, below))) (ap (λ rest. x ∷ rest) (placed_back key v es s.1 h))
    ]) refl e

pub put_back : (s : Duties) (n : ℕ) → IsOrdered s → IsFree n s → unclaimed n (claimed n s) ≡ s
put_back s n o (row, there, free) =
    let out : DutyRow = record row { claimed = true } in
    let back : DutyRow = record row { claimed = false } in
    let left : List (ℕ × DutyRow) = without n s.pending in
    let none : value_at n left ≡ None = value_at-without_same n s.pending in
    let number : row.number ≡ n = o.named n row there in
    let taken : claimed n s ≡ record s { pending = placed (n, out) left } =
    ap (λ r. marked_row true r s) there ∙ ap (λ k. record s { pending = placed (k, out) (without k s.pending) }) number in
    let t : Duties = record s { pending = placed (n, out) left } in
    let same : back ≡ row = ap (λ c. record row { claimed = c }) (sym free) in
    let released : unclaimed n t ≡ record s { pending = placed (n, back) (without n (placed (n, out) left)) } =
    ap (λ r. marked_row false r t) (placed_here n out left none)
    ∙ ap (λ k. record s { pending = placed (k, back) (without k (placed (n, out) left)) }) number in
    ap (unclaimed n) taken ∙ released
    ∙ ap (λ rows. record s { pending = placed (n, back) rows }) (without_placed (n, out) left (others n left none))
    ∙ ap (λ r. record s { pending = placed (n, r) left }) same
    ∙ ap (λ rows. record s { pending = rows }) (placed_back n row s.pending o.sorted there)
