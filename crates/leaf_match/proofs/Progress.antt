-- What the loop of `fits` keeps, `Progress`, with a lemma for each kind of step, and its measure, `effort`.
use Rattle.std.proofs.Common.{◌≡◌, ◌≢◌, ℕ, ◌+◌, ◌-◌, ◌*◌, ◌<◌, ◌≤◌, List, ◌∷◌, Option, Some, None, length, get_or, drop, length-append, sym}
use Rattle.std.proofs.Common.{ap, subst, ◌∙◌, arith, add-one}
use Rattle.std.proofs.lemmas.List.{length-drop}
use Rattle.std.proofs.Math.Seq.{drop-cons}
use Rattle.std.proofs.Math.ListN.{drop_of_length-le}
use Rattle.leaf_match.specs.declared.piece.Piece.{Piece}
use Rattle.leaf_match.specs.declared.piece.Piece.TheVariants.{Run}
use Rattle.leaf_match.specs.declared.matching.Place.{Place}
use Rattle.leaf_match.specs.Piece.{Fits}
use Rattle.leaf_match.specs.Place.{Takes, IsPieceAt}
use Rattle.leaf_match.proofs.PieceLemmas.{Greedy, greedy_start, greedy_run, greedy_piece, greedy_back, greedy_stuck, greedy_over}

-- what is left after the last run
abbrev pub left_after : List Piece → List ℕ → Option Place → Option (List Piece × List ℕ)
left_after ps text None = None
left_after ps text (Some run) = Some (drop run.piece ps, drop run.byte text)

-- the end of what the last run takes, or 0
abbrev pub run_end : Option Place → ℕ
run_end None = 0
run_end (Some run) = run.byte

-- the last run's place is no later than this one
abbrev pub IsBack : List Piece → Place → Option Place → Type 0
IsBack ps place None = Unit {0}
IsBack ps place (Some run) = (run.byte ≤ place.byte) × (run.piece ≤ length ps)

pub record Progress (ps : List Piece) (text : List ℕ) (place : Place) (back : Option Place) : Type 0 where
  pub byte_in : place.byte ≤ length text
  pub piece_in : place.piece ≤ length ps
  pub back_in : IsBack ps place back
  pub greedy : Greedy ps text (drop place.piece ps) (drop place.byte text) (left_after ps text back)

-- each end of the last run meets each piece once
abbrev pub effort : List Piece → List ℕ → Place → Option Place → ℕ
effort ps text place back = (length text + 1 - run_end back) * (length ps + 1) + (length ps - place.piece)

pub Progress-start : (ps : List Piece) (text : List ℕ) → Progress ps text (record { piece = 0; byte = 0 }) None
Progress-start ps text = record { byte_in = omega arith; piece_in = omega arith; back_in = tt; greedy = greedy_start ps text }

pub Progress-run : (ps : List Piece) (text : List ℕ) (place : Place) (back : Option Place)
    → IsPieceAt ps place.piece Run → Progress ps text place back
    → Progress ps text (record place { piece = place.piece + 1 }) (Some (record place { piece = place.piece + 1 }))
Progress-run ps text place back here p = record {
  byte_in = p.byte_in;
  piece_in = omega (arith, here.1);
  back_in = (omega arith, omega (arith, here.1));
  greedy = greedy_run ps text (drop (place.piece + 1) ps) (drop place.byte text) (left_after ps text back)
      (subst (λ qs. Greedy ps text qs (drop place.byte text) (left_after ps text back)) here.2 p.greedy);
}

Takes-past : (piece : Piece) (text : List ℕ) (at next : ℕ) → at ≤ length text → next ≤ length text → Takes piece (drop at text) (drop next text) → at ≤ next
Takes-past piece text at next within inside t =
    omega (arith, ap length t.2, length-append t.0 (drop next text), length-drop at text, length-drop next text)

IsBack-past : (ps : List Piece) (place : Place) (piece byte : ℕ) (back : Option Place) → place.byte ≤ byte
    → IsBack ps place back → IsBack ps (record { piece = piece; byte = byte }) back
IsBack-past ps place piece byte None h b = tt
IsBack-past ps place piece byte (Some run) h b = (omega (arith, b.0), b.1)

pub Progress-taken : (ps : List Piece) (text : List ℕ) (place : Place) (back : Option Place) (piece : Piece) (byte : ℕ)
    → piece ≢ Run → IsPieceAt ps place.piece piece → byte ≤ length text
    → Takes piece (drop place.byte text) (drop byte text) → Progress ps text place back
    → Progress ps text (record { piece = place.piece + 1; byte = byte }) back
Progress-taken ps text place back piece byte ne here within t p = record {
  byte_in = within;
  piece_in = omega (arith, here.1);
  back_in = IsBack-past ps place (place.piece + 1) byte back (Takes-past piece text place.byte byte p.byte_in within t) p.back_in;
  greedy = greedy_piece ps text piece (drop (place.piece + 1) ps) t.0 (drop byte text) (left_after ps text back) ne t.1
      (subst (λ s. Greedy ps text (piece ∷ drop (place.piece + 1) ps) s (left_after ps text back)) t.2
      (subst (λ qs. Greedy ps text qs (drop place.byte text) (left_after ps text back)) here.2 p.greedy));
}

-- a byte is left after the last run's end
next_byte : (text : List ℕ) (i : ℕ) → i < length text → drop i text ≡ get_or text i 0 ∷ drop (i + 1) text
next_byte text i h = drop-cons text i 0 h ∙ ap (λ k. get_or text i 0 ∷ drop k text) (sym (add-one i))

pub Progress-back : (ps : List Piece) (text : List ℕ) (place run : Place)
    → ¬ (Fits (drop place.piece ps) (drop place.byte text)) → run.byte < length text → Progress ps text place (Some run)
    → Progress ps text (record { piece = run.piece; byte = run.byte + 1 })
    (Some (record { piece = run.piece; byte = run.byte + 1 }))
Progress-back ps text place run stuck within p = record {
  byte_in = omega arith;
  piece_in = p.back_in.1;
  back_in = (omega arith, p.back_in.1);
  greedy = greedy_back ps text (drop place.piece ps) (drop place.byte text) (drop run.piece ps) (get_or text run.byte 0) (drop (run.byte + 1) text) stuck
      (subst (λ s. Greedy ps text (drop place.piece ps) (drop place.byte text) (Some (drop run.piece ps, s))) (next_byte text run.byte within) p.greedy);
}

-- the text does not fit: no run came, or the last one has taken all
pub Progress-stuck : (ps : List Piece) (text : List ℕ) (place : Place)
    → ¬ (Fits (drop place.piece ps) (drop place.byte text)) → Progress ps text place None → ¬ (Fits ps text)
Progress-stuck ps text place stuck p = greedy_stuck ps text (drop place.piece ps) (drop place.byte text) stuck p.greedy

pub Progress-over : (ps : List Piece) (text : List ℕ) (place run : Place)
    → ¬ (Fits (drop place.piece ps) (drop place.byte text)) → length text ≤ run.byte → Progress ps text place (Some run)
    → ¬ (Fits ps text)
Progress-over ps text place run stuck over p =
    greedy_over ps text (drop place.piece ps) (drop place.byte text) (drop run.piece ps) stuck
    (subst (λ s. Greedy ps text (drop place.piece ps) (drop place.byte text) (Some (drop run.piece ps, s))) (drop_of_length-le text over) p.greedy)
