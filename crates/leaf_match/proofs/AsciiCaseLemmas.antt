-- The folded front of a text is the front of the folded text.
use Rattle.std.proofs.Common.{◌≡◌, ℕ, ◌-◌, ◌↔◌, List, ◌++◌, length, map, take, drop, sym, ap, ◌∙◌}
use Rattle.std.specs.Char.{to_ascii_lowercase}
use Rattle.std.proofs.lemmas.List.{take-append-drop, map-append, take-map, drop-map, length-map, length-drop}
use Rattle.std.proofs.lemmas.List.Prefix.{end_rest}
use Rattle.std.proofs.Math.Seq.{take-append_seam, take-length}
use Rattle.leaf_match.specs.AsciiCase.{StartsCi, EndsCi}

pub StartsCi-by_front : (text front : List ℕ) → (map to_ascii_lowercase (take (length front) text) ≡ map to_ascii_lowercase front) ↔ StartsCi text front
StartsCi-by_front text front =
    let lower = map to_ascii_lowercase in (
      λ e. (
        lower (drop (length front) text),
        ap lower (sym (take-append-drop (length front) text))
            ∙ map-append to_ascii_lowercase (take (length front) text) (drop (length front) text)
            ∙ ap (λ x. x ++ lower (drop (length front) text)) e,
      ),
      λ s. sym (take-map to_ascii_lowercase (length front) text)
          ∙ ap (λ n. take n (lower text)) (sym (length-map front to_ascii_lowercase))
          ∙ ap (take (length (lower front))) s.1 ∙ take-append_seam (lower front) s.0,
    )

pub EndsCi-by_end : (text end : List ℕ) → (map to_ascii_lowercase (drop (length text - length end) text) ≡ map to_ascii_lowercase end) ↔ EndsCi text end
EndsCi-by_end text end =
    let lower = map to_ascii_lowercase in
    let n = length text - length end in (
      λ e. (
        lower (take n text),
        ap lower (sym (take-append-drop n text)) ∙ map-append to_ascii_lowercase (take n text) (drop n text) ∙ ap (λ x. lower (take n text) ++ x) e,
      ),
      λ s. sym (drop-map to_ascii_lowercase n text)
          ∙ ap (λ k. drop k (lower text)) (ap (λ m. m - length end) (sym (length-map text to_ascii_lowercase))
          ∙ ap (λ m. length (lower text) - m) (sym (length-map end to_ascii_lowercase)))
          ∙ end_rest (lower text) (lower end) s.0 s.1,
    )

-- a slice up to the text's end
pub take-to_end : (k : ℕ) (text : List ℕ) → take (length text - k) (drop k text) ≡ drop k text
take-to_end k text = ap (λ n. take n (drop k text)) (sym (length-drop k text)) ∙ take-length (drop k text)
