-- The path of a name: `path_at`. What pieces show: `shown_finished`, `shown_named`.
use Rattle.std.proofs.Common.{◌≡◌, ℕ, ◌+◌, ◌<◌, true, List, [], ◌∷◌, ◌++◌, length, get_or, drop, map, Some, cond, refl, sym, ap, ◌∙◌}
use Rattle.std.specs.Option.{option_and_then, option_map}
use Rattle.std.specs.List.{slice_get}
use Rattle.std.specs.Str.{bytes_eq}
use Rattle.std.proofs.lemmas.List.{drop_more, append-nil}
use Rattle.std.proofs.lemmas.Option.{slice_get-map, slice_get_read}
use Rattle.std.proofs.lemmas.Grind.{flat_map-append}
use Rattle.input_transform.specs.declared.path.Step.{Step}
use Rattle.input_transform.specs.declared.piece.Known.TheVariants.{Found}
use Rattle.input_transform.specs.declared.piece.Piece.{Piece}
use Rattle.input_transform.specs.declared.piece.Piece.TheVariants.{Plain}
use Rattle.input_transform.specs.Path.{found_at}
use Rattle.input_transform.specs.Names.{Scene, Source, Paths, first_named, found}
use Rattle.input_transform.specs.Stored.{piece_text, pieces_text}
use Rattle.input_transform.specs.Letters.{StandsFor, steps_of}

abbrev with_sources : Paths → List (List ℕ × Source)
with_sources = map (λ p. (p.0, found p.1))

first_here : (name : List ℕ) (p : List ℕ × List Step) (ps : Paths) → bytes_eq name p.0 ≡ true → first_named name (with_sources (p ∷ ps)) ≡ Some (found p.1)
first_here name p ps e = ap (λ b. cond b (Some (found p.1)) (first_named name (with_sources ps))) e

-- the path at a place that has the name, while none before it has
pub path_at : (name : List ℕ) (paths : Paths) (i : ℕ) (p : List ℕ × List Step) → i < length paths → p ≡ get_or paths i p → bytes_eq name p.0 ≡ true
    → first_named name (map (λ p. (p.0, found p.1)) (drop i paths)) ≡ first_named name (map (λ p. (p.0, found p.1)) paths)
    → (x : Source) × (first_named name (map (λ p. (p.0, found p.1)) paths) ≡ Some x) × StandsFor (steps_of paths) (Found i) x
path_at name paths i p within is same kept =
    let front : drop i paths ≡ p ∷ drop (i + 1) paths = drop_more paths i p within ∙ ap (λ q. q ∷ drop (i + 1) paths) (sym is) in
    let there : slice_get (steps_of paths) i ≡ Some p.1 =
    slice_get-map (λ (q : List ℕ × List Step). q.1) paths i ∙ ap (option_map (λ (q : List ℕ × List Step). q.1)) (slice_get_read paths (length paths) i p refl within is) in (
      found p.1,
      sym kept ∙ ap (λ ps. first_named name (with_sources ps)) front ∙ first_here name p (drop (i + 1) paths) same,
      λ scene. ap (option_and_then (λ steps. found_at steps scene.event)) there,
    )

-- the bytes since the last name become a piece
pub shown_finished : (scene : Scene) (paths : List (List Step)) (done pieces : List Piece) (run : List ℕ) → pieces ≡ done ++ Plain run ∷ []
    → pieces_text scene paths pieces ≡ pieces_text scene paths done ++ run
shown_finished scene paths done pieces run e =
    ap (pieces_text scene paths) e ∙ flat_map-append (piece_text scene paths) done (Plain run ∷ []) ∙ ap (λ t. pieces_text scene paths done ++ t) (append-nil run)

pub shown_named : (scene : Scene) (paths : List (List Step)) (done more pieces : List Piece) (run none : List ℕ) (piece : Piece)
    → more ≡ done ++ Plain run ∷ [] → pieces ≡ more ++ piece ∷ [] → none ≡ []
    → pieces_text scene paths pieces ++ none ≡ (pieces_text scene paths done ++ run) ++ piece_text scene paths piece
shown_named scene paths done more pieces run none piece e f g =
    ap (λ t. pieces_text scene paths pieces ++ t) g ∙ append-nil (pieces_text scene paths pieces)
    ∙ ap (pieces_text scene paths) f ∙ flat_map-append (piece_text scene paths) more (piece ∷ [])
    ∙ ap (λ t. t ++ (piece_text scene paths piece ++ [])) (shown_finished scene paths done more run e)
    ∙ ap (λ t. (pieces_text scene paths done ++ run) ++ t) (append-nil (piece_text scene paths piece))
