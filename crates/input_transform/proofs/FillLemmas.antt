-- What a target's text is, and that it is JSON.
use Rattle.std.proofs.Common.{◌≡◌, ℕ, ◌+◌, ◌<◌, ◌≤◌, List, [], ◌∷◌, ◌++◌, length, get_or, take, drop, Some, Result, Ok, Err, unwrap_or, IfOk, sym, ap, ◌∙◌, subst, arith, append-nil, IsUtf8, length-append}
use Rattle.std.proofs.lemmas.List.{take-append-drop, take_more}
use Rattle.std.proofs.lemmas.Grind.{flat_map-append}
use Rattle.json_text.specs.Tree.{Tree, null}
use Rattle.json_text.specs.Node.{Node}
use Rattle.json_text.specs.Grammar.{IsText}
use Rattle.json_text.specs.Compact.{compact_text, IsValue, tree_levels}
use Rattle.json_text.specs.Limits.{most_text}
use Rattle.json_text.proofs.SpelledBack.{compact_spelled}
use Rattle.json_text.proofs.WrittenUtf8.{compact_utf8}
use Rattle.event_time.specs.Time.{IsIso}
use Rattle.event_time.proofs.ClockLemmas.{iso_once}
use Rattle.input_transform.specs.declared.path.Step.{Step}
use Rattle.input_transform.specs.declared.piece.Piece.{Piece}
use Rattle.input_transform.specs.declared.fault.FillFault.{FillFault}
use Rattle.input_transform.specs.Path.{found_at}
use Rattle.input_transform.specs.Names.{Scene}
use Rattle.input_transform.specs.Stored.{piece_text, pieces_text, IsScene, FillToValues}
use Rattle.input_transform.specs.Fills.{IsWithinLimit, IsFilledText}
use Rattle.input_transform.proofs.SceneLemmas.{AreWithin, found_within, path_within}

-- what a path found is a value
pub found_value : (steps : List Step) (t u : Tree) → IsValue t → Some u ≡ found_at steps t → IsValue u
found_value steps t u h e = (subst (AreWithin (tree_levels t)) (sym e) (found_within steps t (tree_levels t) (h, omega arith))).0

-- a text that passes the limit in front of all
pub passes : (scene : Scene) (paths : List (List Step)) (pieces : List Piece) (i : ℕ) (p : Piece) (old new : List ℕ) → i < length pieces → p ≡ get_or pieces i p
    → old ≡ pieces_text scene paths (take i pieces) → new ≡ old ++ piece_text scene paths p → most_text < length new
    → most_text < length (pieces_text scene paths pieces)
passes scene paths pieces i p old new within is so e long =
    let front : take (i + 1) pieces ≡ take i pieces ++ p ∷ [] = take_more pieces i p within ∙ ap (λ x. take i pieces ++ x ∷ []) (sym is) in
    let here : pieces_text scene paths (take (i + 1) pieces) ≡ new =
    ap (pieces_text scene paths) front ∙ flat_map-append (piece_text scene paths) (take i pieces) (p ∷ [])
    ∙ ap (λ x. pieces_text scene paths (take i pieces) ++ x) (append-nil (piece_text scene paths p)) ∙ ap (λ x. x ++ piece_text scene paths p) (sym so) ∙ sym e in
    let rest = pieces_text scene paths (drop (i + 1) pieces) in
    let whole : pieces_text scene paths pieces ≡ new ++ rest =
    ap (pieces_text scene paths) (sym (take-append-drop (i + 1) pieces)) ∙ flat_map-append (piece_text scene paths) (take (i + 1) pieces) (drop (i + 1) pieces)
    ∙ ap (λ x. x ++ rest) here in
    let sum = length-append new rest in
    subst (λ x. most_text < length x) (sym whole) (omega (arith, sum, long))

pub stored_utf8 : (scene : Scene) (stored : List Piece × List (List Step)) → FillToValues stored → IsScene scene → IsUtf8 (pieces_text scene stored.1 stored.0)
stored_utf8 scene stored h s = let k = h scene s in subst IsUtf8 (sym k.2) (compact_utf8 k.0 k.1.0)

pub stored_filled : (scene : Scene) (stored : List Piece × List (List Step)) (r : Result (List ℕ) FillFault) → FillToValues stored → IsScene scene
    → IsWithinLimit (λ t. t) (pieces_text scene stored.1 stored.0) r → IfOk r (λ t. IsFilledText scene.event t)
stored_filled scene stored (Ok t) h s w = let k = h scene s in (k.0, k.1.0, k.1.1, w.0 ∙ k.2)
stored_filled scene stored (Err e) h s w = tt

-- a time's text is the only one
pub at_time : (event : Tree) (arn given time : List ℕ) (moment : ℕ) (paths : List (List Step)) (pieces : List Piece) (r : Result (List ℕ) FillFault)
    → IsIso moment given → IsIso moment time
    → IsWithinLimit (λ t. t) (pieces_text (record { event = event; rule_arn = arn; time = given }) paths pieces) r
    → IsWithinLimit (λ t. t) (pieces_text (record { event = event; rule_arn = arn; time = time }) paths pieces) r
at_time event arn given time moment paths pieces r h k w =
    subst (λ x. IsWithinLimit (λ t. t) (pieces_text (record { event = event; rule_arn = arn; time = x }) paths pieces) r) (iso_once moment given time h k) w

-- JSON
abbrev pub IsJson : List ℕ → Type 0
IsJson bytes = (n : Node) × IsText 200 bytes n

deeper : (a b : ℕ) (bytes : List ℕ) (n : Node) → a ≤ b → IsText a bytes n → IsText b bytes n
deeper a b bytes n l h = record { spelled = h.spelled; within = (let k = h.within in omega (arith, k, l)) }

pub value_json : (t : Tree) → IsValue t → tree_levels t ≤ 200 → IsJson (compact_text t)
value_json t h l = let k = compact_spelled t h in (k.0, deeper (tree_levels t) 200 (compact_text t) k.0 l k.1)

pub within_json : (bytes : List ℕ) (r : Result (List ℕ) FillFault) → IsWithinLimit (λ t. t) bytes r → IsJson bytes → IfOk r IsJson
within_json bytes (Ok t) w h = subst IsJson (sym w.0) h
within_json bytes (Err e) w h = tt

pub fixed_json : (bytes : List ℕ) → ((n : Node) × IsText 100 bytes n) → IsJson bytes
fixed_json bytes h = (h.0, deeper 100 200 bytes h.0 (omega arith) h.1)

pub path_json : (steps : List Step) (t : Tree) → IsValue t → tree_levels t ≤ 100 → IsJson (compact_text (unwrap_or (found_at steps t) null))
path_json steps t h l = let k = path_within steps t h in value_json (unwrap_or (found_at steps t) null) k.0 (let m = k.1 in omega (arith, l, m))

pub filled_json : (event : Tree) (r : Result (List ℕ) FillFault) → tree_levels event ≤ 100 → IfOk r (λ t. IsFilledText event t) → IfOk r IsJson
filled_json event (Ok t) l h = subst IsJson (sym h.3) (value_json h.0 h.1 (let k = h.2 in omega (arith, k, l)))
filled_json event (Err e) l h = tt
