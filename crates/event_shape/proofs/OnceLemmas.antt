-- An event's text is no other event's: `event_once`. The same for an id, a detail's text and the members of an event:
-- `id_once`, `detail_once`, `same_event`.
use Rattle.std.proofs.Common.{◌≡◌, ℕ, zero, suc, ◌+◌, ◌<◌, ◌≤◌, ◌^◌, inl, Some, None, List, [], ◌∷◌, All, map, sym, ap, ◌∙◌, subst, refl, arith}
use Rattle.std.specs.Int.{w128, to_be_bytes, from_be_bytes}
use Rattle.uuid.specs.Text.{lower, parsed}
use Rattle.uuid.proofs.RoundTrips.{parses_hyphenated}
use Rattle.uuid.proofs.OrderLemmas.{from_be_bytes-to_be_bytes_16}
use Rattle.json_text.specs.Tree.{Tree, text, items_of}
use Rattle.json_text.specs.Node.{value_of}
use Rattle.json_text.specs.Grammar.{IsText}
use Rattle.json_text.specs.Compact.{compact_text, IsValue, tree_levels}
use Rattle.json_text.proofs.SpelledBack.{compact_spelled}
use Rattle.json_text.proofs.OneValue.{one_value}
use Rattle.event_shape.specs.Id.{event_id, id_base}
use Rattle.json_text.specs.Access.{IsObject}
use Rattle.event_shape.specs.Fault.{IsDetail}
use Rattle.event_shape.specs.Event.{Event, event_tree, IsEventText}
use Rattle.event_shape.proofs.ValidLemmas.{event_value}

abbrev AreBytes : List ℕ → Type 0
AreBytes [] = Unit {0}
AreBytes (x ∷ xs) = (x < 256) × AreBytes xs

all_bytes : (xs : List ℕ) → AreBytes xs → All (λ b. b < 256) xs
all_bytes [] h k d lt = absurd (omega (arith, lt))
all_bytes (x ∷ xs) h zero d lt = h.0
all_bytes (x ∷ xs) h (suc k) d lt = all_bytes xs h.1 k d (omega (arith, lt))

id_bytes : (n : ℕ) → AreBytes (to_be_bytes w128 n)
id_bytes n = (
  omega arith,
  (
    omega arith,
    (
      omega arith,
      (
        omega arith,
        (
          omega arith,
          (
            omega arith,
            (
              omega arith,
              (
                omega arith,
                (
                  omega arith,
                  (
                    omega arith,
                    (
                      omega arith,
                      (
                        omega arith,
                        (omega arith, (omega arith, (omega arith, (omega arith, tt)))),
                      ),
                    ),
                  ),
                ),
              ),
            ),
          ),
        ),
      ),
    ),
  ),
)

pub id_parsed : (n : ℕ) → Some (to_be_bytes w128 (id_base + n)) ≡ parsed (event_id n)
id_parsed n = parses_hyphenated lower (to_be_bytes w128 (id_base + n)) (inl refl) refl (all_bytes (to_be_bytes w128 (id_base + n)) (id_bytes (id_base + n)))

pub id_once : (n m : ℕ) → n < 2 ^ 64 → m < 2 ^ 64 → event_id n ≡ event_id m → n ≡ m
id_once n m a b e =
    let texts : Some (to_be_bytes w128 (id_base + n)) ≡ Some (to_be_bytes w128 (id_base + m)) = id_parsed n ∙ ap parsed e ∙ sym (id_parsed m) in
    let bytes : to_be_bytes w128 (id_base + n) ≡ to_be_bytes w128 (id_base + m) = cc in
    let p = from_be_bytes-to_be_bytes_16 (id_base + n) (omega arith) in
    let q = from_be_bytes-to_be_bytes_16 (id_base + m) (omega arith) in
    let same : id_base + n ≡ id_base + m = sym p ∙ ap (from_be_bytes w128) bytes ∙ q in
    omega (arith, same)

pub detail_spelled : (d : Tree) → IsValue d → IsObject d → tree_levels d ≤ 99 → IsDetail (compact_text d) d
detail_spelled d v o l = let s = compact_spelled d v in (s.0, record { spelled = s.1.spelled; within = let w = s.1.within in omega (arith, w, l) }, sym s.2, o)

pub detail_once : (bytes : List ℕ) (d e : Tree) → IsDetail bytes d → IsDetail bytes e → d ≡ e
detail_once bytes d e p q = p.2 ∙ ap value_of (one_value 99 99 bytes p.0 q.0 p.1 q.1) ∙ sym q.2

-- unequal values have unequal compact texts
compact_once : (t u : Tree) → IsValue t → IsValue u → compact_text t ≡ compact_text u → t ≡ u
compact_once t u v w e =
    let s = compact_spelled t v in
    let r = compact_spelled u w in
    let q = subst (λ b. IsText (tree_levels u) b r.0) (sym e) r.1 in
    sym s.2 ∙ ap value_of (one_value (tree_levels t) (tree_levels u) (compact_text t) s.0 r.0 s.1 q) ∙ r.2

texts_once : (a b : List (List ℕ)) → items_of (map text a) ≡ items_of (map text b) → a ≡ b
texts_once [] [] e = refl
texts_once [] (y ∷ ys) e = absurd cc
texts_once (x ∷ xs) [] e = absurd cc
texts_once (x ∷ xs) (y ∷ ys) e =
    let heads : x ≡ y = cc in
    let tails : items_of (map text xs) ≡ items_of (map text ys) = cc in
    ap (λ t. t ∷ xs) heads ∙ ap (λ ts. y ∷ ts) (texts_once xs ys tails)

abbrev pub event_from : ℕ → List ℕ → List ℕ → List ℕ → List ℕ → List (List ℕ) → Tree → Event
event_from n dt s a t r d = record { number = n; detail_type = dt; source = s; account = a; time = t; resources = r; detail = d }

pub same_event : (e f : Event) → e.number ≡ f.number → e.detail_type ≡ f.detail_type → e.source ≡ f.source → e.account ≡ f.account → e.time ≡ f.time
    → e.resources ≡ f.resources → e.detail ≡ f.detail → e ≡ f
same_event e f h0 h1 h2 h3 h4 h5 h6 =
    let whole : event_from e.number e.detail_type e.source e.account e.time e.resources e.detail
    ≡ event_from f.number f.detail_type f.source f.account f.time f.resources f.detail =
    rw (h0, h1, h2, h3, h4, h5, h6) refl in
    whole

parts_once : (e f : Event) → e.number < 2 ^ 64 → f.number < 2 ^ 64 → event_tree e None ≡ event_tree f None → e ≡ f
parts_once e f a b trees =
    let ids : event_id e.number ≡ event_id f.number = cc in
    let number = id_once e.number f.number a b ids in
    let detail_type : e.detail_type ≡ f.detail_type = cc in
    let source : e.source ≡ f.source = cc in
    let account : e.account ≡ f.account = cc in
    let time : e.time ≡ f.time = cc in
    let items : items_of (map text e.resources) ≡ items_of (map text f.resources) = cc in
    let resources = texts_once e.resources f.resources items in
    let detail : e.detail ≡ f.detail = cc in
    same_event e f number detail_type source account time resources detail

-- an event's text is no other event's
pub event_once : (bytes : List ℕ) (e f : Event) → IsEventText bytes e → IsEventText bytes f → e ≡ f
event_once bytes e f p q =
    let (m, at) = p.is_event in
    let (n, so) = q.is_event in
    let v = event_value e None p.is_event tt in
    let w = event_value f None q.is_event tt in
    parts_once e f at.number so.number (compact_once (event_tree e None) (event_tree f None) v w (sym p.written ∙ q.written))
