-- From an event's tree to its parts and back: `members_once`, `values_are`, `parts_are`, `parts_valid`.
-- What `Event::read` returns: `read_as`, `found_as`, `only_as`, `none_as`.
use Rattle.std.proofs.Common.{◌≡◌, ◌≢◌, ℕ, ◌≤◌, Option, Some, None, Result, Ok, Err, IfOk, MatchOption, MatchResult, All, List, [], ◌∷◌}
use Rattle.std.proofs.Common.{false, ◌++◌, map, sym, ap, ◌∙◌, subst, refl, arith}
use Rattle.std.proofs.lemmas.List.Elements.{All-nil, All-cons}
use Rattle.json_text.specs.Tree.{Tree, text, list, object, items_of, members_of}
use Rattle.json_text.specs.View.{tree_of, trees_of, pairs_of}
use Rattle.json_text.specs.Node.{Node, value_of}
use Rattle.json_text.specs.Grammar.{IsText}
use Rattle.json_text.specs.Compact.{IsValue, AreItems, AreMembers, tree_levels, members_levels}
use Rattle.json_text.specs.declared.value.Json.{Json}
use Rattle.json_text.specs.declared.fault.JsonFault.{JsonFault}
use Rattle.json_text.specs.declared.fault.JsonFault.TheVariants.{NoMemory}
use Rattle.event_shape.specs.declared.parts.Parts.{Parts}
use Rattle.std.specs.Str.{IsUtf8}
use Rattle.json_text.specs.Access.{IsObject}
use Rattle.event_shape.specs.Fault.{is_reserved}
use Rattle.event_shape.specs.Event.{Event, event_tree, event_members, IsEvent, IsEventText}
use Rattle.event_shape.specs.Parts.{values_in, BeginsWith, ArePartsOf, AreValid}
use Rattle.event_shape.proofs.SpelledLemmas.{event_spelled}
use Rattle.event_shape.proofs.OnceLemmas.{event_from, same_event, event_once}

pub members_once : (ms ns : List (List ℕ × Tree)) → members_of ms ≡ members_of ns → ms ≡ ns
members_once [] [] e = refl
members_once [] (n ∷ ns) e = absurd cc
members_once (m ∷ ms) [] e = absurd cc
members_once (m ∷ ms) (n ∷ ns) e =
    let keys : m.0 ≡ n.0 = cc in
    let values : m.1 ≡ n.1 = cc in
    let tails : members_of ms ≡ members_of ns = cc in
    let heads : (m.0, m.1) ≡ (n.0, n.1) = rw (keys, values) refl in
    ap (λ x. x ∷ ms) heads ∙ ap (λ xs. n ∷ xs) (members_once ms ns tails)

items_once : (ts us : List Tree) → items_of ts ≡ items_of us → ts ≡ us
items_once [] [] e = refl
items_once [] (u ∷ us) e = absurd cc
items_once (t ∷ ts) [] e = absurd cc
items_once (t ∷ ts) (u ∷ us) e =
    let heads : t ≡ u = cc in
    let tails : items_of ts ≡ items_of us = cc in
    ap (λ x. x ∷ ts) heads ∙ ap (λ xs. u ∷ xs) (items_once ts us tails)

texts_same : (a b : List (List ℕ)) → map text a ≡ map text b → a ≡ b
texts_same [] [] e = refl
texts_same [] (y ∷ ys) e = absurd cc
texts_same (x ∷ xs) [] e = absurd cc
texts_same (x ∷ xs) (y ∷ ys) e =
    let heads : x ≡ y = cc in
    let tails : map text xs ≡ map text ys = cc in
    ap (λ t. t ∷ xs) heads ∙ ap (λ ts. y ∷ ts) (texts_same xs ys tails)

-- the values of the event's members, if the tree is the event's
pub values_are : (ms : List (List ℕ × Json)) (e : Event) → object (members_of (pairs_of ms)) ≡ event_tree e None
    → values_in ms ≡ map (λ m. m.1) (event_members e)
values_are ms e trees =
    let members : members_of (pairs_of ms) ≡ members_of (event_members e) = cc in
    ap (map (λ m. m.1)) (members_once (pairs_of ms) (event_members e) members)

pub parts_are : (ms : List (List ℕ × Json)) (p : Parts) (e : Event) → BeginsWith (values_in ms) p
    → object (members_of (pairs_of ms)) ≡ event_tree e None → ArePartsOf p e
parts_are ms p e begins trees = shown (sym begins.3 ∙ values_are ms e trees)
  where
    shown : text begins.0 ∷ text p.id ∷ text p.detail_type ∷ text p.source ∷ text p.account ∷ text p.time ∷ text begins.1
        ∷ list (items_of (trees_of p.resources.items)) ∷ tree_of p.detail ∷ begins.2 ≡ map (λ m. m.1) (event_members e) → ArePartsOf p e
    shown same =
        let items : items_of (trees_of p.resources.items) ≡ items_of (map text e.resources) = cc in
        record {
          id = cc;
          detail_type = cc;
          source = cc;
          account = cc;
          time = cc;
          resources = items_once (trees_of p.resources.items) (map text e.resources) items;
          detail = cc;
        }

abbrev EachValue : List Tree → Type 0
EachValue [] = Unit {0}
EachValue (t ∷ ts) = IsValue t × EachValue ts

abbrev EachWithin : ℕ → List Tree → Type 0
EachWithin n [] = Unit {0}
EachWithin n (t ∷ ts) = (tree_levels t ≤ n) × EachWithin n ts

each_value : (ms : List (List ℕ × Tree)) → AreMembers (members_of ms) → EachValue (map (λ m. m.1) ms)
each_value [] h = tt
each_value (m ∷ ms) h = (h.2, each_value ms h.3)

each_within : (n : ℕ) (ms : List (List ℕ × Tree)) → members_levels (members_of ms) ≤ n → EachWithin n (map (λ m. m.1) ms)
each_within n [] h = tt
each_within n (m ∷ ms) h = (omega (arith, h), each_within n ms (omega (arith, h)))

pub parts_valid : (ms : List (List ℕ × Json)) (p : Parts) → BeginsWith (values_in ms) p → IsValue (object (members_of (pairs_of ms)))
    → tree_levels (object (members_of (pairs_of ms))) ≤ 100 → AreValid p
parts_valid ms p (version, region, rest, is) value levels =
    let (v0, (v1, (detail_type, (source, (account, (v5, (v6, (resources, (detail, others))))))))) = subst EachValue is (each_value (pairs_of ms) value) in
    let (l0, (l1, (l2, (l3, (l4, (l5, (l6, (l7, (within, more))))))))) = subst (EachWithin 99) is (each_within 99 (pairs_of ms) (omega (arith, levels))) in
    record { detail_type = detail_type; source = source; account = account; resources = resources; detail = detail; detail_levels = within }

pub texts_utf8 : (ts : List (List ℕ)) → AreItems (items_of (map text ts)) → All IsUtf8 ts
texts_utf8 [] h = All-nil IsUtf8
texts_utf8 (t ∷ ts) h = All-cons IsUtf8 t ts h.0 (texts_utf8 ts h.1)

-- a list of texts has no value that is no text
pub not_texts : (before ts : List (List ℕ)) (x : Tree) (rest : List Tree) → ((t : List ℕ) → ¬ (x ≡ text t)) → map text before ++ x ∷ rest ≡ map text ts → ⊥
not_texts [] [] x rest h e = cc
not_texts [] (t ∷ ts) x rest h e = h t cc
not_texts (b ∷ bs) [] x rest h e = cc
not_texts (b ∷ bs) (t ∷ ts) x rest h e = let tails : map text bs ++ x ∷ rest ≡ map text ts = cc in not_texts bs ts x rest h tails

-- what an event's parts may be
pub allowed_as : (p : Parts) (e : Event) → IsEvent e → ArePartsOf p e
    → (p.source ≢ []) × (p.detail_type ≢ []) × (is_reserved p.source ≡ false) × IsObject (tree_of p.detail)
allowed_as p e (m, at) are = (
  λ x. at.content.source_some (sym are.source ∙ x),
  λ x. at.content.detail_type_some (sym are.detail_type ∙ x),
  ap is_reserved are.source ∙ at.content.unreserved,
  subst IsObject (sym are.detail) at.content.detail_object,
)

-- what was read is the event's
pub made_as : (p : Parts) (e : Event) (n : ℕ) (time : List ℕ) (resources : List (List ℕ)) → IsEvent e → ArePartsOf p e → n ≡ e.number → time ≡ e.time
    → trees_of p.resources.items ≡ map text resources
    → Some (event_from n p.detail_type p.source p.account time resources (tree_of p.detail)) ≡ Some e
made_as p e n time resources is are number shown texts =
    ap Some (same_event (event_from n p.detail_type p.source p.account time resources (tree_of p.detail)) e number are.detail_type are.source are.account shown
    (texts_same resources e.resources (sym texts ∙ are.resources)) are.detail)

-- the event that was made is the one whose text the bytes are
pub read_as : (bytes : List ℕ) (tree : Tree) (o : Option Event) → ((n : Node) → IsText 100 bytes n → tree ≡ value_of n)
    → ((e : Event) → IsEvent e → tree ≡ event_tree e None → o ≡ Some e)
    → (e : Event) → IsEventText bytes e → o ≡ Some e
read_as bytes tree o only made e p = let s = event_spelled bytes e p in made e p.is_event (only s.0 s.1 ∙ s.2)

pub found_as : {X : Type 0} (bytes : List ℕ) (event : Event) (r : Result (Option Event) X)
    → IfOk r (λ o. MatchOption o (¬ (IsEventText bytes event)) (λ e. (e ≡ event) × IsEventText bytes e))
    → ((e : Event) → IsEventText bytes e → Some event ≡ Some e)
    → IfOk r (λ o. MatchOption o ((e : Event) → ¬ (IsEventText bytes e)) (λ e. IsEventText bytes e))
found_as bytes event (Ok None) h same = λ e p. let is : event ≡ e = (let whole = same e p in cc) in h (subst (IsEventText bytes) (sym is) p)
found_as bytes event (Ok (Some e)) h same = h.1
found_as bytes event (Err x) h same = tt

pub only_as : {X : Type 0} (bytes : List ℕ) (r : Result (Option Event) X)
    → IfOk r (λ o. MatchOption o ((e : Event) → ¬ (IsEventText bytes e)) (λ e. IsEventText bytes e))
    → (e : Event) → IsEventText bytes e → IfOk r (λ o. o ≡ Some e)
only_as bytes (Ok None) h e p = absurd (h e p)
only_as bytes (Ok (Some f)) h e p = ap Some (event_once bytes f e h p)
only_as bytes (Err x) h e p = tt

pub none_as : {X : Type 0} (bytes : List ℕ) (fault : JsonFault) (r : Result (Option Event) X)
    → MatchResult r (λ o. (o ≡ None) × (fault ≢ NoMemory)) (λ _. fault ≡ NoMemory)
    → ((n : Node) → IsText 100 bytes n → fault ≡ NoMemory)
    → IfOk r (λ o. MatchOption o ((e : Event) → ¬ (IsEventText bytes e)) (λ e. IsEventText bytes e))
none_as bytes fault (Ok None) h only = λ e p. let s = event_spelled bytes e p in h.1 (only s.0 s.1)
none_as bytes fault (Ok (Some e)) h only = let no = h.0 in absurd cc
none_as bytes fault (Err x) h only = tt
