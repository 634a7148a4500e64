-- Values (`text_value`, `list_value`, `object_value`, `number_value`), and lists and objects that grow at their ends: `one_item`,
-- `another_item`, `one_text`, `another_text`, `one_member`, `another_member`.
use Rattle.std.proofs.Common.{◌≡◌, ◌≢◌, ℕ, ◌≤◌, ◌-◌, ◌==◌, ◌||◌, Bool, true, false, List, [], ◌∷◌, ◌++◌, map, flat_map, refl, sym, ap, subst, ◌∙◌, arith, append_assoc}
use Rattle.std.proofs.lemmas.Bool.{false≢true}
use Rattle.std.proofs.lemmas.Bool.Decides.{nat_tests}
use Rattle.std.proofs.lemmas.List.{append-nil, map_push}
use Rattle.std.specs.List.{list_any}
use Rattle.std.specs.Str.{IsUtf8}
use Rattle.json_text.specs.Number.{IsNumber}
use Rattle.json_text.specs.Tree.{Tree, number, text, list, object, items_of, members_of}
use Rattle.json_text.specs.Compact.{compact_text, items_text, more_items_text, members_text, more_members_text, quoted, escape}
use Rattle.json_text.specs.Compact.{IsValue, AreItems, AreMembers, LacksKey, tree_levels, items_levels, members_levels}
use Rattle.event_text.specs.Written.{Begins, BeginsText, BeginsValue, BeginsItems, BeginsMember, BeginsMembers, hash_of}

pub text_value : (levels : ℕ) (t whole bytes rest : List ℕ) → whole ≡ 34 ∷ bytes → BeginsText t bytes (34 ∷ rest) → BeginsValue levels (text t) whole rest
text_value levels t whole bytes rest is p = record {
  value = p.utf8;
  within = omega arith;
  written = is ∙ ap (λ x. 34 ∷ x) (p.written ∙ sym (append_assoc (flat_map escape t) (34 ∷ []) rest));
}

pub number_value : (levels : ℕ) (bytes rest : List ℕ) → (n : Begins IsNumber bytes rest) → BeginsValue levels (number n.front) bytes rest
number_value levels bytes rest n = record { value = n.has; within = omega arith; written = n.written }

pub list_value : (levels below : ℕ) (ts : List Tree) (whole bytes rest : List ℕ) → whole ≡ 91 ∷ bytes → 1 ≤ levels → below ≡ levels - 1
    → BeginsItems below ts bytes (93 ∷ rest) → BeginsValue levels (list (items_of ts)) whole rest
list_value levels below ts whole bytes rest is some less p = record {
  value = p.items;
  within = omega (arith, p.within);
  written = is ∙ ap (λ x. 91 ∷ x) (p.written ∙ sym (append_assoc (items_text (items_of ts)) (93 ∷ []) rest));
}

pub object_value : (levels below : ℕ) (ms : List (List ℕ × Tree)) (whole bytes rest : List ℕ) → whole ≡ 123 ∷ bytes → 1 ≤ levels → below ≡ levels - 1
    → BeginsMembers below ms bytes (125 ∷ rest) → BeginsValue levels (object (members_of ms)) whole rest
object_value levels below ms whole bytes rest is some less p = record {
  value = p.members;
  within = omega (arith, p.within);
  written = is ∙ ap (λ x. 123 ∷ x) (p.written ∙ sym (append_assoc (members_text (members_of ms)) (125 ∷ []) rest));
}

-- items
items_joined : (ts : List Tree) (t : Tree) → more_items_text (items_of (ts ++ t ∷ [])) ≡ more_items_text (items_of ts) ++ 44 ∷ compact_text t
items_joined [] t = ap (λ x. 44 ∷ x) (append-nil (compact_text t))
items_joined (u ∷ us) t = ap (λ x. 44 ∷ (compact_text u ++ x)) (items_joined us t)
    ∙ ap (λ x. 44 ∷ x) (sym (append_assoc (compact_text u) (more_items_text (items_of us)) (44 ∷ compact_text t)))

are_items_joined : (ts : List Tree) (t : Tree) → AreItems (items_of ts) → IsValue t → AreItems (items_of (ts ++ t ∷ []))
are_items_joined [] t a v = (v, tt)
are_items_joined (u ∷ us) t a v = (a.0, are_items_joined us t a.1 v)

items_levels_joined : (n : ℕ) (ts : List Tree) (t : Tree) → items_levels (items_of ts) ≤ n → tree_levels t ≤ n → items_levels (items_of (ts ++ t ∷ [])) ≤ n
items_levels_joined n [] t a b = omega arith
items_levels_joined n (u ∷ us) t a b = let rest : items_levels (items_of (us ++ t ∷ [])) ≤ n = items_levels_joined n us t (omega arith) b in omega arith

pub no_items_begin : (levels : ℕ) (bytes : List ℕ) → BeginsItems levels [] bytes bytes
no_items_begin levels bytes = record { items = tt; within = omega arith; written = refl }

pub one_item : (levels : ℕ) (t : Tree) (bytes left : List ℕ) → BeginsValue levels t bytes left → BeginsItems levels (t ∷ []) bytes left
one_item levels t bytes left v = record {
  items = (v.value, tt);
  within = omega (arith, v.within);
  written = v.written ∙ ap (λ x. x ++ left) (sym (append-nil (compact_text t)));
}

pub another_item : (levels : ℕ) (first t : Tree) (ts : List Tree) (bytes left next rest : List ℕ) → BeginsItems levels (first ∷ ts) bytes left → left ≡ 44 ∷ next
    → BeginsValue levels t next rest → BeginsItems levels (first ∷ (ts ++ t ∷ [])) bytes rest
another_item levels first t ts bytes left next rest p is v =
    let front = compact_text first in
    let more = more_items_text (items_of ts) in
    let item : List ℕ = 44 ∷ compact_text t in
    let whole : front ++ more_items_text (items_of (ts ++ t ∷ [])) ≡ (front ++ more) ++ item =
    ap (λ x. front ++ x) (items_joined ts t) ∙ sym (append_assoc front more item) in
    record {
      items = are_items_joined (first ∷ ts) t p.items v.value;
      within = items_levels_joined levels (first ∷ ts) t p.within v.within;
      written = p.written ∙ ap (λ x. (front ++ more) ++ x) (is ∙ ap (λ x. 44 ∷ x) v.written) ∙ sym (append_assoc (front ++ more) item rest)
          ∙ ap (λ x. x ++ rest) (sym whole);
    }

pub items_moved : {levels : ℕ} {ts : List Tree} {bytes whole rest : List ℕ} → BeginsItems levels ts bytes rest → whole ≡ bytes → BeginsItems levels ts whole rest
items_moved p same = record { items = p.items; within = p.within; written = same ∙ p.written }

-- items that are texts
pub one_text : (t bytes left : List ℕ) → BeginsText t bytes (34 ∷ left) → BeginsItems 0 (map text (t ∷ [])) (34 ∷ bytes) left
one_text t bytes left p = one_item 0 (text t) (34 ∷ bytes) left (text_value 0 t (34 ∷ bytes) bytes left refl p)

pub another_text : (t u : List ℕ) (ts : List (List ℕ)) (bytes left next rest : List ℕ) → BeginsItems 0 (map text (t ∷ ts)) bytes left → left ≡ 44 ∷ 34 ∷ next
    → BeginsText u next (34 ∷ rest) → BeginsItems 0 (map text (t ∷ (ts ++ u ∷ []))) bytes rest
another_text t u ts bytes left next rest p is q =
    subst (λ items. BeginsItems 0 (text t ∷ items) bytes rest) (sym (map_push text ts u))
    (another_item 0 (text t) (text u) (map text ts) bytes left (34 ∷ next) rest p is (text_value 0 u (34 ∷ next) next rest refl q))

-- members
more_joined : (ms : List (List ℕ × Tree)) (key : List ℕ) (t : Tree)
    → more_members_text (members_of (ms ++ (key, t) ∷ [])) ≡ more_members_text (members_of ms) ++ 44 ∷ (quoted key ++ 58 ∷ compact_text t)
more_joined [] key t = ap (λ x. 44 ∷ (quoted key ++ 58 ∷ x)) (append-nil (compact_text t))
more_joined (m ∷ ms) key t =
    let more = more_members_text (members_of ms) in
    let added : List ℕ = 44 ∷ (quoted key ++ 58 ∷ compact_text t) in
    ap (λ x. 44 ∷ (quoted m.0 ++ 58 ∷ (compact_text m.1 ++ x))) (more_joined ms key t)
    ∙ ap (λ x. 44 ∷ (quoted m.0 ++ 58 ∷ x)) (sym (append_assoc (compact_text m.1) more added))
    ∙ ap (λ x. 44 ∷ x) (sym (append_assoc (quoted m.0) (58 ∷ (compact_text m.1 ++ more)) added))

members_joined : (m : List ℕ × Tree) (ms : List (List ℕ × Tree)) (key : List ℕ) (t : Tree)
    → members_text (members_of (m ∷ (ms ++ (key, t) ∷ []))) ≡ members_text (members_of (m ∷ ms)) ++ 44 ∷ (quoted key ++ 58 ∷ compact_text t)
members_joined m ms key t =
    let more = more_members_text (members_of ms) in
    let added : List ℕ = 44 ∷ (quoted key ++ 58 ∷ compact_text t) in
    ap (λ x. quoted m.0 ++ 58 ∷ (compact_text m.1 ++ x)) (more_joined ms key t)
    ∙ ap (λ x. quoted m.0 ++ 58 ∷ x) (sym (append_assoc (compact_text m.1) more added))
    ∙ sym (append_assoc (quoted m.0) (58 ∷ (compact_text m.1 ++ more)) added)

lacks_joined : (k key : List ℕ) (t : Tree) (ms : List (List ℕ × Tree)) → k ≢ key → LacksKey k (members_of ms) → LacksKey k (members_of (ms ++ (key, t) ∷ []))
lacks_joined k key t [] apart h = (apart, tt)
lacks_joined k key t (m ∷ ms) apart h = (h.0, lacks_joined k key t ms apart h.1)

-- the key is none of theirs
abbrev OtherKeys : List ℕ → List (List ℕ × Tree) → Type 0
OtherKeys key [] = Unit {0}
OtherKeys key (m ∷ ms) = (m.0 ≢ key) × OtherKeys key ms

are_members_joined : (ms : List (List ℕ × Tree)) (key : List ℕ) (t : Tree) → AreMembers (members_of ms) → OtherKeys key ms → IsUtf8 key → IsValue t
    → AreMembers (members_of (ms ++ (key, t) ∷ []))
are_members_joined [] key t a o u v = (u, tt, v, tt)
are_members_joined (m ∷ ms) key t a o u v = (a.0, lacks_joined m.0 key t ms o.0 a.1, a.2, are_members_joined ms key t a.3 o.1 u v)

members_levels_joined : (n : ℕ) (ms : List (List ℕ × Tree)) (key : List ℕ) (t : Tree) → members_levels (members_of ms) ≤ n → tree_levels t ≤ n
    → members_levels (members_of (ms ++ (key, t) ∷ [])) ≤ n
members_levels_joined n [] key t a b = omega arith
members_levels_joined n (m ∷ ms) key t a b =
    let rest : members_levels (members_of (ms ++ (key, t) ∷ [])) ≤ n = members_levels_joined n ms key t (omega arith) b in omega arith

-- the hashes of the keys
abbrev pub hashes_of : List (List ℕ × Tree) → List ℕ
hashes_of = map (λ m. hash_of m.0)

or_false : (a b : Bool) → (a || b) ≡ false → (a ≡ false) × (b ≡ false)
or_false false b h = (refl, h)
or_false true b h = absurd (false≢true (sym h))

same_hash : (a b : ℕ) → (a == b) ≡ false → a ≢ b
same_hash a b h = grind (arith, nat_tests)

other_keys : (key : List ℕ) (ms : List (List ℕ × Tree)) → list_any (λ h. h == hash_of key) (hashes_of ms) ≡ false → OtherKeys key ms
other_keys key [] h = tt
other_keys key (m ∷ ms) h =
    let parts = or_false (hash_of m.0 == hash_of key) (list_any (λ x. x == hash_of key) (hashes_of ms)) h in
    (λ same. same_hash (hash_of m.0) (hash_of key) parts.0 (ap hash_of same), other_keys key ms parts.1)

pub no_members_begin : (levels : ℕ) (bytes : List ℕ) → BeginsMembers levels [] bytes bytes
no_members_begin levels bytes = record { members = tt; within = omega arith; written = refl }

pub one_member : (levels : ℕ) (old new bytes left : List ℕ) → old ≡ [] → (b : BeginsMember levels old new bytes left)
    → BeginsMembers levels ((b.key, b.tree) ∷ []) bytes left × (new ≡ hashes_of ((b.key, b.tree) ∷ []))
one_member levels old new bytes left none b = (
  record {
    members = (b.utf8, tt, b.value, tt);
    within = omega (arith, b.within);
    written = b.written ∙ ap (λ x. quoted b.key ++ 58 ∷ x) (ap (λ x. x ++ left) (sym (append-nil (compact_text b.tree))))
        ∙ sym (append_assoc (quoted b.key) (58 ∷ (compact_text b.tree ++ [])) left);
  },
  b.hashed ∙ ap (λ x. x ++ hash_of b.key ∷ []) none,
)

pub another_member : (levels : ℕ) (m : List ℕ × Tree) (ms : List (List ℕ × Tree)) (old new bytes left next rest : List ℕ) → BeginsMembers levels (m ∷ ms) bytes left
    → old ≡ hashes_of (m ∷ ms) → left ≡ 44 ∷ 34 ∷ next → (b : BeginsMember levels old new (34 ∷ next) rest)
    → BeginsMembers levels (m ∷ (ms ++ (b.key, b.tree) ∷ [])) bytes rest × (new ≡ hashes_of (m ∷ (ms ++ (b.key, b.tree) ∷ [])))
another_member levels m ms old new bytes left next rest p hashed is b =
    let front = members_text (members_of (m ∷ ms)) in
    let added : List ℕ = 44 ∷ (quoted b.key ++ 58 ∷ compact_text b.tree) in
    let other = other_keys b.key (m ∷ ms) (ap (list_any (λ h. h == hash_of b.key)) (sym hashed) ∙ b.other) in
    let tail : left ≡ added ++ rest =
    is ∙ ap (λ x. 44 ∷ x) (b.written ∙ sym (append_assoc (quoted b.key) (58 ∷ compact_text b.tree) rest)) in (
      record {
        members = are_members_joined (m ∷ ms) b.key b.tree p.members other b.utf8 b.value;
        within = members_levels_joined levels (m ∷ ms) b.key b.tree p.within b.within;
        written = p.written ∙ ap (λ x. front ++ x) tail ∙ sym (append_assoc front added rest) ∙ ap (λ x. x ++ rest) (sym (members_joined m ms b.key b.tree));
      },
      b.hashed ∙ ap (λ x. x ++ hash_of b.key ∷ []) hashed ∙ sym (map_push (λ (x : List ℕ × Tree). hash_of x.0) (m ∷ ms) (b.key, b.tree)),
    )
