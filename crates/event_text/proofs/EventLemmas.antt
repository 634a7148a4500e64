-- The text of an event from its end: `closed_text`, `closed_by` and `opened_by` add a member before what closes the object; `event_begins`
-- puts all members together. The texts of an event: `time_is_iso`, `free_source`, `not_empty`.
use Rattle.std.proofs.Common.{◌≡◌, ◌≢◌, ℕ, ◌+◌, ◌<◌, ◌≤◌, ◌^◌, false, true, Bool, List, [], ◌∷◌, ◌++◌, length, drop, map, flat_map, codes, refl, sym, ap, ◌∙◌, arith, append_assoc}
use Rattle.std.proofs.lemmas.Bool.Decides.{Decides-eqb}
use Rattle.std.proofs.lemmas.List.{length-append}
use Rattle.std.proofs.lemmas.Slice.Eq.{starts_is}
use Rattle.std.specs.Prelude.{IsTrue}
use Rattle.json_text.specs.Moment.{IsMoment}
use Rattle.json_text.specs.Tree.{Tree, text, list, object, items_of, members_of}
use Rattle.json_text.specs.Compact.{compact_text, items_text, members_text, more_members_text, quoted, escape}
use Rattle.event_time.specs.Time.{IsIso, IsTimeText, IsTimeSecfrac}
use Rattle.event_time.specs.Clock.{digits_text}
use Rattle.event_time.proofs.ClockLemmas.{text_shows, civil_text}
use Rattle.event_shape.specs.Id.{event_id}
use Rattle.event_shape.specs.Names.{is_account, region}
use Rattle.event_shape.specs.Fault.{is_reserved}
use Rattle.event_shape.specs.Event.{Event}
use Rattle.event_shape.proofs.PartLemmas.{texts_utf8}
use Rattle.event_text.specs.Written.{BeginsText, BeginsItems, BeginsMembers, BeginsEvent}

-- the members that are left, the brace and the rest
abbrev closed : List (List ℕ × Tree) → List ℕ → List ℕ
closed ms rest = more_members_text (members_of ms) ++ 125 ∷ rest

-- a member before them
closed_by : (key : List ℕ) (t : Tree) (ms : List (List ℕ × Tree)) (bytes value left rest : List ℕ) → bytes ≡ 44 ∷ (quoted key ++ 58 ∷ value)
    → value ≡ compact_text t ++ left → left ≡ closed ms rest → bytes ≡ closed ((key, t) ∷ ms) rest
closed_by key t ms bytes value left rest is written more =
    let front = compact_text t in
    let others = more_members_text (members_of ms) in
    let whole : value ≡ (front ++ others) ++ 125 ∷ rest = written ∙ ap (λ x. front ++ x) more ∙ sym (append_assoc front others (125 ∷ rest)) in
    is ∙ ap (λ x. 44 ∷ (quoted key ++ 58 ∷ x)) whole ∙ ap (λ x. 44 ∷ x) (sym (append_assoc (quoted key) (58 ∷ (front ++ others)) (125 ∷ rest)))

text_written : (t bytes rest : List ℕ) → BeginsText t bytes (34 ∷ rest) → 34 ∷ bytes ≡ compact_text (text t) ++ rest
text_written t bytes rest p = ap (λ x. 34 ∷ x) (p.written ∙ sym (append_assoc (flat_map escape t) (34 ∷ []) rest))

closed_text : (key t : List ℕ) (ms : List (List ℕ × Tree)) (bytes inside left rest : List ℕ) → bytes ≡ 44 ∷ (quoted key ++ 58 ∷ 34 ∷ inside)
    → BeginsText t inside (34 ∷ left) → left ≡ closed ms rest → bytes ≡ closed ((key, text t) ∷ ms) rest
closed_text key t ms bytes inside left rest is written more = closed_by key (text t) ms bytes (34 ∷ inside) left rest is (text_written t inside left written) more

-- the first member, after the brace
opened_by : (key : List ℕ) (t : Tree) (ms : List (List ℕ × Tree)) (bytes value left rest : List ℕ) → bytes ≡ 123 ∷ (quoted key ++ 58 ∷ value)
    → value ≡ compact_text t ++ left → left ≡ closed ms rest → bytes ≡ compact_text (object (members_of ((key, t) ∷ ms))) ++ rest
opened_by key t ms bytes value left rest is written more =
    let front = compact_text t in
    let others = more_members_text (members_of ms) in
    let whole : value ≡ (front ++ others) ++ 125 ∷ rest = written ∙ ap (λ x. front ++ x) more ∙ sym (append_assoc front others (125 ∷ rest)) in
    let inside : List ℕ = quoted key ++ 58 ∷ (front ++ others) in
    is ∙ ap (λ x. 123 ∷ (quoted key ++ 58 ∷ x)) whole ∙ ap (λ x. 123 ∷ x) (sym (append_assoc (quoted key) (58 ∷ (front ++ others)) (125 ∷ rest))
    ∙ sym (append_assoc inside (125 ∷ []) rest))

list_written : (ts : List Tree) (bytes rest : List ℕ) → bytes ≡ items_text (items_of ts) ++ 93 ∷ rest → 91 ∷ bytes ≡ compact_text (list (items_of ts)) ++ rest
list_written ts bytes rest e = ap (λ x. 91 ∷ x) (e ∙ sym (append_assoc (items_text (items_of ts)) (93 ∷ []) rest))

object_written : (ms : List (List ℕ × Tree)) (bytes rest : List ℕ) → bytes ≡ members_text (members_of ms) ++ 125 ∷ rest
    → 123 ∷ bytes ≡ compact_text (object (members_of ms)) ++ rest
object_written ms bytes rest e = ap (λ x. 123 ∷ x) (e ∙ sym (append_assoc (members_text (members_of ms)) (125 ∷ []) rest))

-- a time of 20 bytes has no fraction
short_tail : (fraction rest : List ℕ) → IsTimeSecfrac fraction → rest ≡ fraction ++ codes "Z" → length rest ≡ 1 → rest ≡ codes "Z"
short_tail [] rest is e long = e
short_tail (b ∷ bs) rest is e long = absurd (omega (arith, ap length e, length-append bs (codes "Z"), long))

pub time_is_iso : (t : List ℕ) (moment : ℕ) → length t ≡ 20 → IsTimeText t moment → IsIso moment t
time_is_iso t moment long is =
    let s = text_shows t moment is in
    let tail = s.3 in
    let left : length s.1 ≡ 1 = omega (arith, long, ap length s.2.written) in
    let z = short_tail tail.0 s.1 tail.1 tail.2 left in
    let shown = s.4 in
    (shown.0, shown.1, s.2.written ∙ ap (digits_text s.0) z ∙ sym (civil_text shown.0 s.0 (codes "Z") shown.2 shown.1.whole))

-- a reserved source is seen by its first bytes
pub reserved_begins : (t : List ℕ) → is_reserved t ≡ true → (rest : List ℕ) × (flat_map escape t ≡ 97 ∷ 119 ∷ 115 ∷ 46 ∷ rest)
reserved_begins t h =
    let is : t ≡ codes "aws." ++ drop 4 t = (starts_is Decides-eqb t (codes "aws.") (is_reserved t) refl).0 h in
    (flat_map escape (drop 4 t), ap (flat_map escape) is)

by_test : {G : Type 0} (b : Bool) → (b ≡ true → G) → (b ≡ false → G) → G
by_test true t f = t refl
by_test false t f = f refl

pub free_source : (t bytes rest : List ℕ) → BeginsText t bytes (34 ∷ rest) → ((more : List ℕ) → ¬ (bytes ≡ codes "aws." ++ more)) → is_reserved t ≡ false
free_source t bytes rest p none = by_test (is_reserved t)
    (λ h. let begins = reserved_begins t h in
    absurd (none (begins.0 ++ 34 ∷ rest) (p.written ∙ ap (λ x. x ++ 34 ∷ rest) begins.1)))
    (λ h. h)

-- a string that does not end at once is not empty
pub not_empty : (t bytes rest : List ℕ) → BeginsText t bytes (34 ∷ rest) → ((more : List ℕ) → ¬ (bytes ≡ 34 ∷ more)) → t ≢ []
not_empty t bytes rest p none e = none rest (p.written ∙ ap (λ x. flat_map escape x ++ 34 ∷ rest) e)

-- all members
pub event_begins : (bytes a1 b1 a2 b2 a3 b3 a4 b4 a5 b5 a6 b6 a7 b7 rest : List ℕ)
    (number moment : ℕ) (detail_type source account time : List ℕ) (resources : List (List ℕ)) (ms : List (List ℕ × Tree))
    → bytes ≡ codes "{\"version\":\"0\",\"id\":\"" ++ a1 → BeginsText (event_id number) a1 (34 ∷ b1) → 1 ≤ number → number < 2 ^ 64
    → b1 ≡ codes ",\"detail-type\":\"" ++ a2 → BeginsText detail_type a2 (34 ∷ b2) → detail_type ≢ []
    → b2 ≡ codes ",\"source\":\"" ++ a3 → BeginsText source a3 (34 ∷ b3) → source ≢ [] → is_reserved source ≡ false
    → b3 ≡ codes ",\"account\":\"" ++ a4 → BeginsText account a4 (34 ∷ b4) → IsTrue (is_account account)
    → b4 ≡ codes ",\"time\":\"" ++ a5 → BeginsText time a5 (34 ∷ b5) → IsMoment moment → IsIso moment time
    → b5 ≡ codes ",\"region\":\"us-east-1\",\"resources\":[" ++ a6 → BeginsItems 0 (map text resources) a6 (93 ∷ b6)
    → b6 ≡ codes ",\"detail\":{" ++ a7 → BeginsMembers 98 ms a7 (125 ∷ b7)
    → b7 ≡ codes "}" ++ rest
    → BeginsEvent bytes rest
event_begins bytes a1 b1 a2 b2 a3 b3 a4 b4 a5 b5 a6 b6 a7 b7 rest number moment detail_type source account time resources ms
    e1 id some small e2 type_text type_some e3 source_text source_some free e4 account_text digits e5 time_text is_moment iso e6 items e7 members e8 =
    let detail = object (members_of ms) in
    let m7 : List (List ℕ × Tree) = (codes "detail", detail) ∷ [] in
    let m6 : List (List ℕ × Tree) = (codes "resources", list (items_of (map text resources))) ∷ m7 in
    let m5 : List (List ℕ × Tree) = (codes "region", text region) ∷ m6 in
    let m4 : List (List ℕ × Tree) = (codes "time", text time) ∷ m5 in
    let m3 : List (List ℕ × Tree) = (codes "account", text account) ∷ m4 in
    let m2 : List (List ℕ × Tree) = (codes "source", text source) ∷ m3 in
    let m1 : List (List ℕ × Tree) = (codes "detail-type", text detail_type) ∷ m2 in
    let m0 : List (List ℕ × Tree) = (codes "id", text (event_id number)) ∷ m1 in
    let c7 : b6 ≡ closed m7 rest = closed_by (codes "detail") detail [] b6 (123 ∷ a7) b7 rest e7 (object_written ms a7 b7 members.written) e8 in
    let c6 : codes ",\"resources\":[" ++ a6 ≡ closed m6 rest =
    closed_by (codes "resources") (list (items_of (map text resources))) m7 (codes ",\"resources\":[" ++ a6) (91 ∷ a6) b6 rest refl
    (list_written (map text resources) a6 b6 items.written) c7 in
    let c5 : b5 ≡ closed m5 rest =
    closed_by (codes "region") (text region) m6 b5 (codes "\"us-east-1\"" ++ (codes ",\"resources\":[" ++ a6)) (codes ",\"resources\":[" ++ a6) rest e6 refl c6 in
    let c4 : b4 ≡ closed m4 rest = closed_text (codes "time") time m5 b4 a5 b5 rest e5 time_text c5 in
    let c3 : b3 ≡ closed m3 rest = closed_text (codes "account") account m4 b3 a4 b4 rest e4 account_text c4 in
    let c2 : b2 ≡ closed m2 rest = closed_text (codes "source") source m3 b2 a3 b3 rest e3 source_text c3 in
    let c1 : b1 ≡ closed m1 rest = closed_text (codes "detail-type") detail_type m2 b1 a2 b2 rest e2 type_text c2 in
    let c0 : codes ",\"id\":\"" ++ a1 ≡ closed m0 rest =
    closed_text (codes "id") (event_id number) m1 (codes ",\"id\":\"" ++ a1) a1 b1 rest refl id c1 in
    let e : Event = record {
      number = number;
      detail_type = detail_type;
      source = source;
      account = account;
      time = time;
      resources = resources;
      detail = detail;
    } in
    record {
      event = e;
      is_event = (
        moment,
        record {
          number = small;
          account = account_text.utf8;
          is_moment = is_moment;
          time = iso;
          content = record {
            source_some = source_some;
            source_utf8 = source_text.utf8;
            unreserved = free;
            detail_type_some = type_some;
            detail_type_utf8 = type_text.utf8;
            resources_utf8 = texts_utf8 resources items.items;
            detail_value = members.members;
            detail_object = refl;
            detail_levels = omega (arith, members.within);
          };
        },
      );
      number = some;
      account = digits;
      written = opened_by (codes "version") (text (codes "0")) m0 bytes (codes "\"0\"" ++ (codes ",\"id\":\"" ++ a1)) (codes ",\"id\":\"" ++ a1) rest e1 refl c0;
    }
