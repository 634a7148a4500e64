-- The events are exactly what entries without a fault become: `event_is_made`, `made_is_event`.
use Rattle.std.proofs.Common.{◌≡◌, ℕ, ◌<◌, ◌^◌, Some, None, List, not, sym, ap, subst, refl, unwrap_or}
use Rattle.std.specs.Str.{IsUtf8}
use Rattle.json_text.specs.Moment.{IsMoment}
use Rattle.json_text.specs.Compact.{compact_text}
use Rattle.json_text.specs.Checks.{AllHold}
use Rattle.event_shape.specs.Names.{default_bus}
use Rattle.event_shape.specs.Entry.{Entry}
use Rattle.event_shape.specs.Fault.{IsDetail, entry_checks}
use Rattle.event_shape.specs.Event.{Event, Checked, HasTexts, IsCheckedOf, IsContent, IsMade, IsEvent}
use Rattle.event_shape.proofs.CheckLemmas.{text_some}
use Rattle.event_shape.proofs.MakeLemmas.{checked_members, moment_fits}
use Rattle.event_shape.proofs.OnceLemmas.{detail_spelled, detail_once}

abbrev entry_with : Event → Entry
entry_with e = record {
  time = None;
  source = Some e.source;
  resources = e.resources;
  detail_type = Some e.detail_type;
  detail = Some (compact_text e.detail);
  bus = None;
}

abbrev checked_with : Event → Checked
checked_with e = record { source = e.source; detail_type = e.detail_type; resources = e.resources; time = None; detail = e.detail; bus = default_bus }

abbrev Content : Event → Type 0
Content e = IsContent e.source e.detail_type e.resources e.detail

own_detail : (e : Event) → Content e → IsDetail (compact_text e.detail) e.detail
own_detail e h = detail_spelled e.detail h.detail_value h.detail_object h.detail_levels

faultless : (e : Event) → Content e → AllHold (entry_checks (entry_with e))
faultless e h = (text_some e.source h.source_some, (text_some e.detail_type h.detail_type_some, (refl, (tt, (refl, ((e.detail, own_detail e h), (ap not h.unreserved, tt)))))))

checked_of_event : (e : Event) → Content e → IsCheckedOf (entry_with e) (checked_with e)
checked_of_event e h = record {
  faultless = faultless e h;
  source = refl;
  detail_type = refl;
  resources = refl;
  time = refl;
  detail = (compact_text e.detail, refl, own_detail e h);
  only = λ bytes tree given is.
      let same : bytes ≡ compact_text e.detail = cc in
      detail_once (compact_text e.detail) tree e.detail (subst (λ b. IsDetail b tree) same is) (own_detail e h);
  bus = refl;
}

pub event_is_made : (e : Event) → IsEvent e → (entry : Entry) × (c : Checked) × (reading : ℕ)
    × HasTexts entry × IsCheckedOf entry c × IsMoment reading × IsMade c e.number reading e.account e
event_is_made e (moment, at) = (
  entry_with e,
  checked_with e,
  moment,
  record { source = at.content.source_utf8; detail_type = at.content.detail_type_utf8; resources = at.content.resources_utf8 },
  checked_of_event e at.content,
  at.is_moment,
  record { number = refl; detail_type = refl; source = refl; account = refl; time = at.time; resources = refl; detail = refl },
)

content_of : (c : Checked) (n reading : ℕ) (account : List ℕ) (e : Event) → IsMade c n reading account e
    → IsContent c.source c.detail_type c.resources c.detail → Content e
content_of c n reading account e made h = rw (made.source, made.detail_type, made.resources, made.detail) h

pub made_is_event : (entry : Entry) (c : Checked) (n reading : ℕ) (account : List ℕ) (e : Event)
    → HasTexts entry → IsCheckedOf entry c → n < 2 ^ 64 → IsMoment reading → IsUtf8 account → IsMade c n reading account e → IsEvent e
made_is_event entry c n reading account e texts is fits read utf8 made =
    let checked = checked_members entry c texts is in (
      unwrap_or c.time reading,
      record {
        number = subst (λ m. m < 2 ^ 64) (sym made.number) fits;
        account = subst IsUtf8 (sym made.account) utf8;
        is_moment = moment_fits c reading checked read;
        time = made.time;
        content = content_of c n reading account e made checked.content;
      },
    )
