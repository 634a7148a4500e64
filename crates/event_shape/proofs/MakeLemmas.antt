-- What an entry without a fault becomes: `checked_members` (what is left of it), `made_at` and `event_at` (the event).
use Rattle.std.proofs.Common.{◌≡◌, ℕ, Bool, true, false, not, IsTrue, ap, ◌∙◌, ◌<◌, ◌≤◌, ◌^◌, List, Option, Some, None, All, IfSome, sym, subst, refl, unwrap_or}
use Rattle.std.specs.Str.{IsUtf8}
use Rattle.json_text.specs.Moment.{IsMoment}
use Rattle.json_text.specs.Tree.{Tree, null, truth, number, text, list, object}
use Rattle.json_text.specs.Compact.{IsValue, tree_levels}
use Rattle.json_text.proofs.ValueLemmas.{text_is_value, text_within}
use Rattle.event_time.specs.Time.{IsIso}
use Rattle.event_shape.specs.Time.{IsTime}
use Rattle.event_shape.specs.Entry.{Entry}
use Rattle.event_shape.specs.Fault.{is_free, is_reserved, IsDetail}
use Rattle.event_shape.proofs.CheckLemmas.{some_bytes}
use Rattle.event_shape.specs.Event.{Event, Checked, IsTimeOf, IsUtf8IfGiven, HasTexts, IsCheckedOf, IsChecked, IsMade, IsEventAt}

time_is_moment : (tree : Tree) (n : ℕ) → IsTime tree n → IsMoment n
time_is_moment null n h = absurd h
time_is_moment (truth b) n h = absurd h
time_is_moment (number spelling) n h = h.0
time_is_moment (text t) n h = h.0
time_is_moment (list inside) n h = absurd h
time_is_moment (object inside) n h = absurd h

given_moment : (given : Option Tree) (time : Option ℕ) → IsTimeOf given time → IfSome time IsMoment
given_moment None time is = subst (λ t. IfSome t IsMoment) (sym is) tt
given_moment (Some tree) time (moment, is, shown) = subst (λ t. IfSome t IsMoment) (sym is) (time_is_moment tree moment shown)

value_of_detail : (bytes : List ℕ) (detail : Tree) → IsDetail bytes detail → IsValue detail
value_of_detail bytes detail (n, spelled, is, inside) = subst IsValue (sym is) (text_is_value 99 bytes n spelled)

detail_within : (bytes : List ℕ) (detail : Tree) → IsDetail bytes detail → tree_levels detail ≤ 99
detail_within bytes detail (n, spelled, is, inside) = subst (λ d. tree_levels d ≤ 99) (sym is) (text_within 99 bytes n spelled)

unreserved : (given : Option (List ℕ)) (s : List ℕ) → given ≡ Some s → IsTrue (is_free given) → is_reserved s ≡ false
unreserved given s is free = not_true (is_reserved s) (sym (ap is_free is) ∙ free)
  where
    not_true : (b : Bool) → not b ≡ true → b ≡ false
    not_true true e = absurd cc
    not_true false e = refl

-- what is left of an entry of UTF-8 texts without a fault
pub checked_members : (entry : Entry) (c : Checked) → HasTexts entry → IsCheckedOf entry c → IsChecked c
checked_members entry c texts is =
    let (bytes, given, detail) = is.detail in
    record {
      content = record {
        source_some = some_bytes entry.source c.source is.source is.faultless.0;
        source_utf8 = subst IsUtf8IfGiven is.source texts.source;
        unreserved = unreserved entry.source c.source is.source is.faultless.1.1.1.1.1.1.0;
        detail_type_some = some_bytes entry.detail_type c.detail_type is.detail_type is.faultless.1.0;
        detail_type_utf8 = subst IsUtf8IfGiven is.detail_type texts.detail_type;
        resources_utf8 = subst (All IsUtf8) is.resources texts.resources;
        detail_value = value_of_detail bytes c.detail detail;
        detail_object = detail.3;
        detail_levels = detail_within bytes c.detail detail;
      };
      time = given_moment entry.time c.time is.time;
    }

or_reading : (time : Option ℕ) (reading : ℕ) → IfSome time IsMoment → IsMoment reading → IsMoment (unwrap_or time reading)
or_reading None reading given fits = fits
or_reading (Some moment) reading given fits = given

pub moment_fits : (c : Checked) (reading : ℕ) → IsChecked c → IsMoment reading → IsMoment (unwrap_or c.time reading)
moment_fits c reading is fits = or_reading c.time reading is.time fits

abbrev event_with : Checked → ℕ → List ℕ → List ℕ → Event
event_with c n account time =
    record { number = n; detail_type = c.detail_type; source = c.source; account = account; time = time; resources = c.resources; detail = c.detail }

pub made_at : (c : Checked) (n reading moment : ℕ) (caller account time : List ℕ) → account ≡ caller → moment ≡ unwrap_or c.time reading → IsIso moment time
    → IsMade c n reading caller (event_with c n account time)
made_at c n reading moment caller account time same is shown = record {
  number = refl;
  detail_type = refl;
  source = refl;
  account = same;
  time = subst (λ m. IsIso m time) is shown;
  resources = refl;
  detail = refl;
}

pub event_at : (c : Checked) (n reading moment : ℕ) (caller account time : List ℕ) → IsChecked c → n < 2 ^ 64 → IsMoment reading → IsUtf8 caller
    → account ≡ caller
    → moment ≡ unwrap_or c.time reading → IsIso moment time
    → IsEventAt moment (event_with c n account time)
event_at c n reading moment caller account time checked fits read utf8 same is shown = record {
  number = fits;
  account = subst IsUtf8 (sym same) utf8;
  is_moment = subst IsMoment (sym is) (moment_fits c reading checked read);
  time = shown;
  content = checked.content;
}
