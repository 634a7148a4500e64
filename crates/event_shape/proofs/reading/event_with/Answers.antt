use Rattle.std.proofs.Common.{◌≡◌, ◌∙◌, Some, sym, subst}
use Rattle.json_text.specs.Tree.{items_of}
use Rattle.json_text.specs.Compact.{AreItems}
use Rattle.std.proofs.lemmas.Bool.{false≢true}
use Rattle.event_time.specs.Time.{IsTimeText, IsIso}
use Rattle.event_time.proofs.ClockLemmas.{iso_is_time, iso_once}
use Rattle.event_shape.proofs.PartLemmas.{allowed_as, made_as, texts_utf8}
use Rattle.event_shape.proofs.reading.event_with.Goals as goal

pub returns-then-not-are_allowed : goal.returns-then-not-are_allowed
returns-then-not-are_allowed c = λ e is are. absurd (false≢true (sym c.if-not-are_allowed.true ∙ c.are_allowed.ensures.1 (allowed_as c.args.parts e is are)))

pub returns-in_default : goal.returns-in_default
returns-in_default c = λ e is are.
    absurd (c.in_default.not-Some e.number (c.number_of.ensures.found e.number is.1.number (c.as_str.ensures ∙ are.id)))

pub returns-in_default-text_moment : goal.returns-in_default-text_moment
returns-in_default-text_moment c = λ e is are.
    let has = is.1 in
    let written = c.as_bytes.ensures.value ∙ c.as_str-2.ensures ∙ are.time in
    absurd (c.in_default-text_moment.not-Some is.0 ((c.text_moment.ensures is.0).1
    (has.is_moment, subst (λ t. IsTimeText t is.0) (sym written) (iso_is_time e.time is.0 has.time))))

pub iso-requires : goal.iso-requires
iso-requires c = ((c.text_moment.ensures c.in-Some-text_moment.moment).0 c.in-Some-text_moment.is).0

pub invariant_of-result : goal.invariant_of-result
invariant_of-result c =
    let (source_some, detail_type_some, unreserved, inside) = c.are_allowed.ensures.0 c.if-not-are_allowed.false in
    let valid = c.requires in
    let texts = rw c.in-Some-2.is at c.in_ok-resources.ensures in
    record {
      number = rw c.in-Some.is at c.number_of.ensures.fits;
      account = valid.account;
      is_moment = ((c.text_moment.ensures c.in-Some-text_moment.moment).0 c.in-Some-text_moment.is).0;
      time = c.in_ok-time.ensures.value;
      content = record {
        source_some = source_some;
        source_utf8 = valid.source;
        unreserved = unreserved;
        detail_type_some = detail_type_some;
        detail_type_utf8 = valid.detail_type;
        resources_utf8 = texts_utf8 c.in-Some-2.resources.items (subst (λ ts. AreItems (items_of ts)) texts valid.resources);
        detail_value = valid.detail;
        detail_object = inside;
        detail_levels = valid.detail_levels;
      };
    }

pub returns : goal.returns
returns c = λ e is are.
    let has = is.1 in
    let written = c.as_bytes.ensures.value ∙ c.as_str-2.ensures ∙ are.time in
    let found : c.number_of.result ≡ Some e.number = c.number_of.ensures.found e.number has.number (c.as_str.ensures ∙ are.id) in
    let at : c.text_moment.result ≡ Some is.0 =
    (c.text_moment.ensures is.0).1 (has.is_moment, subst (λ t. IsTimeText t is.0) (sym written) (iso_is_time e.time is.0 has.time)) in
    let number : c.in-Some.number ≡ e.number = (let is_some = c.in-Some.is in cc) in
    let same : c.in-Some-text_moment.moment ≡ is.0 = (let is_some = c.in-Some-text_moment.is in cc) in
    let shown = iso_once is.0 c.in_ok-time.time e.time (subst (λ m. IsIso m c.in_ok-time.time) same c.in_ok-time.ensures.value) has.time in
    made_as c.args.parts e c.in-Some.number c.in_ok-time.time c.in-Some-2.resources.items is are number shown (rw c.in-Some-2.is at c.in_ok-resources.ensures)
