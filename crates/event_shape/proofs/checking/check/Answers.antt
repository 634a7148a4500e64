use Rattle.std.proofs.Common.{◌≡◌, ◌∙◌, inl, inr, Some, None, is_some, sym, ap, subst, refl, All}
use Rattle.std.specs.Str.{IsUtf8}
use Rattle.json_text.specs.View.{tree_of}
use Rattle.event_shape.specs.declared.entry.EntryFault.TheVariants.{Source, DetailType, Detail, Time, Bus, Malformed, NotAuthorized}
use Rattle.event_shape.specs.Entry.{entry_of}
use Rattle.event_shape.specs.Names.{bus_of_entry}
use Rattle.json_text.specs.Checks.{IsFirst}
use Rattle.event_shape.specs.Fault.{IsDetail, GivesDetail, entry_checks}
use Rattle.event_shape.specs.Event.{Checked, IsCheckedOf, IsUtf8IfGiven}
use Rattle.event_shape.proofs.CheckLemmas.{Passes, checked, reserved, only_here, beyond, exits, found_in, some_given, gives_moment, none_given}
use Rattle.event_shape.proofs.MakeLemmas.{checked_members}
use Rattle.event_shape.proofs.checking.check.Goals as goal

pub returns-in_err-source-clause-before_memory : goal.returns-in_err-source-clause-before_memory
returns-in_err-source-clause-before_memory c = λ f is.
    let (found, fails) = c.in_err-source.ensures in
    exits c.from_residual.result c.in_err-source.field-0.0 f Source c.from_residual.ensures.1 found (only_here fails is)

pub returns-in_err-detail_type-clause-before_memory : goal.returns-in_err-detail_type-clause-before_memory
returns-in_err-detail_type-clause-before_memory c = λ f is.
    let (found, fails) = c.in_err-detail_type.ensures in
    exits c.from_residual-in_err-detail_type.result c.in_err-detail_type.field-0.0 f DetailType c.from_residual-in_err-detail_type.ensures.1 found
    (only_here fails (beyond c.in_ok-source.ensures.1 is))

pub returns-in_err-detail-clause-before_memory : goal.returns-in_err-detail-clause-before_memory
returns-in_err-detail-clause-before_memory c = λ f is.
    let (found, fails) = c.in_err-detail.ensures in
    exits c.from_residual-in_err-detail.result c.in_err-detail.field-0.0 f Detail c.from_residual-in_err-detail.ensures.1 found
    (only_here fails (beyond c.in_ok-detail_type.ensures.1 (beyond c.in_ok-source.ensures.1 is)))

pub returns-in_err-time-clause-before_memory : goal.returns-in_err-time-clause-before_memory
returns-in_err-time-clause-before_memory c = λ f is.
    let (found, fails) = c.in_err-time.ensures in
    exits c.from_residual-in_err-time.result c.in_err-time.field-0.0 f Time c.from_residual-in_err-time.ensures.1 found
    (only_here fails (beyond (some_given c.args.entry.now.detail c.in_ok-detail.detail.now c.in_ok-detail.ensures)
    (beyond c.in_ok-detail_type.ensures.1 (beyond c.in_ok-source.ensures.1 is))))

pub returns-then-is_reserved-clause-fault : goal.returns-then-is_reserved-clause-fault
returns-then-is_reserved-clause-fault c =
    let (source, source_some, source_utf8) = c.in_ok-source.ensures in
    let (detail_type, detail_type_some, detail_type_utf8) = c.in_ok-detail_type.ensures in
    let members : Checked = record {
      source = c.in_ok-source.source.now;
      detail_type = c.in_ok-detail_type.detail_type.now;
      resources = c.args.entry.now.resources.items;
      time = c.in_ok-time.time;
      detail = tree_of c.in_ok-detail-2.detail;
      bus = c.in_ok-bus.bus;
    } in
    let passes : Passes (entry_of c.args.entry.now) members = record {
      source = source;
      source_some = source_some;
      detail_type = detail_type;
      detail_type_some = detail_type_some;
      resources = refl;
      time = c.in_ok-time.ensures;
      detail = (c.in_ok-detail.detail.now, c.in_ok-detail.ensures, c.in_ok-detail-2.ensures.0);
      only = λ bytes tree given is.
          let spelled = c.in_ok-detail.ensures in
          let same : bytes ≡ c.in_ok-detail.detail.now = cc in
          c.in_ok-detail-2.ensures.1 tree (subst (λ b. IsDetail b tree) same is);
      bus = c.in_ok-bus.ensures.given;
    } in
    λ f e. let same : NotAuthorized ≡ f = cc in
    subst (IsFirst (entry_checks (entry_of c.args.entry.now))) same (reserved (entry_of c.args.entry.now) members passes (sym c.is_reserved.ensures ∙ c.if-is_reserved.true))

members : goal.In_ok-source-2 → Checked
members c = record {
  source = c.in_ok-source.source.now;
  detail_type = c.in_ok-detail_type.detail_type.now;
  resources = c.args.entry.now.resources.items;
  time = c.in_ok-time.time;
  detail = tree_of c.in_ok-detail-2.detail;
  bus = c.in_ok-bus.bus;
}

is_checked : (c : goal.In_ok-source-2) → IsCheckedOf (entry_of c.args.entry.now) (members c)
unfolding members
is_checked c =
    let (source, source_some, source_utf8) = c.in_ok-source.ensures in
    let (detail_type, detail_type_some, detail_type_utf8) = c.in_ok-detail_type.ensures in
    let passes : Passes (entry_of c.args.entry.now) (members c) = record {
      source = source;
      source_some = source_some;
      detail_type = detail_type;
      detail_type_some = detail_type_some;
      resources = refl;
      time = c.in_ok-time.ensures;
      detail = (c.in_ok-detail.detail.now, c.in_ok-detail.ensures, c.in_ok-detail-2.ensures.0);
      only = λ bytes tree given is.
          let spelled = c.in_ok-detail.ensures in
          let same : bytes ≡ c.in_ok-detail.detail.now = cc in
          c.in_ok-detail-2.ensures.1 tree (subst (λ b. IsDetail b tree) same is);
      bus = c.in_ok-bus.ensures.given;
    } in
    checked (entry_of c.args.entry.now) (members c) passes (sym c.is_reserved.ensures ∙ c.if-is_reserved.false)

pub invariant_of-result : goal.invariant_of-result
unfolding members
invariant_of-result c =
    let (source, source_some, source_utf8) = c.in_ok-source.ensures in
    let (detail_type, detail_type_some, detail_type_utf8) = c.in_ok-detail_type.ensures in
    let copied = c.in_ok-source-2.ensures in
    let resources = copied.resources ∙ c.deref.ensures.value in
    rw (copied.source, copied.detail_type, resources)
    (checked_members (entry_of c.args.entry.now) (members c) (record {
      source = subst IsUtf8IfGiven (sym source) source_utf8;
      detail_type = subst IsUtf8IfGiven (sym detail_type) detail_type_utf8;
      resources = subst (All IsUtf8) resources copied.utf8;
    }) (is_checked c))

pub returns-clause-checked : goal.returns-clause-checked
unfolding members
returns-clause-checked c =
    let copied = c.in_ok-source-2.ensures in
    rw (copied.source, copied.detail_type, copied.resources ∙ c.deref.ensures.value) (is_checked c)

pub returns-in_err-bus-clause-fault : goal.returns-in_err-bus-clause-fault
returns-in_err-bus-clause-fault c = λ f e.
    let entry = entry_of c.args.entry.now in
    let (same, none) = found_in c.from_residual-in_err-bus.result c.in_err-bus.field-0.0 Bus (bus_of_entry entry.bus ≡ None)
    c.from_residual-in_err-bus.ensures.1 c.in_err-bus.ensures.given f e in
    inr (
      c.in_ok-source.ensures.1,
      inr (
        c.in_ok-detail_type.ensures.1,
        inr (
          some_given entry.detail c.in_ok-detail.detail.now c.in_ok-detail.ensures,
          inr (gives_moment entry.time c.in_ok-time.time c.in_ok-time.ensures, inl (same, none_given (bus_of_entry entry.bus) none)),
        ),
      ),
    )

pub returns-in_err-detail-2-clause-fault : goal.returns-in_err-detail-2-clause-fault
returns-in_err-detail-2-clause-fault c = λ f e.
    let entry = entry_of c.args.entry.now in
    let (same, fails) = found_in c.from_residual-in_err-detail-2.result c.in_err-detail-2.field-0.0 Malformed (¬ GivesDetail (Some c.in_ok-detail.detail.now))
    c.from_residual-in_err-detail-2.ensures.1 c.in_err-detail-2.ensures f e in
    inr (
      c.in_ok-source.ensures.1,
      inr (
        c.in_ok-detail_type.ensures.1,
        inr (
          some_given entry.detail c.in_ok-detail.detail.now c.in_ok-detail.ensures,
          inr (
            gives_moment entry.time c.in_ok-time.time c.in_ok-time.ensures,
            inr (
              ap is_some c.in_ok-bus.ensures.given,
              inl (same, λ gives. fails (subst GivesDetail c.in_ok-detail.ensures gives)),
            ),
          ),
        ),
      ),
    )
