-- What all archives retain: nothing expires before a moment (`until_weaker`, `until_set`, `none_due`), and a purge archive by archive
-- (`purge_more`, `expired_few`, `expired_here`).
use Rattle.std.proofs.Common.{◌≡◌, ℕ, ◌+◌, ◌^◌, ◌<◌, ◌≤◌, true, List, [], ◌∷◌, ◌++◌, length, take, refl, sym, ap, ◌∙◌, arith, append_assoc, append-nil, slice_set, length-append}
use Rattle.std.specs.Prelude.{All}
use Rattle.std.specs.Str.{bytes_eq}
use Rattle.std.proofs.lemmas.Grind.{flat_map-append}
use Rattle.std.proofs.lemmas.List.Sums.{sum_by-cons, sum_by_push, sum_by-take-le}
use Rattle.std.proofs.lemmas.List.Elements.{All-head, All-tail, All-weaker}
use Rattle.name_rows.specs.Place.{IsHere}
use Rattle.name_rows.proofs.RowLemmas.{Other}
use Rattle.archive_keep.specs.declared.event_ref.KeptEvent.{KeptEvent}
use Rattle.archive_keep.specs.Archive.{Archive, is_retained, purged, expired_at, IsKeptUntil, KeepsUntil}
use Rattle.archive_keep.specs.Archives.{name_of, all_purged, all_expired, expired_in, event_count}
use Rattle.archive_keep.proofs.KeptLemmas.{all_kept, none_gone, parts_count}
use Rattle.archive_keep.proofs.RowLemmas.{All_set, others_before, here_named}

pub until_weaker : (now until : ℕ) (a : Archive) → now ≤ until → KeepsUntil until a → KeepsUntil now a
until_weaker now until a le kept =
    All-weaker (IsKeptUntil until a.days) (IsKeptUntil now a.days) (λ e keeps moment before. keeps moment (omega (arith, le, before))) a.events kept

pub until_set : (rows : List Archive) (at next expiry now : ℕ) (new : Archive) → All (KeepsUntil next) rows → KeepsUntil expiry new → now ≤ next → now ≤ expiry
    → All (KeepsUntil now) (slice_set rows at new)
until_set rows at next expiry now new all kept before after =
    All_set (KeepsUntil now) rows at new (All-weaker (KeepsUntil next) (KeepsUntil now) (λ a keeps. until_weaker now next a before keeps) rows all)
    (until_weaker now expiry new after kept)

due_none : (next moment : ℕ) (a : Archive) → moment < next → KeepsUntil next a → (purged moment a ≡ a) × (expired_at moment a ≡ [])
due_none next moment a before kept =
    let all = All-weaker (IsKeptUntil next a.days) (λ e. is_retained a.days moment e ≡ true) (λ e keeps. keeps moment before) a.events kept in
    (ap (λ (es : List KeptEvent). record a { events = es }) (all_kept (is_retained a.days moment) a.events all), none_gone (is_retained a.days moment) a.events all)

pub none_due : (next moment : ℕ) (rows : List Archive) → moment < next → All (KeepsUntil next) rows → (all_purged moment rows ≡ rows) × (all_expired moment rows ≡ [])
none_due next moment [] before all = (refl, refl)
none_due next moment (a ∷ others) before all =
    let (same, none) = due_none next moment a before (All-head (KeepsUntil next) a others all) in
    let (rest, empty) = none_due next moment others before (All-tail (KeepsUntil next) a others all) in
    (ap (λ x. x ∷ all_purged moment others) same ∙ ap (λ xs. a ∷ xs) rest, ap (λ es. es ++ all_expired moment others) none ∙ empty)

gone_few : (moment : ℕ) (a : Archive) → length (expired_at moment a) ≤ length a.events
gone_few moment a = omega (arith, parts_count (is_retained a.days moment) a.events)

pub expired_few : (moment : ℕ) (rows : List Archive) → length (all_expired moment rows) ≤ event_count rows
expired_few moment [] = omega arith
expired_few moment (a ∷ others) =
    omega (
      arith,
      gone_few moment a,
      expired_few moment others,
      length-append (expired_at moment a) (all_expired moment others),
      sum_by-cons (λ (a : Archive). length a.events) a others,
    )

pub purge_room : (rows : List Archive) (i moment : ℕ) (a : Archive) (before gone more : List KeptEvent) → length before + event_count rows < 2 ^ 63
    → take (i + 1) rows ≡ take i rows ++ a ∷ [] → gone ≡ before ++ all_expired moment (take i rows) → more ≡ expired_at moment a
    → length gone + length more < 2 ^ 63
purge_room rows i moment a before gone more few next is one =
    let count : Archive → ℕ = λ a. length a.events in
    omega (
      arith,
      few,
      ap (length {A = KeptEvent}) is,
      ap (length {A = KeptEvent}) one,
      length-append before (all_expired moment (take i rows)),
      expired_few moment (take i rows),
      gone_few moment a,
      ap event_count next,
      sum_by_push count (take i rows) a,
      sum_by-take-le count rows (i + 1),
    )

pub purge_more : (rows : List Archive) (i moment : ℕ) (a : Archive) (before gone more all : List KeptEvent) → take (i + 1) rows ≡ take i rows ++ a ∷ []
    → gone ≡ before ++ all_expired moment (take i rows) → more ≡ expired_at moment a → all ≡ gone ++ more
    → all ≡ before ++ all_expired moment (take (i + 1) rows)
purge_more rows i moment a before gone more all next is one joined =
    let E = all_expired moment (take i rows) in
    let last : all_expired moment (take (i + 1) rows) ≡ E ++ expired_at moment a =
    ap (all_expired moment) next ∙ flat_map-append (expired_at moment) (take i rows) (a ∷ [])
    ∙ ap (λ es. E ++ es) (append-nil (expired_at moment a)) in
    joined ∙ ap (λ es. gone ++ es) one ∙ ap (λ es. es ++ expired_at moment a) is ∙ append_assoc before E (expired_at moment a)
    ∙ ap (λ es. before ++ es) (sym last)

expired_front : (name : List ℕ) (moment : ℕ) (front : List Archive) (here : Archive) (back : List Archive) → All (Other name_of name) front
    → bytes_eq here.name name ≡ true → expired_in name moment (front ++ here ∷ back) ≡ expired_at moment here
expired_front name moment [] here back a p = rw p refl
expired_front name moment (m ∷ front) here back a p =
    let e = All-head (Other name_of name) m front a in
    rw e (expired_front name moment front here back (All-tail (Other name_of name) m front a) p)

pub expired_here : (name : List ℕ) (moment : ℕ) (rows : List Archive) (at : ℕ) (h : IsHere name_of name rows at) → expired_in name moment rows ≡ expired_at moment h.old
expired_here name moment rows at h =
    ap (expired_in name moment) h.parts ∙ expired_front name moment h.front h.old h.back (others_before name rows at h) (here_named name rows at h)
