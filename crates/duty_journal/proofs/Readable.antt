-- A batch is read back from its bytes: `is_read`, `is_none`, `has_rest`, `own_bytes`, `read_whole`, `read_batch`,
-- `admitted_readable`.
use Rattle.std.proofs.Common.{◌≡◌, ℕ, ◌^◌, ◌<◌, List, [], ◌∷◌, ◌++◌, Option, Some, MatchOption, sym, ap, subst, ◌∙◌}
use Rattle.std.specs.List.{AllByRecursion}
use Rattle.std.proofs.lemmas.List.{append-nil}
use Rattle.delivery_duties.specs.declared.duty.NewDuty.{NewDuty}
use Rattle.router_requests.specs.Batch.{Entry, control, accepted, attempt, replay_started, replay_stepped, replay_cancelled, messages_deleted, Batch}
use Rattle.entry_bytes.specs.Duty.{IsDuty, IsNamed}
use Rattle.entry_bytes.specs.Reading.{IsBytes, HasNone}
use Rattle.entry_bytes.proofs.Formats.{some_is}
use Rattle.router_requests.specs.View.{batch_of}
use Rattle.router_requests.specs.declared.batch.Batch.{Batch as CodeBatch}
use Rattle.router_core.specs.Tables.{Tables, after_entry}
use Rattle.router_core.specs.Admitted.{AreAdmitted, IsAdmitted}
use Rattle.duty_journal.specs.Batch.{batch_bytes, FitsBytes, IsOperation, NamesRules, HasValidTexts, IsReadable, IsNoBatch}
use Rattle.duty_journal.specs.Reading.{batch_at}
use Rattle.duty_journal.proofs.BatchFormats.{IsReadDuty, HasOperations, batch_format}

join_duties : (ds : List NewDuty) → AllByRecursion IsDuty ds → AllByRecursion IsNamed ds → AllByRecursion IsReadDuty ds
join_duties [] fit named = tt
join_duties (d ∷ ds) fit named = ((fit.0, named.0), join_duties ds fit.1 named.1)

fit_duties : (ds : List NewDuty) → AllByRecursion IsReadDuty ds → AllByRecursion IsDuty ds
fit_duties [] read = tt
fit_duties (d ∷ ds) read = (read.0.0, fit_duties ds read.1)

named_duties : (ds : List NewDuty) → AllByRecursion IsReadDuty ds → AllByRecursion IsNamed ds
named_duties [] read = tt
named_duties (d ∷ ds) read = (read.0.1, named_duties ds read.1)

join_operation : (x : Entry) → IsOperation IsDuty x → NamesRules x → IsOperation IsReadDuty x
join_operation (control c) fits named = fits
join_operation (accepted e) fits named =
    let (number, (bus, (k, (time, (text, (archives, (few, duties))))))) = fits in
    (number, (bus, (k, (time, (text, (archives, (few, join_duties e.duties duties named)))))))
join_operation (attempt duty outcome) fits named = fits
join_operation (replay_started s) fits named = fits
join_operation (replay_stepped s) fits named =
    let (name, (event, (few, duties))) = fits in (name, (event, (few, join_duties s.duties duties named)))
join_operation (replay_cancelled name) fits named = fits
join_operation (messages_deleted queue through) fits named = fits

fit_operation : (x : Entry) → IsOperation IsReadDuty x → IsOperation IsDuty x
fit_operation (control c) read = read
fit_operation (accepted e) read =
    let (number, (bus, (k, (time, (text, (archives, (few, duties))))))) = read in
    (number, (bus, (k, (time, (text, (archives, (few, fit_duties e.duties duties)))))))
fit_operation (attempt duty outcome) read = read
fit_operation (replay_started s) read = read
fit_operation (replay_stepped s) read =
    let (name, (event, (few, duties))) = read in (name, (event, (few, fit_duties s.duties duties)))
fit_operation (replay_cancelled name) read = read
fit_operation (messages_deleted queue through) read = read

named_operation : (x : Entry) → IsOperation IsReadDuty x → NamesRules x
named_operation (control c) read = tt
named_operation (accepted e) read = named_duties e.duties read.1.1.1.1.1.1.1
named_operation (attempt duty outcome) read = tt
named_operation (replay_started s) read = tt
named_operation (replay_stepped s) read = named_duties s.duties read.1.1.1
named_operation (replay_cancelled name) read = tt
named_operation (messages_deleted queue through) read = tt

join_all : (xs : List Entry) → AllByRecursion (IsOperation IsDuty) xs → AllByRecursion NamesRules xs → AllByRecursion (IsOperation IsReadDuty) xs
join_all [] fit named = tt
join_all (x ∷ xs) fit named = (join_operation x fit.0 named.0, join_all xs fit.1 named.1)

fit_all : (xs : List Entry) → AllByRecursion (IsOperation IsReadDuty) xs → AllByRecursion (IsOperation IsDuty) xs
fit_all [] read = tt
fit_all (x ∷ xs) read = (fit_operation x read.0, fit_all xs read.1)

named_all : (xs : List Entry) → AllByRecursion (IsOperation IsReadDuty) xs → AllByRecursion NamesRules xs
named_all [] read = tt
named_all (x ∷ xs) read = (named_operation x read.0, named_all xs read.1)

abbrev HasBatch : Batch → Type 0
HasBatch b = (b.moment < 2 ^ 64) × HasOperations b.entries

has_batch : (b : Batch) → IsReadable b → HasBatch b
has_batch b r = (r.fits.moment, (r.fits.some, (r.fits.few, join_all b.entries r.fits.operations r.named)))

readable : (b : Batch) → HasBatch b → AllByRecursion HasValidTexts b.entries → IsReadable b
readable b h valid = record {
  fits = record { moment = h.0; some = h.1.0; few = h.1.1.0; operations = fit_all b.entries h.1.1.1 };
  named = named_all b.entries h.1.1.1;
  valid = valid;
}

read_again : (b : Batch) (rest : List ℕ) → IsReadable b → batch_at (batch_bytes b ++ rest) ≡ Some (b, rest)
read_again b rest r = batch_format.again b rest (has_batch b r)

pub read_whole : (b : Batch) (bytes : List ℕ) → IsReadable b → bytes ≡ batch_bytes b → batch_at bytes ≡ Some (b, [])
read_whole b bytes r e = ap batch_at (e ∙ sym (append-nil (batch_bytes b))) ∙ read_again b [] r

pub is_read : (bytes : List ℕ) (b : Batch) (rest : List ℕ) → IsBytes bytes → batch_at bytes ≡ Some (b, rest) → AllByRecursion HasValidTexts b.entries → rest ≡ []
    → IsReadable b × (bytes ≡ batch_bytes b)
is_read bytes b rest fits e valid nothing =
    let t = batch_format.takes bytes b rest fits e in
    (readable b t.1 valid, t.0.parts ∙ ap (λ r. batch_bytes b ++ r) nothing ∙ append-nil (batch_bytes b))

pub is_none : (bytes : List ℕ) → HasNone (λ b. AllByRecursion HasValidTexts b.entries) (batch_at bytes) → IsNoBatch bytes
is_none bytes none b r e = none b [] (read_whole b bytes r e) r.valid

pub has_rest : (bytes : List ℕ) (b : Batch) (rest : List ℕ) → batch_at bytes ≡ Some (b, rest) → (rest ≡ [] → ⊥) → IsNoBatch bytes
has_rest bytes b rest e more other r is =
    more (ap (λ (p : Batch × List ℕ). p.1) (some_is (b, rest) (other, []) (sym e ∙ read_whole other bytes r is)))

pub own_bytes : (a b : Batch) (x y : List ℕ) → IsReadable a → IsReadable b → batch_bytes a ++ x ≡ batch_bytes b ++ y → (a ≡ b) × (x ≡ y)
own_bytes a b x y one other e =
    let both = some_is (a, x) (b, y) (sym (read_again a x one) ∙ ap batch_at e ∙ read_again b y other) in
    (ap (λ (p : Batch × List ℕ). p.0) both, ap (λ (p : Batch × List ℕ). p.1) both)

-- the texts of admitted operations are valid
valid_all : (moment : ℕ) (es : List Entry) (t : Tables) → AreAdmitted moment es t → AllByRecursion HasValidTexts es
valid_all moment [] t a = tt
valid_all moment (control c ∷ es) t a = (a.0.0.1, valid_all moment es (after_entry moment (control c) t) a.1)
valid_all moment (accepted e ∷ es) t a = (tt, valid_all moment es (after_entry moment (accepted e) t) a.1)
valid_all moment (attempt duty outcome ∷ es) t a = (tt, valid_all moment es (after_entry moment (attempt duty outcome) t) a.1)
valid_all moment (replay_started s ∷ es) t a = (tt, valid_all moment es (after_entry moment (replay_started s) t) a.1)
valid_all moment (replay_stepped s ∷ es) t a = (tt, valid_all moment es (after_entry moment (replay_stepped s) t) a.1)
valid_all moment (replay_cancelled name ∷ es) t a = (tt, valid_all moment es (after_entry moment (replay_cancelled name) t) a.1)
valid_all moment (messages_deleted queue through ∷ es) t a = (tt, valid_all moment es (after_entry moment (messages_deleted queue through) t) a.1)

pub admitted_readable : (t : Tables) (b : Batch) → FitsBytes b → AllByRecursion NamesRules b.entries → IsAdmitted t b → IsReadable b
admitted_readable t b fits named admitted = record { fits = fits; named = named; valid = valid_all b.moment b.entries t admitted.entries }

-- a batch that was read, and its bytes
pub read_batch : (bytes : List ℕ) (found : Option CodeBatch) (b : CodeBatch) →
    MatchOption found (IsNoBatch bytes) (λ o. IsReadable (batch_of o) × (bytes ≡ batch_bytes (batch_of o))) → found ≡ Some b →
    IsReadable (batch_of b) × (bytes ≡ batch_bytes (batch_of b))
read_batch bytes found b said is =
    subst (λ o. MatchOption o (IsNoBatch bytes) (λ x. IsReadable (batch_of x) × (bytes ≡ batch_bytes (batch_of x)))) is said
