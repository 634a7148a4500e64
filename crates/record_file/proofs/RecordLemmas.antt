-- Records of payloads in a file. Callers cite `same_records`, `HasRecords-next`, `HasRecords-last`, `payload_same` and `whole_file`.
use Rattle.std.proofs.Common.{◌≡◌, ◌≢◌, ◌⊎◌, ℕ, ◌+◌, ◌^◌, ◌<◌, ◌≤◌, List, [], ◌∷◌, ◌++◌, length, get_or, take, drop, refl, sym, ap, subst, inl, inr, ◌∙◌, arith}
use Rattle.std.proofs.Common.{append_assoc, length-append, length-drop}
use Rattle.std.proofs.lemmas.List.{append-nil, take_all, take_at, drop_at, drop-drop, take-append-drop, take-append-le, take-take, length-take}
use Rattle.std.proofs.lemmas.Nat.{from_be_bytes-to_be_bytes_8}
use Rattle.std.specs.Int.{w64, from_be_bytes}
use Rattle.std.specs.List.{AllByRecursion}
use Rattle.record_file.specs.Records.{header, length_bytes, record_bytes, records, Fits, HasRecords, IsHeaded, HasNoRecord, laid}

pub length-header : length header ≡ 8
unfolding header
length-header = refl

pub length-length_bytes : (n : ℕ) → length (length_bytes n) ≡ 8
unfolding length_bytes
length-length_bytes n = refl

pub length_bytes-same : (m n : ℕ) → m < 2 ^ 64 → n < 2 ^ 64 → length_bytes m ≡ length_bytes n → m ≡ n
unfolding length_bytes
length_bytes-same m n fits_m fits_n same =
    sym (from_be_bytes-to_be_bytes_8 m fits_m) ∙ ap (λ bytes. from_be_bytes w64 bytes) same ∙ from_be_bytes-to_be_bytes_8 n fits_n

-- two lists of one length, each with a rest
pub parts_same : (xs ys zs ws : List ℕ) → length xs ≡ length ys → xs ++ zs ≡ ys ++ ws → (xs ≡ ys) × (zs ≡ ws)
parts_same xs ys zs ws len same = (
  sym (take_at xs zs (length xs) refl) ∙ ap (λ m. take (length xs) m) same ∙ take_at ys ws (length xs) (sym len),
  sym (drop_at xs zs (length xs) refl) ∙ ap (λ m. drop (length xs) m) same ∙ drop_at ys ws (length xs) (sym len),
)

-- a payload after its length, with a rest
pub payload_same : (p q xs ys : List ℕ) → Fits p → Fits q → length_bytes (length p) ++ (p ++ xs) ≡ length_bytes (length q) ++ (q ++ ys) → (p ≡ q) × (xs ≡ ys)
payload_same p q xs ys fits_p fits_q same =
    let len = parts_same (length_bytes (length p)) (length_bytes (length q)) (p ++ xs) (q ++ ys)
    (length-length_bytes (length p) ∙ sym (length-length_bytes (length q))) same in
    parts_same p q xs ys (length_bytes-same (length p) (length q) fits_p fits_q len.0) len.1

pub records-append : (ps qs : List (List ℕ)) → records (ps ++ qs) ≡ records ps ++ records qs
records-append [] qs = refl
records-append (p ∷ ps) qs = ap (λ m. record_bytes p ++ m) (records-append ps qs) ∙ sym (append_assoc (record_bytes p) (records ps) (records qs))

pub fit-append : (ps qs : List (List ℕ)) → AllByRecursion Fits ps → AllByRecursion Fits qs → AllByRecursion Fits (ps ++ qs)
fit-append [] qs first second = second
fit-append (p ∷ ps) qs first second = (first.0, fit-append ps qs first.1 second)

pub fit-parts : (ps qs : List (List ℕ)) → AllByRecursion Fits (ps ++ qs) → AllByRecursion Fits ps × AllByRecursion Fits qs
fit-parts [] qs fit = (tt, fit)
fit-parts (p ∷ ps) qs fit = let rest = fit-parts ps qs fit.1 in ((fit.0, rest.0), rest.1)

-- one more record: what follows the open gate is a payload after its length, and a gate
pub HasRecords-next : (at : ℕ) (file : List ℕ) (ps : List (List ℕ)) (rest p more : List ℕ) (gate : ℕ) → HasRecords at file ps 1 rest → Fits p →
    rest ≡ length_bytes (length p) ++ (p ++ (gate ∷ more)) → HasRecords at file (ps ++ p ∷ []) gate more
HasRecords-next at file ps rest p more gate has fits is = record {
  is = has.is ∙ ap (λ m. records ps ++ (1 ∷ m)) (is ∙ sym (append_assoc (length_bytes (length p)) p (gate ∷ more)))
      ∙ ap (λ m. records ps ++ (m ++ (gate ∷ more))) (sym (append-nil (record_bytes p)))
      ∙ sym (append_assoc (records ps) (record_bytes p ++ []) (gate ∷ more))
      ∙ ap (λ m. m ++ (gate ∷ more)) (sym (records-append ps (p ∷ [])));
  fit = fit-append ps (p ∷ []) has.fit (fits, tt);
}

-- one record less: its gate is open, and its payload comes after its length
pub HasRecords-last : (at : ℕ) (file : List ℕ) (ps : List (List ℕ)) (p more : List ℕ) (gate : ℕ) → HasRecords at file (ps ++ p ∷ []) gate more →
    HasRecords at file ps 1 (length_bytes (length p) ++ (p ++ (gate ∷ more))) × Fits p
HasRecords-last at file ps p more gate has =
    let parts = fit-parts ps (p ∷ []) has.fit in (
      record {
        is = has.is ∙ ap (λ m. m ++ (gate ∷ more)) (records-append ps (p ∷ []))
            ∙ append_assoc (records ps) (record_bytes p ++ []) (gate ∷ more)
            ∙ ap (λ m. records ps ++ (m ++ (gate ∷ more))) (append-nil (record_bytes p))
            ∙ ap (λ m. records ps ++ (1 ∷ m)) (append_assoc (length_bytes (length p)) p (gate ∷ more));
        fit = parts.0;
      },
      parts.1.0,
    )

-- where the gate is
pub gate_is : (at : ℕ) (file : List ℕ) (ps : List (List ℕ)) (gate : ℕ) (rest : List ℕ) → HasRecords at file ps gate rest →
    drop (at + length (records ps)) file ≡ gate ∷ rest
gate_is at file ps gate rest has =
    sym (drop-drop (length (records ps)) at file) ∙ ap (λ m. drop (length (records ps)) m) has.is
    ∙ drop_at (records ps) (gate ∷ rest) (length (records ps)) refl

-- records with a gate after them begin with a gate
gate_first : (ps : List (List ℕ)) (gate : ℕ) (rest : List ℕ) → (first : ℕ) × (more : List ℕ) × (records ps ++ (gate ∷ rest) ≡ first ∷ more)
gate_first [] gate rest = (gate, rest, refl)
gate_first (p ∷ ps) gate rest = (1, (length_bytes (length p) ++ p ++ records ps) ++ (gate ∷ rest), refl)

-- what ends the records: a closed gate, or an open one with no record
abbrev pub Ends : ℕ → List ℕ → Type 0
Ends gate rest = (gate ≢ 1) ⊎ ((gate ≡ 1) × HasNoRecord rest)

not_first : (gate : ℕ) (rest p tail : List ℕ) (first : ℕ) (more : List ℕ) → Ends gate rest → Fits p → tail ≡ first ∷ more →
    gate ∷ rest ≡ (record_bytes p) ++ tail → ⊥
not_first gate rest p tail first more (inl closed) fits is same = closed (ap (λ m. get_or m 0 0) same)
not_first gate rest p tail first more (inr damaged) fits is same =
    damaged.1 p more first fits
    (ap (λ m. drop 1 m) same ∙ append_assoc (length_bytes (length p)) p tail ∙ ap (λ m. length_bytes (length p) ++ (p ++ m)) is)

-- Up to what ends them, a file has records in one way.
pub same_records : (ps qs : List (List ℕ)) (gate_p gate_q : ℕ) (rest_p rest_q : List ℕ) → AllByRecursion Fits ps → AllByRecursion Fits qs →
    Ends gate_p rest_p → Ends gate_q rest_q → records ps ++ (gate_p ∷ rest_p) ≡ records qs ++ (gate_q ∷ rest_q) →
    (ps ≡ qs) × (gate_p ≡ gate_q) × (rest_p ≡ rest_q)
same_records [] [] gate_p gate_q rest_p rest_q fit_p fit_q ends_p ends_q same =
    (refl, ap (λ m. get_or m 0 0) same, ap (λ m. drop 1 m) same)
same_records [] (q ∷ qs) gate_p gate_q rest_p rest_q fit_p fit_q ends_p ends_q same =
    let first = gate_first qs gate_q rest_q in
    absurd (not_first gate_p rest_p q (records qs ++ (gate_q ∷ rest_q)) first.0 first.1 ends_p fit_q.0 first.2
    (same ∙ append_assoc (record_bytes q) (records qs) (gate_q ∷ rest_q)))
same_records (p ∷ ps) [] gate_p gate_q rest_p rest_q fit_p fit_q ends_p ends_q same =
    let first = gate_first ps gate_p rest_p in
    absurd (not_first gate_q rest_q p (records ps ++ (gate_p ∷ rest_p)) first.0 first.1 ends_q fit_p.0 first.2
    (sym same ∙ append_assoc (record_bytes p) (records ps) (gate_p ∷ rest_p)))
same_records (p ∷ ps) (q ∷ qs) gate_p gate_q rest_p rest_q fit_p fit_q ends_p ends_q same =
    let cut = sym (regroup p (records ps) gate_p rest_p) ∙ ap (λ m. drop 1 m) same ∙ regroup q (records qs) gate_q rest_q in
    let one = payload_same p q (records ps ++ (gate_p ∷ rest_p)) (records qs ++ (gate_q ∷ rest_q)) fit_p.0 fit_q.0 cut in
    let others = same_records ps qs gate_p gate_q rest_p rest_q fit_p.1 fit_q.1 ends_p ends_q one.1 in
    (ap (λ m. m ∷ ps) one.0 ∙ ap (λ m. q ∷ m) others.0, others.1, others.2)
  where
    regroup : (x xs : List ℕ) (g : ℕ) (r : List ℕ) → drop 1 ((record_bytes x ++ xs) ++ (g ∷ r)) ≡ length_bytes (length x) ++ (x ++ (xs ++ (g ∷ r)))
    regroup x xs g r =
        append_assoc (length_bytes (length x) ++ x) xs (g ∷ r) ∙ append_assoc (length_bytes (length x)) x (xs ++ (g ∷ r))

-- the file, from what is before the first gate, the records, a gate and a rest
abbrev pub whole : List ℕ → List (List ℕ) → ℕ → List ℕ → List ℕ
whole front ps gate rest = front ++ (records ps ++ (gate ∷ rest))

pub whole_is : (at : ℕ) (file : List ℕ) (ps : List (List ℕ)) (gate : ℕ) (rest : List ℕ) → HasRecords at file ps gate rest → file ≡ whole (take at file) ps gate rest
whole_is at file ps gate rest has = sym (take-append-drop at file) ∙ ap (λ m. take at file ++ m) has.is

-- there is a gate after the front
pub past_front : (at : ℕ) (file : List ℕ) (ps : List (List ℕ)) (gate : ℕ) (rest : List ℕ) → HasRecords at file ps gate rest → at < length file
past_front at file ps gate rest has =
    omega (arith, ap (λ m. length m) has.is, length-drop at file, length-append (records ps) (gate ∷ rest))

-- a front with the header
pub record IsFront (at : ℕ) (front : List ℕ) : Type 0 where
  pub size : length front ≡ at
  pub after : 8 ≤ at
  pub begins : take 8 front ≡ header

pub header_front : IsFront 8 header
header_front = record { size = length-header; after = omega arith; begins = take_all 8 header (omega (arith, length-header)) }

pub front_is : (at : ℕ) (file : List ℕ) → at < length file → 8 ≤ at → take 8 file ≡ header → IsFront at (take at file)
front_is at file long after begins = record {
  size = omega (arith, length-take at file, long);
  after = after;
  begins = take-take 8 at file after ∙ begins;
}

module _ (at : ℕ) (front : List ℕ) (is_front : IsFront at front) where
  pub whole_begins : (ps : List (List ℕ)) (gate : ℕ) (rest : List ℕ) → take 8 (whole front ps gate rest) ≡ header
  whole_begins ps gate rest =
      take-append-le 8 front (records ps ++ (gate ∷ rest)) (omega (arith, is_front.size, is_front.after)) ∙ is_front.begins

  pub whole_has : (ps : List (List ℕ)) (gate : ℕ) (rest : List ℕ) → AllByRecursion Fits ps → HasRecords at (whole front ps gate rest) ps gate rest
  whole_has ps gate rest fit = record { is = drop_at front (records ps ++ (gate ∷ rest)) at is_front.size; fit = fit }

  pub whole_file : (image : List ℕ) (ps : List (List ℕ)) (gate : ℕ) (rest : List ℕ) → AllByRecursion Fits ps → gate ≢ 1 → image ≡ whole front ps gate rest →
      IsHeaded at image ps
  whole_file image ps gate rest fit closed is =
      subst (λ m. IsHeaded at m ps) (sym is) (whole_begins ps gate rest, (gate, rest, whole_has ps gate rest fit, closed))

-- the text that is laid, after an open gate
pub laid_open : (more : List (List ℕ)) → 0 < length more → 1 ∷ laid more ≡ records more ++ 0 ∷ []
laid_open [] some = absurd (omega (arith, some))
laid_open (p ∷ more) some = refl

pub length-laid : (more : List (List ℕ)) → 0 < length more → length (laid more) ≡ length (records more)
length-laid more some =
    let same = ap (λ m. length m) (laid_open more some) in omega (arith, same, length-append (records more) (0 ∷ []))

-- opening the gate joins the records that were laid
pub joined : (front : List ℕ) (ps more : List (List ℕ)) (tail : List ℕ) → 0 < length more → whole front ps 1 (laid more ++ tail) ≡ whole front (ps ++ more) 0 tail
joined front ps more tail some =
    ap (λ m. front ++ m)
    (ap (λ m. records ps ++ (m ++ tail)) (laid_open more some)
    ∙ ap (λ m. records ps ++ m) (append_assoc (records more) (0 ∷ []) tail)
    ∙ sym (append_assoc (records ps) (records more) (0 ∷ tail))
    ∙ ap (λ m. m ++ (0 ∷ tail)) (sym (records-append ps more)))
