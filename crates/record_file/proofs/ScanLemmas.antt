-- A scan from one gate to the next.
use Rattle.std.proofs.Common.{◌≡◌, ◌≢◌, ℕ, ◌+◌, ◌*◌, ◌^◌, ◌<◌, ◌≤◌, List, [], ◌∷◌, ◌++◌, length, take, drop, refl, sym, ap, subst, inl, inr, ◌∙◌, arith}
use Rattle.std.proofs.Common.{length-append, length-drop}
use Rattle.record_file.specs.declared.find.Found.TheVariants as founds
use Rattle.record_file.specs.Records.{first_gate, header, length_bytes, records, HasRecords, HasNoRecord, IsFileOf, IsDamagedAt}
use Rattle.record_file.specs.Next.{IsFoundAt}
use Rattle.record_file.proofs.RecordLemmas.{length-length_bytes, records-append, HasRecords-next, gate_is, same_records}

has_at : (first : ℕ) (file : List ℕ) (ps : List (List ℕ)) (gate gate' : ℕ) (rest rest' : List ℕ) → HasRecords first file ps gate rest →
    drop (first + length (records ps)) file ≡ gate' ∷ rest' → HasRecords first file ps gate' rest'
has_at first file ps gate gate' rest rest' has is = record {
  is = has.is ∙ ap (λ m. records ps ++ m) (sym (gate_is first file ps gate rest has) ∙ is);
  fit = has.fit;
}

module _ (first : ℕ) (file : List ℕ) (ps : List (List ℕ)) (place gate : ℕ) (rest : List ℕ) (has : HasRecords first file ps gate rest)
    (at : place ≡ first + length (records ps)) where
  there : (gate' : ℕ) (rest' : List ℕ) → drop place file ≡ gate' ∷ rest' → HasRecords first file ps gate' rest'
  there gate' rest' is = has_at first file ps gate gate' rest rest' has (ap (λ (n : ℕ). drop n file) (sym at) ∙ is)

  pub next_closed : IsFoundAt file place founds.Closed → (gate : ℕ) × (rest : List ℕ) × HasRecords first file ps gate rest × (gate ≢ 1)
  next_closed f = (f.0, f.1, there f.0 f.1 f.2, f.3)

  pub next_damaged : IsFoundAt file place founds.Damaged → (rest : List ℕ) × HasRecords first file ps 1 rest × HasNoRecord rest
  next_damaged f = (f.0, there 1 f.0 f.1, f.2)

  pub next_record : (len : ℕ) (payload : List ℕ) → len < 2 ^ 64 → payload ≡ take len (drop (place + 9) file) → IsFoundAt file place (founds.Record len) →
      (gate : ℕ) × (rest : List ℕ) × HasRecords first file (ps ++ payload ∷ []) gate rest × (place + 9 + len ≡ first + length (records (ps ++ payload ∷ [])))
  next_record len payload fits shown f =
      let len_is : length payload ≡ len = ap (λ m. length m) shown ∙ f.3 in
      let shape : drop place file ≡ 1 ∷ (length_bytes (length payload) ++ (payload ++ (f.0 ∷ f.1))) =
      f.2 ∙ ap (λ m. 1 ∷ (length_bytes len ++ (m ++ (f.0 ∷ f.1)))) (sym shown)
      ∙ ap (λ (n : ℕ). 1 ∷ (length_bytes n ++ (payload ++ (f.0 ∷ f.1)))) (sym len_is) in (
        f.0,
        f.1,
        HasRecords-next first file ps (length_bytes (length payload) ++ (payload ++ (f.0 ∷ f.1))) payload f.1 f.0
            (there 1 (length_bytes (length payload) ++ (payload ++ (f.0 ∷ f.1))) shape)
            (subst (λ (n : ℕ). n < 2 ^ 64) (sym len_is) fits) refl,
        grows payload len len_is,
      )
    where
      grows : (payload : List ℕ) (len : ℕ) → length payload ≡ len → place + 9 + len ≡ first + length (records (ps ++ payload ∷ []))
      grows payload len len_is =
          omega (
            arith,
            at,
            len_is,
            ap (λ m. length m) (records-append ps (payload ∷ [])),
            length-append (records ps) (records (payload ∷ [])),
            length-append (length_bytes (length payload) ++ payload) [],
            length-append (length_bytes (length payload)) payload,
            length-length_bytes (length payload),
          )

-- nine bytes a record at least
pub records_long : (ps : List (List ℕ)) → 9 * length ps ≤ length (records ps)
records_long [] = omega arith
records_long (p ∷ ps) =
    omega (
      arith,
      records_long ps,
      length-append (length_bytes (length p) ++ p) (records ps),
      length-append (length_bytes (length p)) p,
      length-length_bytes (length p),
    )

-- where a file is damaged
pub damaged : (file : List ℕ) (at : ℕ) (ps : List (List ℕ)) (place byte : ℕ) → at + 1 < length file → take 8 file ≡ header → place ≡ length ps + 1 →
    byte ≡ at + length (records ps) → (rest : List ℕ) × HasRecords at file ps 1 rest × HasNoRecord rest → IsDamagedAt file at ps place byte
damaged file at ps place byte long begins is_place is_byte d = record {
  long = long;
  begins = begins;
  rest = d.0;
  has = d.1;
  none = d.2;
  is_place = is_place;
  is_byte = is_byte;
}

-- the laws of the format
short_records : (file : List ℕ) (ps : List (List ℕ)) (gate : ℕ) (rest : List ℕ) → HasRecords 8 file ps gate rest → length file ≤ 9 → ps ≡ []
short_records file [] gate rest has short = refl
short_records file (p ∷ ps) gate rest has short =
    absurd (omega (arith, short, ap (λ m. length m) has.is, length-drop 8 file, records_long (p ∷ ps), length-append (records (p ∷ ps)) (gate ∷ rest)))

pub one_list : (file : List ℕ) (ps qs : List (List ℕ)) → IsFileOf file ps → IsFileOf file qs → ps ≡ qs
one_list file ps qs (inl a) (inl b) = a.1 ∙ sym b.1
one_list file ps qs (inl a) (inr b) = a.1 ∙ sym (short_records file qs b.1.0 b.1.1 b.1.2 a.0)
one_list file ps qs (inr a) (inl b) = short_records file ps a.1.0 a.1.1 a.1.2 b.0 ∙ sym b.1
one_list file ps qs (inr a) (inr b) =
    (same_records ps qs a.1.0 b.1.0 a.1.1 b.1.1 a.1.2.fit b.1.2.fit (inl a.1.3) (inl b.1.3) (sym a.1.2.is ∙ b.1.2.is)).0

pub never_both : (file : List ℕ) (ps qs : List (List ℕ)) (place byte : ℕ) → IsFileOf file ps → IsDamagedAt file first_gate qs place byte → ⊥
never_both file ps qs place byte (inl a) damage = absurd (omega (arith, a.0, damage.long))
never_both file ps qs place byte (inr a) damage =
    a.1.3 (same_records ps qs a.1.0 1 a.1.1 damage.rest a.1.2.fit damage.has.fit (inl a.1.3) (inr (refl, damage.none)) (sym a.1.2.is ∙ damage.has.is)).1

pub one_place : (file : List ℕ) (at : ℕ) (ps qs : List (List ℕ)) (place byte place' byte' : ℕ) → IsDamagedAt file at ps place byte →
    IsDamagedAt file at qs place' byte' →
    (ps ≡ qs) × (place ≡ place') × (byte ≡ byte')
one_place file at ps qs place byte place' byte' damage damage' =
    let same = (same_records ps qs 1 1 damage.rest damage'.rest damage.has.fit damage'.has.fit (inr (refl, damage.none)) (inr (refl, damage'.none))
    (sym damage.has.is ∙ damage'.has.is)).0 in (
      same,
      damage.is_place ∙ ap (λ (xs : List (List ℕ)). length xs + 1) same ∙ sym damage'.is_place,
      damage.is_byte ∙ ap (λ (xs : List (List ℕ)). at + length (records xs)) same ∙ sym damage'.is_byte,
    )
