-- A file has one reading as a journal: `one_list`, `never_both`, `one_place`.
use Rattle.std.proofs.Common.{◌≡◌, ◌≢◌, ◌⊎◌, ℕ, ◌+◌, List, [], ◌∷◌, ◌++◌, length, get_or, drop, map, refl, sym, ap, subst, inl, inr, ◌∙◌, arith, append_assoc}
use Rattle.std.specs.List.{AllByRecursion}
use Rattle.record_file.specs.Records.{first_gate, length_bytes, records, Fits}
use Rattle.record_file.proofs.RecordLemmas.{payload_same}
use Rattle.record_file.proofs.ScanLemmas as scan
use Rattle.router_requests.specs.Batch.{Batch}
use Rattle.router_core.specs.Tables.{Tables, after_batch, tables_after}
use Rattle.router_core.specs.Admitted.{IsAdmitted}
use Rattle.duty_journal.specs.Batch.{batch_bytes, IsReadable}
use Rattle.duty_journal.specs.Journal.{AreRecordable, HasNoBatch, IsDamagedJournal, IsJournal, batches_in}
use Rattle.duty_journal.proofs.Readable.{own_bytes}
use Rattle.duty_journal.proofs.JournalLemmas.{found_all}

pub one_list : (file : List ℕ) (start : Tables) (bs cs : List Batch) → IsJournal file start bs → IsJournal file start cs → bs ≡ cs
one_list file start bs cs one other =
    sym (found_all start bs one.1) ∙ ap batches_in (scan.one_list file (map batch_bytes bs) (map batch_bytes cs) one.0 other.0) ∙ found_all start cs other.1

-- what ends the records: a closed gate, or an open one with no record of an admitted batch
abbrev Ends : Tables → ℕ → List ℕ → Type 0
Ends t gate rest = (gate ≢ 1) ⊎ ((gate ≡ 1) × HasNoBatch t rest)

-- records with a gate after them begin with a gate
gate_first : (ps : List (List ℕ)) (gate : ℕ) (rest : List ℕ) → (first : ℕ) × (more : List ℕ) × (records ps ++ (gate ∷ rest) ≡ first ∷ more)
gate_first [] gate rest = (gate, rest, refl)
gate_first (p ∷ ps) gate rest = (1, (length_bytes (length p) ++ p ++ records ps) ++ (gate ∷ rest), refl)

-- a record, and what comes after it
regroup : (p ms tail : List ℕ) → (length_bytes (length p) ++ p ++ ms) ++ tail ≡ length_bytes (length p) ++ (p ++ (ms ++ tail))
regroup p ms tail =
    append_assoc (length_bytes (length p) ++ p) ms tail ∙ append_assoc (length_bytes (length p)) p (ms ++ tail)

not_first : (t : Tables) (gate : ℕ) (rest : List ℕ) (c : Batch) (cs : List Batch) (h : ℕ) (q : List ℕ) → Ends t gate rest → IsReadable c → IsAdmitted t c →
    gate ∷ rest ≡ records (map batch_bytes (c ∷ cs)) ++ (h ∷ q) → ⊥
not_first t gate rest c cs h q (inl closed) readable admitted is = closed (ap (λ m. get_or m 0 0) is)
not_first t gate rest c cs h q (inr (opened, none)) readable admitted is =
    let first = gate_first (map batch_bytes cs) h q in
    let after : rest ≡ length_bytes (length (batch_bytes c)) ++ (batch_bytes c ++ (records (map batch_bytes cs) ++ (h ∷ q))) =
    ap (λ m. drop 1 m) is ∙ regroup (batch_bytes c) (records (map batch_bytes cs)) (h ∷ q) in
    none c first.0 first.1 readable admitted (after ∙ ap (λ m. length_bytes (length (batch_bytes c)) ++ (batch_bytes c ++ m)) first.2)

-- two lists of batches with what ends them
same_batches : (t : Tables) (bs cs : List Batch) (g h : ℕ) (r q : List ℕ) → AreRecordable t bs → AreRecordable t cs → Ends (tables_after bs t) g r →
    Ends (tables_after cs t) h q → AllByRecursion Fits (map batch_bytes bs) → AllByRecursion Fits (map batch_bytes cs) →
    records (map batch_bytes bs) ++ (g ∷ r) ≡ records (map batch_bytes cs) ++ (h ∷ q) → (bs ≡ cs) × (g ≡ h)
same_batches t [] [] g h r q rb rc eb ec fb fc is = (refl, ap (λ m. get_or m 0 0) is)
same_batches t [] (c ∷ cs) g h r q rb rc eb ec fb fc is = absurd (not_first t g r c cs h q eb rc.0 rc.1 is)
same_batches t (b ∷ bs) [] g h r q rb rc eb ec fb fc is = absurd (not_first t h q b bs g r ec rb.0 rb.1 (sym is))
same_batches t (b ∷ bs) (c ∷ cs) g h r q rb rc eb ec fb fc is =
    let tail_b = records (map batch_bytes bs) ++ (g ∷ r) in
    let tail_c = records (map batch_bytes cs) ++ (h ∷ q) in
    let both = payload_same (batch_bytes b) (batch_bytes c) tail_b tail_c fb.0 fc.0
    (sym (regroup (batch_bytes b) (records (map batch_bytes bs)) (g ∷ r)) ∙ ap (λ m. drop 1 m) is
    ∙ regroup (batch_bytes c) (records (map batch_bytes cs)) (h ∷ q)) in
    let own = own_bytes b c [] [] rb.0 rc.0 (ap (λ m. m ++ []) both.0) in
    let after : after_batch c t ≡ after_batch b t = ap (λ (d : Batch). after_batch d t) (sym own.0) in
    let rest = same_batches (after_batch b t) bs cs g h r q rb.2 (subst (λ (u : Tables). AreRecordable u cs) after rc.2) eb
    (subst (λ (u : Tables). Ends (tables_after cs u) h q) after ec) fb.1 fc.1 both.1 in
    (ap (λ (d : Batch). d ∷ bs) own.0 ∙ ap (λ (ds : List Batch). c ∷ ds) rest.0, rest.1)

pub never_both : (file : List ℕ) (start : Tables) (bs cs : List Batch) (place byte : ℕ) → IsJournal file start bs →
    IsDamagedJournal file first_gate start cs place byte → ⊥
never_both file start bs cs place byte (inl short, all) damage = absurd (omega (arith, short.0, damage.long))
never_both file start bs cs place byte (inr file_of, all) damage =
    let from = file_of.1 in
    let both = same_batches start bs cs from.0 1 from.1 damage.rest all damage.recordable (inl from.3) (inr (refl, damage.none)) from.2.fit damage.has.fit
    (sym from.2.is ∙ damage.has.is) in
    from.3 both.1

pub one_place : (file : List ℕ) (at : ℕ) (start : Tables) (bs cs : List Batch) (place byte other_place other_byte : ℕ) → IsDamagedJournal file at start bs place byte →
    IsDamagedJournal file at start cs other_place other_byte → (bs ≡ cs) × (place ≡ other_place) × (byte ≡ other_byte)
one_place file at start bs cs place byte other_place other_byte one other =
    let both = same_batches start bs cs 1 1 one.rest other.rest one.recordable other.recordable (inr (refl, one.none)) (inr (refl, other.none)) one.has.fit
    other.has.fit (sym one.has.is ∙ other.has.is) in (
      both.0,
      one.is_place ∙ ap (λ (ds : List Batch). length ds + 1) both.0 ∙ sym other.is_place,
      one.is_byte ∙ ap (λ (ds : List Batch). at + length (records (map batch_bytes ds))) both.0 ∙ sym other.is_byte,
    )
