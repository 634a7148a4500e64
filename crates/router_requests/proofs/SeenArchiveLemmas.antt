-- The archives of a bus that keep an event, found one after the other (`step_kept`, `step_not`, `all_seen`); an event's number does not matter
-- (`keeping_numbered`), and there is one list of them (`keeping_once`, `archives_once`).
use Rattle.std.proofs.Common.{◌≡◌, ℕ, ◌⊎◌, inl, inr, Bool, true, false, cond, List, [], ◌∷◌, ◌++◌, take, drop, codes, Option, Some, None, Ok, Err}
use Rattle.std.proofs.Common.{sym, refl, ap, ◌∙◌, subst, append-nil}
use Rattle.std.specs.Prelude.{Result, filter}
use Rattle.std.specs.Str.{bytes_eq}
use Rattle.std.proofs.lemmas.List.Elements.{filter-append}
use Rattle.json_text.specs.Tree.{Tree}
use Rattle.event_shape.specs.Id.{event_id}
use Rattle.event_shape.specs.Event.{Event, event_members, event_tree}
use Rattle.event_shape.specs.Unnumbered.{Unnumbered, with_number}
use Rattle.event_shape.specs.declared.entry.EntryFault.{EntryFault}
use Rattle.pattern_meaning.proofs.UnseenLemmas.{other_text}
use Rattle.pattern_read.proofs.SoundLemmas.{text_lacks_id}
use Rattle.name_rows.proofs.RowLemmas.{by_test}
use Rattle.rule_table.specs.RuleSet.{Archive, RuleSet, archives_of}
use Rattle.router_requests.specs.Matching.{MatchesIfGiven, Keeps, seen_archive, AreKeeping, AreArchivesOf}
use Rattle.router_requests.specs.declared.seen.SeenArchive.{SeenArchive}
use Rattle.router_requests.specs.declared.seen.SeenVerdict.{SeenVerdict}
use Rattle.router_requests.specs.declared.seen.SeenVerdict.TheVariants as verdict

one_kept : (archives : List Archive) (archive : Archive) (event : Tree) (seen more : List SeenArchive) → AreKeeping archives event seen
    → (Keeps archive event × (more ≡ seen_archive archive ∷ [])) ⊎ ((¬ Keeps archive event) × (more ≡ []))
    → AreKeeping (archives ++ archive ∷ []) event (seen ++ more)
one_kept [] archive event seen more none step =
    let alone : seen ++ more ≡ more = ap (λ (xs : List SeenArchive). xs ++ more) none in
    elim step [
      | inl (k, e) ↦ ([], refl, inl (k, alone ∙ e))
      | inr (n, e) ↦ ([], refl, inr (n, alone ∙ e))
    ]
one_kept (a ∷ archives) archive event seen more (rest, are, which) step = (
  rest ++ more,
  one_kept archives archive event rest more are step,
  elim which [
    | inl (k, e) ↦ inl (k, ap (λ (xs : List SeenArchive). xs ++ more) e)
    | inr (n, e) ↦ inr (n, ap (λ (xs : List SeenArchive). xs ++ more) e)
  ],
)

-- the archives of the bus among some
abbrev pub on_bus : List ℕ → List Archive → List Archive
on_bus bus rows = filter (λ archive. bytes_eq archive.bus bus) rows

on_more : (bus : List ℕ) (done : List Archive) (archive : Archive) → bytes_eq archive.bus bus ≡ true → on_bus bus (done ++ archive ∷ []) ≡ on_bus bus done ++ archive ∷ []
on_more bus done archive here =
    filter-append (λ (a : Archive). bytes_eq a.bus bus) done (archive ∷ []) ∙ ap (λ b. on_bus bus done ++ cond b (archive ∷ []) []) here

on_other : (bus : List ℕ) (done : List Archive) (archive : Archive) → bytes_eq archive.bus bus ≡ false → on_bus bus (done ++ archive ∷ []) ≡ on_bus bus done
on_other bus done archive off =
    filter-append (λ (a : Archive). bytes_eq a.bus bus) done (archive ∷ []) ∙ ap (λ b. on_bus bus done ++ cond b (archive ∷ []) []) off ∙ append-nil (on_bus bus done)

-- a further archive of the bus keeps the event
pub step_kept : (bus : List ℕ) (done : List Archive) (archive : Archive) (event : Tree) (seen new : List SeenArchive) → AreKeeping (on_bus bus done) event seen
    → bytes_eq archive.bus bus ≡ true → Keeps archive event → new ≡ seen ++ seen_archive archive ∷ [] → AreKeeping (on_bus bus (done ++ archive ∷ [])) event new
step_kept bus done archive event seen new are here keeps is =
    subst (λ rows. AreKeeping rows event new) (sym (on_more bus done archive here))
    (subst (AreKeeping (on_bus bus done ++ archive ∷ []) event) (sym is)
    (one_kept (on_bus bus done) archive event seen (seen_archive archive ∷ []) are (inl (keeps, refl))))

-- a further archive is another bus's, or does not keep it
pub step_not : (bus : List ℕ) (done : List Archive) (archive : Archive) (event : Tree) (seen : List SeenArchive) → AreKeeping (on_bus bus done) event seen
    → (bytes_eq archive.bus bus ≡ true → ¬ Keeps archive event) → AreKeeping (on_bus bus (done ++ archive ∷ [])) event seen
step_not bus done archive event seen are never =
    by_test (bytes_eq archive.bus bus)
    (λ here. subst (λ rows. AreKeeping rows event seen) (sym (on_more bus done archive here))
    (subst (AreKeeping (on_bus bus done ++ archive ∷ []) event) (append-nil seen) (one_kept (on_bus bus done) archive event seen [] are (inr (never here, refl)))))
    (λ off. subst (λ rows. AreKeeping rows event seen) (sym (on_other bus done archive off)) are)

-- no archive is left
pub all_seen : (bus : List ℕ) (done left all : List Archive) (event : Tree) (seen : List SeenArchive) → done ++ left ≡ all → left ≡ []
    → AreKeeping (on_bus bus done) event seen → AreKeeping (on_bus bus all) event seen
all_seen bus done left all event seen parts none are =
    let same : done ≡ all = sym (append-nil done) ∙ ap (λ (rows : List Archive). done ++ rows) (sym none) ∙ parts in
    subst (λ rows. AreKeeping (on_bus bus rows) event seen) same are

clash : (b : Bool) → b ≡ false → b ≡ true → ⊥
clash b f t = let never : false ≡ true = sym f ∙ t in absurd (cc)

pub keeps_not : (r : Bool) (archive : Archive) (event : Tree) → r ≡ false → (Keeps archive event → r ≡ true) → ¬ Keeps archive event
keeps_not r archive event f back k = clash r f (back k)

-- the number of an event does not matter to an archive
text_numbered : (o : Option (List ℕ)) (e : Event) (n m : ℕ) → MatchesIfGiven o (event_tree (with_number n e) None) → MatchesIfGiven o (event_tree (with_number m e) None)
text_numbered None e n m h = tt
text_numbered (Some text) e n m h = record {
  pattern = h.pattern;
  read = h.read;
  holds = other_text h.pattern (codes "id") (take 1 (event_members e)) (drop 2 (event_members e)) (event_id n) (event_id m) (text_lacks_id text h.pattern h.read) h.holds;
}

pub keeping_numbered : (archives : List Archive) (e : Event) (n m : ℕ) (seen : List SeenArchive)
    → AreKeeping archives (event_tree (with_number n e) None) seen → AreKeeping archives (event_tree (with_number m e) None) seen
keeping_numbered [] e n m seen none = none
keeping_numbered (a ∷ archives) e n m seen (rest, are, which) = (
  rest,
  keeping_numbered archives e n m rest are,
  elim which [
    | inl (keeps, is) ↦ inl (text_numbered a.pattern e n m keeps, is)
    | inr (not, is) ↦ inr ((λ h. not (text_numbered a.pattern e m n h)), is)
  ],
)

pub keeping_once : (archives : List Archive) (event : Tree) (xs ys : List SeenArchive) → AreKeeping archives event xs → AreKeeping archives event ys → xs ≡ ys
keeping_once [] event xs ys p q = p ∙ sym q
keeping_once (a ∷ archives) event xs ys (rest, are, inl (m, e)) (other, so, inl (n, f)) =
    e ∙ ap (λ (zs : List SeenArchive). seen_archive a ∷ zs) (keeping_once archives event rest other are so) ∙ sym f
keeping_once (a ∷ archives) event xs ys (rest, are, inl (m, e)) (other, so, inr (n, f)) = absurd (n m)
keeping_once (a ∷ archives) event xs ys (rest, are, inr (m, e)) (other, so, inl (n, f)) = absurd (m n)
keeping_once (a ∷ archives) event xs ys (rest, are, inr (m, e)) (other, so, inr (n, f)) = e ∙ keeping_once archives event rest other are so ∙ sym f

pub archives_once : (set : RuleSet) (entry : Result Unnumbered EntryFault) (v : SeenVerdict) (xs ys : List SeenArchive) → AreArchivesOf set entry v xs
    → AreArchivesOf set entry v ys → xs ≡ ys
archives_once set (Ok event) verdict.Allowed xs ys p q =
    keeping_once (archives_of event.bus set) (event_tree (with_number 0 event.event) None) xs ys (p 0) (q 0)
archives_once set (Ok event) (verdict.Fault f) xs ys p q = p ∙ sym q
archives_once set (Ok event) verdict.NoBus xs ys p q = p ∙ sym q
archives_once set (Ok event) (verdict.DeniedBy name) xs ys p q = p ∙ sym q
archives_once set (Ok event) verdict.NotAllowed xs ys p q = p ∙ sym q
archives_once set (Err f) v xs ys p q = p ∙ sym q
