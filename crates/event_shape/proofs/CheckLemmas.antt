-- An entry that passes all tests but the last is `checked`, or `reserved`. A condition that fails is the first, `only_here`, if those before it
-- hold, `beyond`.
use Rattle.std.proofs.Common.{◌≡◌, ◌≢◌, ◌⊎◌, ◌==◌, ℕ, true, false, not, is_some, IsTrue, inl, inr, length, List, [], ◌∷◌, Option, Some, None, Result, Err}
use Rattle.std.proofs.Common.{refl, sym, ap, ◌∙◌, subst, arith}
use Rattle.std.specs.Result.{IsErrAnd}
use Rattle.std.proofs.lemmas.Bool.{false≢true}
use Rattle.std.proofs.lemmas.Bool.Decides.{nat_tests}
use Rattle.std.proofs.lemmas.Result.{err_from_is_err_and}
use Rattle.json_text.specs.Tree.{Tree}
use Rattle.event_shape.specs.declared.entry.EntryFault.{EntryFault}
use Rattle.event_shape.specs.declared.entry.EntryFault.TheVariants.{NotAuthorized}
use Rattle.event_shape.specs.declared.entry.CheckFault.{CheckFault}
use Rattle.event_shape.specs.declared.entry.CheckFault.TheVariants as fault
use Rattle.json_text.specs.Checks.{IsFirst}
use Rattle.event_shape.specs.Entry.{Entry}
use Rattle.event_shape.specs.Names.{bus_of_entry}
use Rattle.event_shape.specs.Fault.{IsMemoryOr, has_text, GivesMoment, GivesDetail, IsDetail, is_reserved, is_free, entry_checks}
use Rattle.event_shape.specs.Event.{Checked, IsTimeOf, IsCheckedOf}

pub only_here : {A N R : Type 0} → ¬ A → (N × (¬ A)) ⊎ (A × R) → N
only_here fails (inl found) = found.0
only_here fails (inr later) = absurd (fails later.0)

pub beyond : {A N R : Type 0} → A → (N × (¬ A)) ⊎ (A × R) → R
beyond holds (inl found) = absurd (found.1 holds)
beyond holds (inr later) = later.1

-- the exit with this fault
pub exits : {X : Type 0} (r : Result X CheckFault) (found f g : EntryFault) → IsErrAnd r (λ y. y ≡ fault.Entry found) → found ≡ g → f ≡ g
    → r ≡ Err (fault.Entry f)
exits r found f g exit is so =
    let (y, gives, same) = err_from_is_err_and r exit in
    gives ∙ ap Err same ∙ ap (λ x. Err (fault.Entry x)) (is ∙ sym so)

-- the fault of an exit that is out of memory or this fault
pub found_in : {X : Type 0} (r : Result X CheckFault) (y : CheckFault) (g : EntryFault) (fails : Type 0) → IsErrAnd r (λ e. e ≡ y) → IsMemoryOr y g fails
    → (f : EntryFault) → r ≡ Err (fault.Entry f) → (f ≡ g) × fails
found_in r (fault.Entry h) g fails exit is f e =
    let (y, gives, same) = err_from_is_err_and r exit in
    let found : h ≡ f = cc in
    (sym found ∙ is.0, is.1)
found_in r fault.NoMemory g fails exit is f e = let (y, gives, same) = err_from_is_err_and r exit in absurd cc

pub some_given : (given : Option (List ℕ)) (t : List ℕ) → given ≡ Some t → IsTrue (is_some given)
some_given given t is = ap is_some is

pub none_given : (given : Option (List ℕ)) → given ≡ None → ¬ IsTrue (is_some given)
none_given given none some = false≢true (sym (ap is_some none) ∙ some)

pub some_bytes : (given : Option (List ℕ)) (t : List ℕ) → given ≡ Some t → IsTrue (has_text given) → t ≢ []
some_bytes given t is has none = false≢true (sym (ap has_text is ∙ ap (λ x. not (length x == 0)) none) ∙ has)

pub text_some : (t : List ℕ) → t ≢ [] → IsTrue (has_text (Some t))
text_some [] some = absurd (some refl)
text_some (x ∷ xs) some = grind (arith, nat_tests)

-- ---- an entry that passes the tests

pub record Passes (e : Entry) (c : Checked) : Type 0 where
  pub source : e.source ≡ Some c.source
  pub source_some : IsTrue (has_text e.source)
  pub detail_type : e.detail_type ≡ Some c.detail_type
  pub detail_type_some : IsTrue (has_text e.detail_type)
  pub resources : e.resources ≡ c.resources
  pub time : IsTimeOf e.time c.time
  pub detail : (bytes : List ℕ) × (e.detail ≡ Some bytes) × IsDetail bytes c.detail
  pub only : (bytes : List ℕ) (tree : Tree) → e.detail ≡ Some bytes → IsDetail bytes tree → tree ≡ c.detail
  pub bus : bus_of_entry e.bus ≡ Some c.bus

pub gives_moment : (given : Option Tree) (time : Option ℕ) → IsTimeOf given time → GivesMoment given
gives_moment None time is = tt
gives_moment (Some tree) time is = (is.0, is.2)

gives_detail : (given : Option (List ℕ)) (detail : Tree) → (bytes : List ℕ) × (given ≡ Some bytes) × IsDetail bytes detail → GivesDetail given
gives_detail given detail is = subst GivesDetail (sym is.1) (detail, is.2)

free : (given : Option (List ℕ)) (s : List ℕ) → given ≡ Some s → is_free given ≡ not (is_reserved s)
free given s is = ap is_free is

pub reserved : (e : Entry) (c : Checked) → Passes e c → is_reserved c.source ≡ true → IsFirst (entry_checks e) NotAuthorized
reserved e c p r = inr (
  p.source_some,
  inr (
    p.detail_type_some,
    inr (
      some_given e.detail p.detail.0 p.detail.1,
      inr (
        gives_moment e.time c.time p.time,
        inr (
          ap is_some p.bus,
          inr (
            gives_detail e.detail c.detail p.detail,
            inl (refl, λ is. false≢true (sym (free e.source c.source p.source ∙ ap not r) ∙ is)),
          ),
        ),
      ),
    ),
  ),
)

pub checked : (e : Entry) (c : Checked) → Passes e c → is_reserved c.source ≡ false → IsCheckedOf e c
checked e c p r = record {
  faultless = (
    p.source_some,
    (
      p.detail_type_some,
      (
        some_given e.detail p.detail.0 p.detail.1,
        (
          gives_moment e.time c.time p.time,
          (ap is_some p.bus, (gives_detail e.detail c.detail p.detail, (free e.source c.source p.source ∙ ap not r, tt))),
        ),
      ),
    ),
  );
  source = p.source;
  detail_type = p.detail_type;
  resources = p.resources;
  time = p.time;
  detail = p.detail;
  only = p.only;
  bus = p.bus;
}
