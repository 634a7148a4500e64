-- What is read is good, or it is refused: `found_so`, `refused_so`, `missing_so`.
use Rattle.std.proofs.Common.{◌≡◌, ℕ, List, Option, Some, None, Result, Ok, Err, sym, ap, subst, ◌∙◌}
use Rattle.std.specs.Prelude.{IfOk}
use Rattle.entry_bytes.specs.declared.fault.ReadFault.{ReadFault}
use Rattle.entry_bytes.specs.declared.fault.ReadFault.TheVariants as fault
use Rattle.entry_bytes.specs.Reading.{Blames, Gives, HasNone, Finds}
use Rattle.entry_bytes.proofs.Formats.{some_is}

pub found_so : {Y : Type 0} (good : Y → Type 0) (read : Option (Y × List ℕ)) (y z : Y) (rest : List ℕ) → read ≡ Some (y, rest) → z ≡ y → good y
    → (read ≡ Some (z, rest)) × good z
found_so good read y z rest e same holds =
    (e ∙ ap (λ x. Some (x, rest)) (sym same), subst good (sym same) holds)

none_good : {Y : Type 0} (good : Y → Type 0) (read : Option (Y × List ℕ)) (y : Y) (rest : List ℕ) → read ≡ Some (y, rest) → (good y → ⊥) → HasNone good read
none_good {Y} good read y rest e never x after h holds =
    let same = some_is (x, after) (y, rest) (sym h ∙ e) in
    never (subst good (ap (λ (p : Y × List ℕ). p.0) same) holds)

none_there : {Y : Type 0} (good : Y → Type 0) (read : Option (Y × List ℕ)) → read ≡ None → HasNone good read
none_there good read e x after h holds = absurd (let both : None ≡ Some (x, after) = sym e ∙ h in cc)

pub refused_so : {Y : Type 0} (good : Y → Type 0) (read : Option (Y × List ℕ)) (y : Y) (rest : List ℕ) (why : ReadFault) → read ≡ Some (y, rest)
    → Blames (good y → ⊥) why → Blames (HasNone good read) why
refused_so good read y rest fault.NoMemory e never = tt
refused_so good read y rest fault.NotSpelled e never = none_good good read y rest e never

pub missing_so : {Y : Type 0} (good : Y → Type 0) (read : Option (Y × List ℕ)) (why : ReadFault) → Blames (read ≡ None) why → Blames (HasNone good read) why
missing_so good read fault.NoMemory e = tt
missing_so good read fault.NotSpelled e = none_there good read e

-- what is always good
pub plain_so : {X Y : Type 0} (view : X → Y × List ℕ) (good : Y → Type 0) (result : Result X ReadFault) (read : Option (Y × List ℕ)) → Gives view result read
    → IfOk result (λ x. good (view x).0) → Finds view good result read
plain_so view good (Ok x) read gives holds = (gives, holds)
plain_so view good (Err why) read gives holds = missing_so good read why gives

-- the reason for a fault, and another one that follows from it
pub blames_so : (one other : Type 0) (why : ReadFault) → (one → other) → Blames one why → Blames other why
blames_so one other fault.NoMemory f h = tt
blames_so one other fault.NotSpelled f h = f h
