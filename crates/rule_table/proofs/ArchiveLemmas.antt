-- The archives of a bus while a loop looks for one: `archive_off`, `archive_on`, `no_archive`.
use Rattle.std.proofs.Common.{◌≡◌, ℕ, true, false, List, [], ◌∷◌, length, refl, sym, ap, ◌∙◌, arith}
use Rattle.std.specs.Prelude.{filter, nat_le}
use Rattle.std.specs.Str.{bytes_eq}
use Rattle.std.proofs.lemmas.Bool.Decides.{nat_tests}
use Rattle.rule_table.specs.RuleSet.{Archive}

abbrev pub on_bus : List ℕ → List Archive → List Archive
on_bus bus rows = filter (λ archive. bytes_eq archive.bus bus) rows

first_off : (bus : List ℕ) (archive : Archive) (rest : List Archive) → bytes_eq archive.bus bus ≡ false → on_bus bus (archive ∷ rest) ≡ on_bus bus rest
first_off bus archive rest off = rw off refl

first_on : (bus : List ℕ) (archive : Archive) (rest : List Archive) → bytes_eq archive.bus bus ≡ true
    → on_bus bus (archive ∷ rest) ≡ archive ∷ on_bus bus rest
first_on bus archive rest on = rw on refl

pub archive_off : (bus : List ℕ) (archive : Archive) (left rest all : List Archive) → left ≡ archive ∷ rest → bytes_eq archive.bus bus ≡ false
    → on_bus bus left ≡ all → on_bus bus rest ≡ all
archive_off bus archive left rest all steps off is = sym (first_off bus archive rest off) ∙ ap (on_bus bus) (sym steps) ∙ is

some_of : (archive : Archive) (rest : List Archive) → false ≡ nat_le (length (archive ∷ rest)) 0
some_of archive rest = grind (arith, nat_tests)

pub archive_on : (bus : List ℕ) (archive : Archive) (left rest all : List Archive) → left ≡ archive ∷ rest → bytes_eq archive.bus bus ≡ true
    → on_bus bus left ≡ all → false ≡ nat_le (length all) 0
archive_on bus archive left rest all steps on is =
    some_of archive (on_bus bus rest)
    ∙ ap (λ (rows : List Archive). nat_le (length rows) 0) (sym (first_on bus archive rest on) ∙ ap (on_bus bus) (sym steps) ∙ is)

pub no_archive : (bus : List ℕ) (left all : List Archive) → left ≡ [] → on_bus bus left ≡ all → true ≡ nat_le (length all) 0
no_archive bus left all none is = ap (λ (rows : List Archive). nat_le (length rows) 0) (ap (on_bus bus) (sym none) ∙ is)
