-- One rule is entered more (`entered_more`, `entered_this`, `entered_other`), or one less (`entered_less`, `left_this`, `left_other`), and all others are as they were.
use Rattle.std.proofs.Common.{◌≡◌, ◌≢◌, ℕ, ◌<◌, ◌≤◌, true, false, List, [], ◌∷◌, ◌++◌, Option, Some, None, filter, inl, inr, refl, sym, ap, ◌∙◌, subst, arith}
use Rattle.std.specs.Prelude.{All, Contains, ◌==◌, not}
use Rattle.std.specs.Str.{bytes_eq}
use Rattle.std.proofs.lemmas.Bool.{false≢true, eq-eqb, ne_eqb}
use Rattle.std.proofs.lemmas.List.Elements.{All-weaker, Contains-append_left, Contains-append_right, Contains-append_cases}
use Rattle.name_rows.specs.Rows.{named, placed, replacing, without}
use Rattle.name_rows.proofs.RowLemmas.{by_test, All_placed, sorted_placed, sorted_without}
use Rattle.rule_table.proofs.RowLemmas.{bytes_same, bytes_differ, named_put, named_put_same, named_without, All_named, All_without}
use Rattle.rule_automaton.specs.Rules.{has_other}
use Rattle.rule_automaton.proofs.MemberLemmas.{nothing_in, first, in_cons, kept_there, from_kept}
use Rattle.board_publish.specs.Entered.{entered_as, Fits, AreNumbered}
use Rattle.board_publish.specs.declared.entered.Entered.{Entered}

abbrev name_of : Entered → List ℕ
name_of rule = rule.name

pub by_name : {G : Type 0} (a b : List ℕ) → (a ≡ b → G) → (¬ (a ≡ b) → G) → G
by_name a b same apart = by_test (bytes_eq a b) (λ e. same (bytes_same a b e)) (λ e. apart (bytes_differ a b e))

pub named_gone : {A : Type 0} (f : A → List ℕ) (name : List ℕ) (rows : List A) → named f name (without f name rows) ≡ None
named_gone f name [] = refl
named_gone f name (row ∷ rows) =
    let rest = named_gone f name rows in
    by_test (bytes_eq (f row) name) (λ e. rw e rest) (λ e. rw (e, e) rest)

pub none_some : {A : Type 0} {G : Type 0} (o : Option A) (x : A) → o ≡ None → o ≡ Some x → G
none_some {A} {G} o x none some = let never : None ≡ Some x = sym none ∙ some in cc

pub some_same : {A : Type 0} (o : Option A) (x y : A) → o ≡ Some x → o ≡ Some y → x ≡ y
some_same o x y p q = let same : Some x ≡ Some y = sym p ∙ q in cc

one_pattern : (n m : ℕ) (p q : List ℕ) → Contains {X = ℕ × List ℕ} ((n, p) ∷ []) (m, q) → (n ≡ m) × (p ≡ q)
one_pattern n m p q inside = elim (in_cons (n, p) (m, q) [] inside) [
  | inl same ↦ (ap (λ (x : ℕ × List ℕ). x.0) same, ap (λ (x : ℕ × List ℕ). x.1) same)
  | inr none ↦ absurd (nothing_in (m, q) none)
]

-- ---- a rule more

fits_more : (patterns : List (ℕ × List ℕ)) (n : ℕ) (pattern : List ℕ) (wanted : Option (List ℕ)) (o : Option Entered)
    → ((rule : Entered) → o ≡ Some rule → rule.number ≢ n) → Fits patterns wanted o → Fits (patterns ++ (n, pattern) ∷ []) wanted o
fits_more patterns n pattern None o other h = h
fits_more patterns n pattern (Some q) None other h = h
fits_more patterns n pattern (Some q) (Some rule) other h = λ p. (
  λ inside. (h p).0 (elim (Contains-append_cases patterns ((n, pattern) ∷ []) (rule.number, p) inside) [
    | inl was ↦ was
    | inr new ↦ absurd (other rule refl (sym (one_pattern n rule.number pattern p new).0))
  ]),
  λ same. Contains-append_left patterns ((n, pattern) ∷ []) (rule.number, p) ((h p).1 same),
)

module _ (patterns : List (ℕ × List ℕ)) (rules : List Entered) (places more : ℕ) (new : Entered) (pattern : List ℕ) where
  abbrev longer : List (ℕ × List ℕ)
  longer = patterns ++ (new.number, pattern) ∷ []

  abbrev grown : List Entered
  grown = placed name_of replacing new rules

  there : (name : List ℕ) → ¬ (new.name ≡ name) → entered_as name grown ≡ entered_as name rules
  there name apart = named_put name_of replacing new name rules (λ old. refl) apart

  is_new : (name : List ℕ) (rule : Entered) → new.name ≡ name → entered_as name grown ≡ Some rule → rule ≡ new
  is_new name rule this is =
      some_same (entered_as name grown) rule new is (subst (λ n. entered_as n grown ≡ Some new) this (named_put_same name_of new rules))

  free_old : All (λ (rule : Entered). rule.number ≢ new.number) rules → (name : List ℕ) (rule : Entered) → entered_as name rules ≡ Some rule
      → rule.number ≢ new.number
  free_old free name rule is = All_named (λ (rule : Entered). rule.number ≢ new.number) name_of name rules rule is free

  pub entered_more : AreNumbered patterns rules places → All (λ (rule : Entered). rule.number ≢ new.number) rules → entered_as new.name rules ≡ None
      → places ≤ more → new.number < more → AreNumbered longer grown more
  entered_more before free absent above bound = record {
    order = sorted_placed name_of replacing new rules (λ old. refl) before.order;
    below = All_placed (λ (rule : Entered). rule.number < more) name_of replacing new rules bound (λ old h. bound)
        (All-weaker (λ (rule : Entered). rule.number < places) (λ (rule : Entered). rule.number < more) (λ rule h. omega arith) rules before.below);
    apart = λ name other rule one is so same.
        by_name new.name name
        (λ this. by_name new.name other (λ that. sym this ∙ that)
        (λ that. absurd (free_old free other one (sym (there other that) ∙ so) (sym same ∙ ap (λ (r : Entered). r.number) (is_new name rule this is)))))
        (λ this. by_name new.name other
        (λ that. absurd (free_old free name rule (sym (there name this) ∙ is) (same ∙ ap (λ (r : Entered). r.number) (is_new other one that so))))
        (λ that. before.apart name other rule one (sym (there name this) ∙ is) (sym (there other that) ∙ so) same));
    known = λ p inside. elim (Contains-append_cases patterns ((new.number, pattern) ∷ []) p inside) [
      | inl was ↦
          let k = before.known p was in
          by_name new.name k.0
          (λ this. none_some (entered_as k.0 rules) k.1 (subst (λ n. entered_as n rules ≡ None) this absent) k.2)
          (λ this. (k.0, k.1, there k.0 this ∙ k.2, k.3))
      | inr now ↦ (new.name, new, named_put_same name_of new rules, (one_pattern new.number p.0 pattern p.1 now).0)
    ];
  }

  pub entered_this : AreNumbered patterns rules places → All (λ (rule : Entered). rule.number ≢ new.number) rules
      → Fits longer (Some pattern) (entered_as new.name grown)
  entered_this before free =
      subst (Fits longer (Some pattern)) (sym (named_put_same name_of new rules)) (λ other. (
        λ inside. elim (Contains-append_cases patterns ((new.number, pattern) ∷ []) (new.number, other) inside) [
          | inl was ↦ let k = before.known (new.number, other) was in absurd (free_old free k.0 k.1 k.2 k.3)
          | inr now ↦ sym (one_pattern new.number new.number pattern other now).1
        ],
        λ same. Contains-append_right patterns ((new.number, pattern) ∷ []) (new.number, other)
            (subst (λ p. Contains {X = ℕ × List ℕ} ((new.number, pattern) ∷ []) (new.number, p)) (sym same) (first (new.number, pattern) [])),
      ))

  pub entered_other : All (λ (rule : Entered). rule.number ≢ new.number) rules → (name : List ℕ) (wanted : Option (List ℕ)) → ¬ (new.name ≡ name)
      → Fits patterns wanted (entered_as name rules) → Fits longer wanted (entered_as name grown)
  entered_other free name wanted apart h =
      subst (Fits longer wanted) (sym (there name apart)) (fits_more patterns new.number pattern wanted (entered_as name rules) (free_old free name) h)

-- ---- a rule less

other_number : (n : ℕ) (p : ℕ × List ℕ) → has_other n p ≡ true → p.0 ≢ n
other_number n p h same = let off : not (p.0 == n) ≡ false = ap not (eq-eqb p.0 n same) in false≢true (sym off ∙ h)

number_other : (n : ℕ) (p : ℕ × List ℕ) → p.0 ≢ n → has_other n p ≡ true
number_other n p apart = ap not (ne_eqb p.0 n apart)

fits_less : (patterns : List (ℕ × List ℕ)) (n : ℕ) (wanted : Option (List ℕ)) (o : Option Entered)
    → ((rule : Entered) → o ≡ Some rule → rule.number ≢ n) → Fits patterns wanted o → Fits (filter (has_other n) patterns) wanted o
fits_less patterns n None o other h = h
fits_less patterns n (Some q) None other h = h
fits_less patterns n (Some q) (Some rule) other h = λ p. (
  λ inside. (h p).0 (from_kept (has_other n) patterns (rule.number, p) inside).0,
  λ same. kept_there (has_other n) patterns (rule.number, p) ((h p).1 same) (number_other n (rule.number, p) (other rule refl)),
)

module _ (patterns : List (ℕ × List ℕ)) (rules : List Entered) (places : ℕ) (name : List ℕ) (gone : Entered) where
  abbrev fewer : List (ℕ × List ℕ)
  fewer = filter (has_other gone.number) patterns

  abbrev left : List Entered
  left = without name_of name rules

  still : (other : List ℕ) → ¬ (name ≡ other) → entered_as other left ≡ entered_as other rules
  still other apart = named_without name_of name other rules apart

  never : {G : Type 0} (other : List ℕ) (rule : Entered) → name ≡ other → entered_as other left ≡ Some rule → G
  never {G} other rule this is =
      none_some (entered_as other left) rule (subst (λ n. named name_of n left ≡ None) this (named_gone name_of name rules)) is

  pub entered_less : AreNumbered patterns rules places → entered_as name rules ≡ Some gone → AreNumbered fewer left places
  entered_less before was = record {
    order = sorted_without name_of name rules before.order;
    below = All_without (λ (rule : Entered). rule.number < places) name_of name rules before.below;
    apart = λ one two rule other is so same.
        by_name name one (λ this. never one rule this is)
        (λ this. by_name name two (λ that. never two other that so)
        (λ that. before.apart one two rule other (sym (still one this) ∙ is) (sym (still two that) ∙ so) same));
    known = λ p inside.
        let r = from_kept (has_other gone.number) patterns p inside in
        let k = before.known p r.0 in
        by_name name k.0
        (λ this.
        let same : k.1 ≡ gone = some_same (entered_as k.0 rules) k.1 gone k.2 (subst (λ n. entered_as n rules ≡ Some gone) this was) in
        absurd (other_number gone.number p r.1 (sym k.3 ∙ ap (λ (rule : Entered). rule.number) same)))
        (λ this. (k.0, k.1, still k.0 this ∙ k.2, k.3));
  }

  pub left_this : Fits fewer None (entered_as name left)
  left_this = named_gone name_of name rules

  pub left_other : AreNumbered patterns rules places → entered_as name rules ≡ Some gone → (other : List ℕ) (wanted : Option (List ℕ)) → ¬ (name ≡ other)
      → Fits patterns wanted (entered_as other rules) → Fits fewer wanted (entered_as other left)
  left_other before was other wanted apart h =
      subst (Fits fewer wanted) (sym (still other apart))
      (fits_less patterns gone.number wanted (entered_as other rules)
      (λ rule is same. apart (before.apart name other gone rule was is (sym same))) h)
