-- The automata of all buses after one of them is another one: `placed_known`, `gone_known`, `placed_changes`, `first_changes`, `unchanged`. The
-- automaton of a bus with one rule more or less: `numbered_more`, `enters_more`, `numbered_less`, `enters_less`.
use Rattle.std.proofs.Common.{◌≡◌, ◌≢◌, ℕ, ◌≤◌, ◌<◌, List, [], ◌∷◌, ◌++◌, length, filter, Option, Some, None, inl, inr, refl, sym, ap, ◌∙◌, subst, arith}
use Rattle.std.specs.Prelude.{All, IfOk, Result, Ok, Err}
use Rattle.name_rows.specs.Rows.{named, placed, replacing, without}
use Rattle.rule_table.proofs.RowLemmas.{named_name, named_put, named_put_same, named_without}
use Rattle.board_publish.specs.Entered.{entered_as, Fits, AreNumbered}
use Rattle.rule_automaton.specs.Rules.{has_other}
use Rattle.board_publish.specs.MatcherView.{Matcher}
use Rattle.board_publish.specs.Matchers.{Changes, Enters, HasRule, IsKnown, matcher_of}
use Rattle.board_publish.specs.declared.entered.Entered.{Entered}
use Rattle.board_publish.proofs.EnteredLemmas.{by_name, named_gone, entered_more, entered_this, entered_other, entered_less, left_this, left_other}

abbrev pub bus_of : Matcher → List ℕ
bus_of matcher = matcher.bus

abbrev pub name_of : Entered → List ℕ
name_of rule = rule.name

abbrev pub with_matcher : Matcher → List Matcher → List Matcher
with_matcher matcher old = placed bus_of replacing matcher old

pub placed_known : (old : List Matcher) (matcher : Matcher) (name : List ℕ) (pattern : Option (List ℕ)) → HasRule matcher name pattern
    → IsKnown pattern name (matcher_of matcher.bus (placed bus_of replacing matcher old))
placed_known old matcher name pattern h = subst (λ o. IsKnown pattern name o) (sym (named_put_same bus_of matcher old)) h

pub placed_others : (old : List Matcher) (matcher : Matcher) (bus : List ℕ) → ¬ (matcher.bus ≡ bus)
    → matcher_of bus (placed bus_of replacing matcher old) ≡ matcher_of bus old
placed_others old matcher bus apart = named_put bus_of replacing matcher bus old (λ other. refl) apart

none_entered : (patterns : List (ℕ × List ℕ)) (rows : List Entered) (name : List ℕ) (pattern : Option (List ℕ)) → ¬ (1 ≤ length rows)
    → Fits patterns pattern (entered_as name rows) → pattern ≡ None
none_entered patterns [] name None none h = refl
none_entered patterns [] name (Some p) none h = absurd h
none_entered patterns (row ∷ rows) name pattern none h = absurd (none (omega arith))

pub gone_known : (old : List Matcher) (matcher : Matcher) (name : List ℕ) (pattern : Option (List ℕ)) → ¬ (1 ≤ length matcher.entered)
    → HasRule matcher name pattern → IsKnown pattern name (matcher_of matcher.bus (without bus_of matcher.bus old))
gone_known old matcher name pattern none h =
    subst (λ o. IsKnown pattern name o) (sym (named_gone bus_of matcher.bus old)) (none_entered matcher.patterns matcher.entered name pattern none h)

pub gone_others : (old : List Matcher) (matcher : Matcher) (bus : List ℕ) → ¬ (matcher.bus ≡ bus)
    → matcher_of bus (without bus_of matcher.bus old) ≡ matcher_of bus old
gone_others old matcher bus apart = named_without bus_of matcher.bus bus old apart

pub unchanged : (old : List Matcher) (bus name : List ℕ) → IsKnown None name (matcher_of bus old) → Changes old old bus name None
unchanged old bus name none = record { this = none; others = λ other one wanted apart h. h }

-- a bus that has an automaton
pub placed_changes : (old new : List Matcher) (matcher left : Matcher) (name : List ℕ) (pattern : Option (List ℕ))
    → matcher_of matcher.bus old ≡ Some matcher → Enters matcher left name pattern
    → ((one : List ℕ) (wanted : Option (List ℕ)) → HasRule left one wanted → IsKnown wanted one (matcher_of left.bus new))
    → ((bus : List ℕ) → ¬ (left.bus ≡ bus) → matcher_of bus new ≡ matcher_of bus old) → Changes old new matcher.bus name pattern
placed_changes old new matcher left name pattern found enters here there = record {
  this = subst (λ b. IsKnown pattern name (matcher_of b new)) enters.same_bus (here name pattern enters.this);
  others = λ other one wanted apart h.
      by_name matcher.bus other
      (λ alike. elim apart [
        | inl differs ↦ absurd (differs alike)
        | inr differs ↦
            let was : HasRule matcher one wanted = subst (λ o. IsKnown wanted one o) (subst (λ b. matcher_of b old ≡ Some matcher) alike found) h in
            subst (λ b. IsKnown wanted one (matcher_of b new)) (enters.same_bus ∙ alike) (here one wanted (enters.others one wanted differs was))
      ])
      (λ differs. subst (λ o. IsKnown wanted one o) (sym (there other (λ same. differs (sym enters.same_bus ∙ same)))) h);
}

-- a bus that has none yet
pub first_changes : (old : List Matcher) (bus name : List ℕ) (none matcher : Matcher) (pattern : Option (List ℕ)) → matcher_of bus old ≡ None
    → none.bus ≡ bus → none.entered ≡ [] → Enters none matcher name pattern → Changes old (with_matcher matcher old) bus name pattern
first_changes old bus name none matcher pattern absent at empty enters = record {
  this = subst (λ b. IsKnown pattern name (matcher_of b (with_matcher matcher old))) same (placed_known old matcher name pattern enters.this);
  others = λ other one wanted apart h.
      by_name bus other
      (λ alike. elim apart [
        | inl differs ↦ absurd (differs alike)
        | inr differs ↦
            let nothing : wanted ≡ None = subst (λ o. IsKnown wanted one o) (subst (λ b. matcher_of b old ≡ None) alike absent) h in
            let unknown : HasRule none one None = ap (entered_as one) empty in
            let was : HasRule none one wanted = subst (λ w. HasRule none one w) (sym nothing) unknown in
            subst (λ b. IsKnown wanted one (matcher_of b (with_matcher matcher old))) (same ∙ alike)
            (placed_known old matcher one wanted (enters.others one wanted differs was))
      ])
      (λ differs. subst (λ o. IsKnown wanted one o) (sym (placed_others old matcher other (λ e. differs (sym same ∙ e)))) h);
}
  where
    same : matcher.bus ≡ bus
    same = enters.same_bus ∙ at

-- ---- one rule more or less in the automaton of a bus

pub numbered_more : (patterns longer : List (ℕ × List ℕ)) (rules grown : List Entered) (places more : ℕ) (row : Entered) (pattern name : List ℕ)
    → AreNumbered patterns rules places → All (λ (rule : Entered). rule.number ≢ row.number) rules → entered_as name rules ≡ None → row.name ≡ name
    → (places ≤ more) × (row.number < more) → longer ≡ patterns ++ (row.number, pattern) ∷ [] → grown ≡ placed name_of replacing row rules
    → AreNumbered longer grown more
numbered_more patterns longer rules grown places more row pattern name numbered free absent named room ps rs =
    subst (λ l. AreNumbered l grown more) (sym ps)
    (subst (λ (l : List Entered). AreNumbered (patterns ++ (row.number, pattern) ∷ []) l more) (sym rs)
    (entered_more patterns rules places more row pattern numbered free (subst (λ n. entered_as n rules ≡ None) (sym named) absent) room.0 room.1))

pub enters_more : (old new : Matcher) (row : Entered) (pattern name : List ℕ) → AreNumbered old.patterns old.entered old.places
    → All (λ (rule : Entered). rule.number ≢ row.number) old.entered → row.name ≡ name → new.bus ≡ old.bus
    → new.patterns ≡ old.patterns ++ (row.number, pattern) ∷ [] → new.entered ≡ placed name_of replacing row old.entered
    → Enters old new name (Some pattern)
enters_more old new row pattern name numbered free named bus ps rs = record {
  same_bus = bus;
  this = subst (λ n. HasRule new n (Some pattern)) named
      (fits (Some pattern) row.name (entered_this old.patterns old.entered old.places new.places row pattern numbered free));
  others = λ other wanted apart h.
      fits wanted other (entered_other old.patterns old.entered old.places new.places row pattern free other wanted (λ e. apart (sym named ∙ e)) h);
}
  where
    fits : (wanted : Option (List ℕ)) (one : List ℕ)
        → Fits (old.patterns ++ (row.number, pattern) ∷ []) wanted (entered_as one (placed name_of replacing row old.entered)) → HasRule new one wanted
    fits wanted one h =
        subst (λ l. Fits l wanted (entered_as one new.entered)) (sym ps)
        (subst (λ (l : List Entered). Fits (old.patterns ++ (row.number, pattern) ∷ []) wanted (entered_as one l)) (sym rs) h)

pub numbered_less : (patterns fewer : List (ℕ × List ℕ)) (rules left : List Entered) (places : ℕ) (row : Entered) → AreNumbered patterns rules places
    → entered_as row.name rules ≡ Some row → fewer ≡ filter (has_other row.number) patterns → left ≡ without name_of row.name rules
    → AreNumbered fewer left places
numbered_less patterns fewer rules left places row numbered is ps rs =
    subst (λ l. AreNumbered l left places) (sym ps)
    (subst (λ (l : List Entered). AreNumbered (filter (has_other row.number) patterns) l places) (sym rs)
    (entered_less patterns rules places row.name row numbered is))

pub enters_less : (old new : Matcher) (row : Entered) → AreNumbered old.patterns old.entered old.places → entered_as row.name old.entered ≡ Some row
    → new.bus ≡ old.bus → new.patterns ≡ filter (has_other row.number) old.patterns → new.entered ≡ without name_of row.name old.entered
    → Enters old new row.name None
enters_less old new row numbered is bus ps rs = record {
  same_bus = bus;
  this = fits None row.name (left_this old.patterns old.entered old.places row.name row);
  others = λ other wanted apart h.
      fits wanted other (left_other old.patterns old.entered old.places row.name row numbered is other wanted apart h);
}
  where
    fits : (wanted : Option (List ℕ)) (one : List ℕ)
        → Fits (filter (has_other row.number) old.patterns) wanted (entered_as one (without name_of row.name old.entered)) → HasRule new one wanted
    fits wanted one h =
        subst (λ l. Fits l wanted (entered_as one new.entered)) (sym ps)
        (subst (λ (l : List Entered). Fits (filter (has_other row.number) old.patterns) wanted (entered_as one l)) (sym rs) h)

-- a row that is found has its own name
pub found_itself : {A : Type 0} (f : A → List ℕ) (name : List ℕ) (rows : List A) (row : A) → named f name rows ≡ Some row
    → named f (f row) rows ≡ Some row
found_itself f name rows row is = subst (λ n. named f n rows ≡ Some row) (sym (named_name f name rows row is)) is

-- two facts of a result
pub both_ok : {T E : Type 0} (r : Result T E) (P Q R : T → Type 0) → ((x : T) → P x → Q x → R x) → IfOk r P → IfOk r Q → IfOk r R
both_ok (Ok x) P Q R step p q = step x p q
both_ok (Err e) P Q R step p q = tt
