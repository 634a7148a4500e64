-- The pattern of a value has distinct keys, and at the root no field `id`: `pattern_sound`, and of a text `text_lacks_id`.
use Rattle.std.proofs.Common.{◌≡◌, ℕ, Bool, true, false, List, [], ◌∷◌, ◌++◌, inl, inr, codes, refl, sym, subst}
use Rattle.json_text.specs.Tree.{Tree, list, object, Items, no_items, item, Members, no_members, member}
use Rattle.json_text.specs.Node.{value_of}
use Rattle.json_text.proofs.ValueLemmas.{text_is_value}
use Rattle.json_text.specs.Compact.{IsValue, AreItems, AreMembers as AreMemberValues, LacksKey}
use Rattle.pattern_meaning.specs.Pattern.{Pattern, pattern, Field, fields_of, branches_of}
use Rattle.pattern_meaning.specs.Pattern.{LacksField, LacksRoot, LackRoot, IsPattern, AreFields, IsField, AreBranches as ArePatterns}
use Rattle.pattern_read.specs.Text.{IsPatternText}
use Rattle.pattern_read.specs.Value.{IsPatternOf, AreMembers, IsFieldOf, IsOr, AreBranches}

abbrev id : List ℕ
id = codes "id"

-- distinct keys, and without `id` at the root
abbrev Sound : Bool → Pattern → Type 0
Sound root p = IsPattern p × (root ≡ true → LacksRoot id p)

abbrev AllSound : Bool → List Pattern → Type 0
AllSound root [] = Unit {0}
AllSound root (p ∷ ps) = Sound root p × AllSound root ps

both_sound : (root : Bool) (ps qs : List Pattern) → AllSound root ps → AllSound root qs → AllSound root (ps ++ qs)
both_sound root [] qs h g = g
both_sound root (p ∷ ps) qs h g = (h.0, both_sound root ps qs h.1 g)

are_patterns : (root : Bool) (ps : List Pattern) → AllSound root ps → ArePatterns (branches_of ps) × (root ≡ true → LackRoot id (branches_of ps))
are_patterns root [] h = (tt, λ e. tt)
are_patterns root (p ∷ ps) h = let more = are_patterns root ps h.1 in ((h.0.0, more.0), λ e. (h.0.1 e, more.1 e))

-- what is true of the fields
abbrev FieldsSound : Bool → Members → List (List ℕ × Field) → Type 0
FieldsSound root ms fs = AreFields (fields_of fs) × ((key : List ℕ) → LacksKey key ms → LacksField key (fields_of fs))
    × (root ≡ true → LacksField id (fields_of fs))

abbrev MembersSound : Bool → Members → List (List ℕ × Field) → List Pattern → Type 0
MembersSound root ms fs bs = FieldsSound root ms fs × AllSound root bs

made_sound : (root : Bool) (ms : Members) (p : Pattern) (fs : List (List ℕ × Field)) (bs : List Pattern)
    → p ≡ pattern (fields_of fs) (branches_of bs) → MembersSound root ms fs bs → Sound root p
made_sound root ms p fs bs e h =
    let many = are_patterns root bs h.1 in
    subst (Sound root) (sym e) ((h.0.0, many.0), λ is. (h.0.2 is, many.1 is))

mutual
  pub pattern_sound : (root : Bool) (t : Tree) (p : Pattern) → IsValue t → IsPatternOf root t p → IsPattern p × (root ≡ true → LacksRoot (codes "id") p)
  pattern_sound root (object ms) p value h =
      made_sound root ms p h.1.0 h.1.1 h.1.3 (members_sound root ms h.1.0 h.1.1 value h.1.2)
  pattern_sound root _ p value h = absurd h

  members_sound : (root : Bool) (ms : Members) (fs : List (List ℕ × Field)) (bs : List Pattern)
      → AreMemberValues ms → AreMembers root ms fs bs → MembersSound root ms fs bs
  members_sound root no_members fs bs value h =
      (subst (FieldsSound root no_members) (sym h.0) (tt, λ key lacks. tt, λ e. tt), subst (AllSound root) (sym h.1) tt)
  members_sound root (member key t ms) fs bs value h = elim h [
    | inl (mine, rest, matched, made, more, e) ↦
        let s = members_sound root ms fs rest value.3 more in
        ((s.0.0, λ k lacks. s.0.1 k lacks.1, s.0.2), subst (AllSound root) (sym e) (both_sound root mine rest (or_sound root t mine value.2 made) s.1))
    | inr (f, rest, unlike, may, made, more, e) ↦
        let s = members_sound root ms rest bs value.3 more in (
          subst (FieldsSound root (member key t ms)) (sym e) (
            (s.0.1 key value.1, field_sound t f value.2 made, s.0.0),
            λ k lacks. (lacks.0, s.0.1 k lacks.1),
            λ is. (λ same. may is (sym same), s.0.2 is),
          ),
          s.1,
        )
  ]

  field_sound : (t : Tree) (f : Field) → IsValue t → IsFieldOf t f → IsField f
  field_sound (list items) f value h = subst IsField (sym h.1.2) tt
  field_sound (object ms) f value h =
      let m = h.1.1 in
      subst IsField (sym h.2) (made_sound false ms h.0 m.0 m.1 m.3 (members_sound false ms m.0 m.1 value m.2)).0
  field_sound _ f value h = absurd h

  or_sound : (root : Bool) (t : Tree) (bs : List Pattern) → IsValue t → IsOr root t bs → AllSound root bs
  or_sound root (list items) bs value h = branches_sound root items bs value h.1
  or_sound root _ bs value h = absurd h

  branches_sound : (root : Bool) (items : Items) (bs : List Pattern) → AreItems items → AreBranches root items bs → AllSound root bs
  branches_sound root no_items bs value h = subst (AllSound root) (sym h) tt
  branches_sound root (item t items) bs value h =
      subst (AllSound root) (sym h.2) (pattern_sound root t h.0 value.0 h.3, branches_sound root items h.1 value.1 h.4)

-- the pattern of a text has no field `id` at its root
pub text_lacks_id : (bytes : List ℕ) (p : Pattern) → IsPatternText bytes p → LacksRoot (codes "id") p
text_lacks_id bytes p is = (pattern_sound true (value_of is.node) p (text_is_value 100 bytes is.node is.spelled) is.stands_for).1 refl
