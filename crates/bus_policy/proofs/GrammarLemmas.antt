-- What a statement without a fault is, `right_parts`, and statements one by one: `first_right`, `last_right`, `fewer_right`.
use Rattle.std.proofs.Common.{◌≡◌, ℕ, ◌+◌, Bool, true, false, not, cond, ◌||◌, List, [], ◌∷◌, ◌++◌, length, Option, Some, None, codes, refl}
use Rattle.std.proofs.Common.{sym, ap, ◌∙◌, subst, append_assoc, append-nil}
use Rattle.std.specs.List.{list_any}
use Rattle.std.proofs.lemmas.Bool.{cond_both}
use Rattle.std.proofs.lemmas.List.Folds.{list_any-append}
use Rattle.json_text.specs.Tree.{Tree, null, truth, number, text, list, object, Items, no_items, item}
use Rattle.bus_policy.specs.declared.fault.PolicyCause.{PolicyCause}
use Rattle.bus_policy.specs.declared.fault.PolicyCause.TheVariants.{BadSid, BadEffect, BadPrincipal, BadAction, BadResource, BadCondition, UnknownMember}
use Rattle.json_text.specs.Access.{member_of}
use Rattle.bus_policy.specs.Parts.{text_passes, has_sid}
use Rattle.bus_policy.specs.Grammar.{is_object_of, are_texts, any_text, member_is, is_new_sid, is_effect, is_principal_value, is_condition}
use Rattle.bus_policy.specs.Grammar.{is_statement_key, has_fault, statement_fault, fault_or, first_fault}
use Rattle.bus_policy.specs.Change.{with_last, without_sid}

cond_none : (b : Bool) (c : PolicyCause) (rest : Option PolicyCause) → cond b (Some c) rest ≡ None → (b ≡ false) × (rest ≡ None)
cond_none true c rest h = cc
cond_none false c rest h = (refl, h)

none_cond : (b : Bool) (c : PolicyCause) (rest : Option PolicyCause) → b ≡ false → rest ≡ None → cond b (Some c) rest ≡ None
none_cond true c rest h g = cc
none_cond false c rest h g = g

is_right : (b : Bool) → not b ≡ false → b ≡ true
is_right true h = refl
is_right false h = sym h

not_wrong : (b : Bool) → b ≡ true → not b ≡ false
not_wrong b h = ap not h

abbrev pub sid_right : List Tree → Tree → Bool
sid_right earlier s = member_is true (text_passes (is_new_sid earlier)) (member_of (codes "Sid") s)

-- the members of a statement but its Sid
pub record RightParts (s : Tree) : Type 0 where
  pub effect : member_is false (text_passes is_effect) (member_of (codes "Effect") s) ≡ true
  pub principal : member_is false is_principal_value (member_of (codes "Principal") s) ≡ true
  pub action : member_is false (are_texts any_text) (member_of (codes "Action") s) ≡ true
  pub resource : member_is false (are_texts any_text) (member_of (codes "Resource") s) ≡ true
  pub condition : member_is true is_condition (member_of (codes "Condition") s) ≡ true
  pub known : is_object_of (λ key t. is_statement_key key) s ≡ true

pub right_parts : (earlier : List Tree) (s : Tree) → statement_fault earlier s ≡ None → (sid_right earlier s ≡ true) × RightParts s
right_parts earlier s h =
    let a = cond_none (has_fault earlier s BadSid) BadSid _ h in
    let b = cond_none (has_fault earlier s BadEffect) BadEffect _ a.1 in
    let c = cond_none (has_fault earlier s BadPrincipal) BadPrincipal _ b.1 in
    let d = cond_none (has_fault earlier s BadAction) BadAction _ c.1 in
    let e = cond_none (has_fault earlier s BadResource) BadResource _ d.1 in
    let f = cond_none (has_fault earlier s BadCondition) BadCondition _ e.1 in
    let g = cond_none (has_fault earlier s UnknownMember) UnknownMember _ f.1 in (
      is_right _ a.0,
      record {
        effect = is_right _ b.0;
        principal = is_right _ c.0;
        action = is_right _ d.0;
        resource = is_right _ e.0;
        condition = is_right _ f.0;
        known = is_right _ g.0;
      },
    )

pub parts_right : (earlier : List Tree) (s : Tree) → sid_right earlier s ≡ true → RightParts s → statement_fault earlier s ≡ None
parts_right earlier s sid p =
    none_cond (has_fault earlier s BadSid) BadSid _ (not_wrong _ sid)
    (none_cond (has_fault earlier s BadEffect) BadEffect _ (not_wrong _ p.effect)
    (none_cond (has_fault earlier s BadPrincipal) BadPrincipal _ (not_wrong _ p.principal)
    (none_cond (has_fault earlier s BadAction) BadAction _ (not_wrong _ p.action)
    (none_cond (has_fault earlier s BadResource) BadResource _ (not_wrong _ p.resource)
    (none_cond (has_fault earlier s BadCondition) BadCondition _ (not_wrong _ p.condition)
    (none_cond (has_fault earlier s UnknownMember) UnknownMember None (not_wrong _ p.known) refl))))))

fault_or_none : (place : ℕ) (o : Option PolicyCause) (others : Option (PolicyCause × ℕ)) → fault_or place o others ≡ None → (o ≡ None) × (others ≡ None)
fault_or_none place None others h = (refl, h)
fault_or_none place (Some c) others h = cc

none_fault_or : (place : ℕ) (o : Option PolicyCause) (others : Option (PolicyCause × ℕ)) → o ≡ None → others ≡ None → fault_or place o others ≡ None
none_fault_or place None others h g = g
none_fault_or place (Some c) others h g = cc

pub first_right : (earlier : List Tree) (s : Tree) (ss : Items) → first_fault earlier (item s ss) ≡ None
    → (statement_fault earlier s ≡ None) × (first_fault (earlier ++ s ∷ []) ss ≡ None)
first_right earlier s ss h = fault_or_none (length earlier + 1) (statement_fault earlier s) (first_fault (earlier ++ s ∷ []) ss) h

pub right_first : (earlier : List Tree) (s : Tree) (ss : Items) → statement_fault earlier s ≡ None
    → first_fault (earlier ++ s ∷ []) ss ≡ None → first_fault earlier (item s ss) ≡ None
right_first earlier s ss h g = none_fault_or (length earlier + 1) (statement_fault earlier s) (first_fault (earlier ++ s ∷ []) ss) h g

abbrev pub trees_in : Items → List Tree
trees_in no_items = []
trees_in (item s ss) = s ∷ trees_in ss

-- one statement more at the end
pub last_right : (earlier : List Tree) (ss : Items) (s : Tree) → first_fault earlier ss ≡ None
    → statement_fault (earlier ++ trees_in ss) s ≡ None → first_fault earlier (with_last ss s) ≡ None
last_right earlier no_items s h g = right_first earlier s no_items (subst (λ ts. statement_fault ts s ≡ None) (append-nil earlier) g) refl
last_right earlier (item t ss) s h g =
    let parts = first_right earlier t ss h in
    right_first earlier t (with_last ss s) parts.0
    (last_right (earlier ++ t ∷ []) ss s parts.1 (subst (λ ts. statement_fault ts s ≡ None) (sym (append_assoc earlier (t ∷ []) (trees_in ss))) g))

-- each Sid that no statement of the one list has, no statement of the other has
abbrev Fewer : List Tree → List Tree → Type 0
Fewer more less = (sid : List ℕ) → list_any (has_sid sid) more ≡ false → list_any (has_sid sid) less ≡ false

not_some : (b : Bool) → not b ≡ true → b ≡ false
not_some true h = sym h
not_some false h = refl

fewer_sids : (more less : List Tree) (o : Option Tree) → Fewer more less
    → member_is true (text_passes (is_new_sid more)) o ≡ true → member_is true (text_passes (is_new_sid less)) o ≡ true
fewer_sids more less None fewer h = refl
fewer_sids more less (Some (text sid)) fewer h = ap not (fewer sid (not_some _ h))
fewer_sids more less (Some null) fewer h = h
fewer_sids more less (Some (truth b)) fewer h = h
fewer_sids more less (Some (number spelling)) fewer h = h
fewer_sids more less (Some (list items)) fewer h = h
fewer_sids more less (Some (object inside)) fewer h = h

fewer_still_right : (more less : List Tree) (s : Tree) → Fewer more less → statement_fault more s ≡ None → statement_fault less s ≡ None
fewer_still_right more less s fewer h =
    let parts = right_parts more s h in
    parts_right less s (fewer_sids more less (member_of (codes "Sid") s) fewer parts.0) parts.1

or_false : (a b : Bool) → a || b ≡ false → (a ≡ false) × (b ≡ false)
or_false true b h = absurd (cc h)
or_false false b h = (refl, h)

false_or : (a b : Bool) → a ≡ false → b ≡ false → a || b ≡ false
false_or a b h g = rw (h, g) refl

any_of_two : (sid : List ℕ) (ts : List Tree) (s : Tree) → list_any (has_sid sid) (ts ++ s ∷ []) ≡ false
    → (list_any (has_sid sid) ts ≡ false) × (list_any (has_sid sid) (s ∷ []) ≡ false)
any_of_two sid ts s h = or_false _ _ (sym (list_any-append (has_sid sid) ts (s ∷ [])) ∙ h)

fewer_by_one : (more less : List Tree) (s : Tree) → Fewer more less → Fewer (more ++ s ∷ []) less
fewer_by_one more less s fewer sid h = fewer sid (any_of_two sid more s h).0

fewer_with : (more less : List Tree) (s : Tree) → Fewer more less → Fewer (more ++ s ∷ []) (less ++ s ∷ [])
fewer_with more less s fewer sid h =
    let parts = any_of_two sid more s h in
    list_any-append (has_sid sid) less (s ∷ []) ∙ false_or _ _ (fewer sid parts.0) parts.1

-- statements without those of a Sid
fewer_right_from : (sid : List ℕ) (more less : List Tree) (ss : Items) → Fewer more less → first_fault more ss ≡ None
    → first_fault less (without_sid sid ss) ≡ None
fewer_right_from sid more less no_items fewer h = refl
fewer_right_from sid more less (item s ss) fewer h =
    let parts = first_right more s ss h in
    cond_both (has_sid sid s) (without_sid sid ss) (item s (without_sid sid ss)) (λ x. first_fault less x ≡ None)
    (λ _. fewer_right_from sid (more ++ s ∷ []) less ss (fewer_by_one more less s fewer) parts.1)
    (λ _. right_first less s (without_sid sid ss) (fewer_still_right more less s fewer parts.0)
    (fewer_right_from sid (more ++ s ∷ []) (less ++ s ∷ []) ss (fewer_with more less s fewer) parts.1))

pub fewer_right : (sid : List ℕ) (ss : Items) → first_fault [] ss ≡ None → first_fault [] (without_sid sid ss) ≡ None
fewer_right sid ss h = fewer_right_from sid [] [] ss (λ t g. g) h
