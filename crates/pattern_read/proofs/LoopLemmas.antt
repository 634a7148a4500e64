-- What a loop keeps: what is left, read, completes what was read of all, and the first fault of what is left is that of all.
-- For lists `behind_more`, `behind_end`, `behind_fault`; for members `field_more`, `or_more`, `members_end`, `member_fault`.
use Rattle.std.proofs.Common.{◌≡◌, ℕ, Bool, true, false, List, [], ◌∷◌, ◌++◌, inl, inr, flat_map, refl, sym, ap, subst, append_assoc}
use Rattle.std.proofs.lemmas.List.{append-nil}
use Rattle.json_text.specs.Tree.{Tree, Members, no_members, member, items_of}
use Rattle.pattern_meaning.specs.Pattern.{Pattern, Field}
use Rattle.pattern_read.specs.Test.{AreEach}
use Rattle.pattern_read.specs.Value.{IsPatternOf, AreMembers, IsNamedField, IsOr, AreBranches, is_or}
use Rattle.pattern_read.specs.Check.{Checks, AllPass, under, id_checks, field_checks, or_checks, members_checks, pattern_checks, branches_checks}
use Rattle.pattern_read.specs.Reading.{IsReported}
use Rattle.pattern_read.specs.declared.fault.Fault.{Fault}
use Rattle.pattern_read.proofs.CheckLemmas.{reported_front, reported_behind, pass_both, pass_under}
use Rattle.pattern_read.proofs.PassLemmas.{value_checks, or_value, field_value, or_passes, field_passes, id_passes}

pub record Behind {X Y : Type 0} (Is : X → Y → Type 0) (checks : X → Checks) (all left : List X) (done : List Y) : Type 0 where
  pub goes_on : (ys : List Y) → AreEach Is left ys → AreEach Is all (done ++ ys)
  pub reports : (e : Fault) → IsReported (flat_map checks left) e → IsReported (flat_map checks all) e

pub behind_start : {X Y : Type 0} (Is : X → Y → Type 0) (checks : X → Checks) (all : List X) → Behind Is checks all all []
behind_start Is checks all = record { goes_on = λ ys h. h; reports = λ e h. h }

pub behind_more : {X Y : Type 0} (Is : X → Y → Type 0) (checks : X → Checks) (all rest : List X) (done : List Y) (x : X) (y : Y)
    → AllPass (checks x) → Is x y → Behind Is checks all (x ∷ rest) done → Behind Is checks all rest (done ++ y ∷ [])
behind_more Is checks all rest done x y passes is b = record {
  goes_on = λ ys h. subst (AreEach Is all) (sym (append_assoc done (y ∷ []) ys)) (b.goes_on (y ∷ ys) (y, ys, refl, is, h));
  reports = λ e h. b.reports e (reported_behind (checks x) (flat_map checks rest) e passes h);
}

pub behind_end : {X Y : Type 0} (Is : X → Y → Type 0) (checks : X → Checks) (all left : List X) (done : List Y)
    → left ≡ [] → Behind Is checks all left done → AreEach Is all done
behind_end Is checks all left done e b = subst (AreEach Is all) (append-nil done) (b.goes_on [] (subst (λ xs. AreEach Is xs []) (sym e) refl))

pub behind_fault : {X Y : Type 0} (Is : X → Y → Type 0) (checks : X → Checks) (all rest : List X) (done : List Y) (x : X) (e : Fault)
    → Behind Is checks all (x ∷ rest) done → IsReported (checks x) e → IsReported (flat_map checks all) e
behind_fault Is checks all rest done x e b h = b.reports e (reported_front (checks x) (flat_map checks rest) e h)

-- branches are such a list
pub branches_are : (root : Bool) (ts : List Tree) (bs : List Pattern) → AreEach (IsPatternOf root) ts bs → AreBranches root (items_of ts) bs
branches_are root [] bs h = h
branches_are root (t ∷ ts) bs h = (h.0, h.1, h.2, h.3, branches_are root ts h.1 h.4)

pub branches_checked : (root : Bool) (ts : List Tree) → flat_map (pattern_checks root) ts ≡ branches_checks root (items_of ts)
branches_checked root [] = refl
branches_checked root (t ∷ ts) = ap (λ cs. pattern_checks root t ++ cs) (branches_checked root ts)

pub record MembersBehind (root : Bool) (all left : Members) (fs : List (List ℕ × Field)) (bs : List Pattern) : Type 0 where
  pub goes_on : (gs : List (List ℕ × Field)) (cs : List Pattern) → AreMembers root left gs cs → AreMembers root all (fs ++ gs) (bs ++ cs)
  pub reports : (e : Fault) → IsReported (members_checks root left) e → IsReported (members_checks root all) e

pub members_start : (root : Bool) (all : Members) → MembersBehind root all all [] []
members_start root all = record { goes_on = λ gs cs h. h; reports = λ e h. h }

pub field_more : (root : Bool) (all rest : Members) (fs : List (List ℕ × Field)) (bs : List Pattern) (key : List ℕ) (t : Tree) (f : Field)
    → is_or key ≡ false → IsNamedField root key t f → MembersBehind root all (member key t rest) fs bs
    → MembersBehind root all rest (fs ++ (key, f) ∷ []) bs
field_more root all rest fs bs key t f unlike named b =
    let passes : AllPass (value_checks root key t) =
    subst AllPass (sym (field_value root key t unlike)) (pass_both (id_checks root key) (field_checks t) (id_passes root key named.0)
    (field_passes t f named.1)) in
    record {
      goes_on = λ gs cs h. subst (λ xs. AreMembers root all xs (bs ++ cs)) (sym (append_assoc fs ((key, f) ∷ []) gs))
          (b.goes_on ((key, f) ∷ gs) cs (inr (f, gs, unlike, named.0, named.1, h, refl)));
      reports = λ e h. b.reports e (reported_behind (under key (value_checks root key t)) (members_checks root rest) e
          (pass_under key (value_checks root key t) passes) h);
    }

pub or_more : (root : Bool) (all rest : Members) (fs : List (List ℕ × Field)) (bs mine : List Pattern) (key : List ℕ) (t : Tree)
    → is_or key ≡ true → IsOr root t mine → MembersBehind root all (member key t rest) fs bs
    → MembersBehind root all rest fs (bs ++ mine)
or_more root all rest fs bs mine key t matched made b =
    let passes : AllPass (value_checks root key t) = subst AllPass (sym (or_value root key t matched)) (or_passes root t mine made) in
    record {
      goes_on = λ gs cs h. subst (λ xs. AreMembers root all (fs ++ gs) xs) (sym (append_assoc bs mine cs))
          (b.goes_on gs (mine ++ cs) (inl (mine, cs, matched, made, h, refl)));
      reports = λ e h. b.reports e (reported_behind (under key (value_checks root key t)) (members_checks root rest) e
          (pass_under key (value_checks root key t) passes) h);
    }

pub members_end : (root : Bool) (all left : Members) (fs : List (List ℕ × Field)) (bs : List Pattern)
    → left ≡ no_members → MembersBehind root all left fs bs → AreMembers root all fs bs
members_end root all left fs bs e b =
    subst (λ xs. AreMembers root all xs bs) (append-nil fs) (subst (λ xs. AreMembers root all (fs ++ []) xs) (append-nil bs)
    (b.goes_on [] [] (subst (λ ms. AreMembers root ms [] []) (sym e) (refl, refl))))

pub or_fault : (root : Bool) (all rest : Members) (fs : List (List ℕ × Field)) (bs : List Pattern) (key : List ℕ) (t : Tree) (e under_key : Fault)
    → is_or key ≡ true → ((checks : Checks) → IsReported checks e → IsReported (under key checks) under_key)
    → MembersBehind root all (member key t rest) fs bs → IsReported (or_checks root t) e → IsReported (members_checks root all) under_key
or_fault root all rest fs bs key t e under_key matched below b h =
    b.reports under_key (reported_front (under key (value_checks root key t)) (members_checks root rest) under_key
    (below (value_checks root key t) (subst (λ cs. IsReported cs e) (sym (or_value root key t matched)) h)))

pub field_fault : (root : Bool) (all rest : Members) (fs : List (List ℕ × Field)) (bs : List Pattern) (key : List ℕ) (t : Tree) (e under_key : Fault)
    → is_or key ≡ false → ((checks : Checks) → IsReported checks e → IsReported (under key checks) under_key)
    → MembersBehind root all (member key t rest) fs bs → IsReported (id_checks root key ++ field_checks t) e
    → IsReported (members_checks root all) under_key
field_fault root all rest fs bs key t e under_key unlike below b h =
    b.reports under_key (reported_front (under key (value_checks root key t)) (members_checks root rest) under_key
    (below (value_checks root key t) (subst (λ cs. IsReported cs e) (sym (field_value root key t unlike)) h)))
