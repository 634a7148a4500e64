-- The values of a list: `values_back`. Whether a value is the ARN of a target: `same_truth`, `arn_checked`.
use Rattle.std.proofs.Common.{◌≡◌, ◌↔◌, Bool, List, [], ◌∷◌, Ok, Err, refl, sym, ap, subst}
use Rattle.std.specs.Prelude.{Result, IfOk, IsTrue, MatchResult}
use Rattle.json_text.specs.Tree.{Tree, items_of}
use Rattle.json_text.specs.Access.{trees_in}
use Rattle.api_replies.specs.declared.member.Member.{Member}
use Rattle.api_replies.specs.declared.cause.Cause.TheVariants as cause
use Rattle.api_members.specs.declared.asked.Syntax.TheVariants as syntax
use Rattle.api_members.specs.declared.fault.CallFault.{CallFault}
use Rattle.api_members.specs.declared.fault.CallFault.TheVariants.{Refused}
use Rattle.api_members.specs.Value.{IsValid}
use Rattle.api_members.specs.Refusal.{RefusedFor, IsValueRefused}

pub values_back : (ts : List Tree) → trees_in (items_of ts) ≡ ts
values_back [] = refl
values_back (t ∷ ts) = ap (λ l. t ∷ l) (values_back ts)

pub same_truth : {E : Type 0} (r : Result Bool E) (b : Bool) → IfOk r (λ found. found ≡ b) → IfOk r (λ found. IsTrue found ↔ IsTrue b)
same_truth (Ok found) b same = subst (λ x. IsTrue x ↔ IsTrue b) (sym same) (λ h. h, λ h. h)
same_truth (Err e) b same = tt

pub arn_checked : {A : Type 0} (r : Result A CallFault) (member : Member) (tree : Tree) (valid : Bool) → IsTrue valid ↔ IsValid syntax.TargetArn tree
    → MatchResult r (λ _. IsTrue valid) (λ f. (f ≡ Refused (cause.NotValid member)) × (¬ IsTrue valid))
    → MatchResult r (λ _. IsValid syntax.TargetArn tree) (RefusedFor (IsValueRefused syntax.TargetArn member tree))
arn_checked (Ok x) member tree valid same h = same.0 h
arn_checked (Err f) member tree valid same (is, wrong) =
    subst (RefusedFor (IsValueRefused syntax.TargetArn member tree)) (sym is) (refl, λ v. wrong (same.1 v))
