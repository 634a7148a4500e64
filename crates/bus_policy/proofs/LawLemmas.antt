-- The laws: a policy's verdict is that of what is stored of it, `verdict_stored`; there is one verdict, `verdict_once`; a stored policy's text is read
-- back, `text_reads_back`.
use Rattle.std.proofs.Common.{◌≡◌, ℕ, ◌+◌, List, refl, sym, ap, ◌∙◌, inl, inr}
use Rattle.std.proofs.Common.{◌≤◌, length, arith}
use Rattle.std.specs.Prelude.{◌↔◌}
use Rattle.json_text.specs.Tree.{Tree, Items, no_items, item}
use Rattle.json_text.specs.Node.{levels_of}
use Rattle.json_text.specs.Compact.{compact_text, tree_levels}
use Rattle.json_text.proofs.SpelledBack.{compact_spelled}
use Rattle.bus_policy.specs.Stored.{stored_of, IsStored}
use Rattle.bus_policy.specs.Text.{IsPolicyText}
use Rattle.bus_policy.proofs.LevelLemmas.{stored_levels}
use Rattle.bus_policy.specs.Verdict.{Asker, Verdict, allowed, denied_by, no_allow, NoneDenies, FirstDenies, IsVerdictOf, IsVerdict}

pub verdict_stored : (policy : Tree) (asker : Asker) (verdict : Verdict) → IsVerdict policy asker verdict ↔ IsVerdict (stored_of policy) asker verdict
verdict_stored policy asker verdict = (λ v. v, λ v. v)

first_or_none : {P : Type 0} (asker : Asker) (place : ℕ) (statements : Items) (name : List ℕ)
    → FirstDenies asker place statements name → NoneDenies asker statements → P
first_or_none asker place no_items name h g = absurd h
first_or_none asker place (item s statements) name (inl first) g = absurd (g.0 first.0)
first_or_none asker place (item s statements) name (inr later) g = first_or_none asker (place + 1) statements name later.1 g.1

first_once : (asker : Asker) (place : ℕ) (statements : Items) (name other : List ℕ)
    → FirstDenies asker place statements name → FirstDenies asker place statements other → name ≡ other
first_once asker place no_items name other h g = absurd h
first_once asker place (item s statements) name other (inl a) (inl b) = a.1 ∙ sym b.1
first_once asker place (item s statements) name other (inl a) (inr b) = absurd (b.0 a.0)
first_once asker place (item s statements) name other (inr a) (inl b) = absurd (a.0 b.0)
first_once asker place (item s statements) name other (inr a) (inr b) = first_once asker (place + 1) statements name other a.1 b.1

pub verdict_once : (statements : Items) (asker : Asker) (verdict other : Verdict) → IsVerdictOf statements asker verdict
    → IsVerdictOf statements asker other → verdict ≡ other
verdict_once statements asker (denied_by name) (denied_by other) h g = ap denied_by (first_once asker 1 statements name other h g)
verdict_once statements asker (denied_by name) allowed h g = first_or_none asker 1 statements name h g.0
verdict_once statements asker (denied_by name) no_allow h g = first_or_none asker 1 statements name h g.0
verdict_once statements asker allowed (denied_by other) h g = first_or_none asker 1 statements other g h.0
verdict_once statements asker allowed allowed h g = refl
verdict_once statements asker allowed no_allow h g = absurd (g.1 h.1)
verdict_once statements asker no_allow (denied_by other) h g = first_or_none asker 1 statements other g h.0
verdict_once statements asker no_allow allowed h g = absurd (h.1 g.1)
verdict_once statements asker no_allow no_allow h g = refl

pub text_reads_back : (policy : Tree) → IsStored policy → length (compact_text policy) ≤ 10240 → IsPolicyText (compact_text policy) policy
text_reads_back policy k short =
    let s = compact_spelled policy k.is_value in
    let few : tree_levels policy ≤ 100 = stored_levels policy k in
    let no_more : levels_of s.0 ≤ tree_levels policy = s.1.within in
    let levels : levels_of s.0 ≤ 100 = omega arith in
    record {
      value = policy;
      spelled = record {
        short = short;
        spelled = record {
          node = s.0;
          spelled = record { spelled = s.1.spelled; within = levels };
          once = s.3;
          stands_for = s.2;
        };
        is_policy = k.is_policy;
      };
      is_stored = sym k.stored;
    }
