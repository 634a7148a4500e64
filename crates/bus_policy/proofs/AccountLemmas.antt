-- Which word is a root's ARN: `root_named`, `is_root_of`, `no_root`; and of this account: `root_test`, `root_test_none`.
use Rattle.std.proofs.Common.{◌≡◌, ℕ, Bool, true, false, ◌&&◌, ◌==◌, List, ◌++◌, length, take, drop, codes, Option, Some, None, MatchOption}
use Rattle.std.proofs.Common.{Bor, refl, sym, ap, ◌∙◌, inl, inr, take_at}
use Rattle.std.specs.List.{list_all}
use Rattle.std.specs.Char.{is_ascii_digit}
use Rattle.std.proofs.lemmas.Bool.{eqb-true}
use Rattle.std.specs.Prelude.{IsTrue, ◌↔◌}
use Rattle.std.specs.Str.{bytes_eq}
use Rattle.std.proofs.lemmas.Bool.{cases_Bool, both_ways}
use Rattle.std.proofs.lemmas.Slice.Eq.{bytes_eq-Decides}
use Rattle.std.proofs.lemmas.List.{append_cancel_left, append_cancel_right}
use Rattle.bus_policy.specs.Parts.{root_arn}
use Rattle.event_shape.specs.Names.{is_account}
use Rattle.bus_policy.specs.Grammar.{is_root}

abbrev front : List ℕ
front = codes "arn:aws:iam::"

abbrev end : List ℕ
end = codes ":root"

pub root_named : (word rest : List ℕ) (r : Option (Bor (List ℕ))) → word ≡ front ++ rest
    → MatchOption r ((a : List ℕ) → ¬ (rest ≡ a ++ end)) (λ a. rest ≡ a.now ++ end)
    → MatchOption r ((a : List ℕ) → ¬ (word ≡ root_arn a)) (λ a. word ≡ root_arn a.now)
root_named word rest None is h = λ a e. h a (append_cancel_left front rest (a ++ end) (sym is ∙ e))
root_named word rest (Some a) is h = is ∙ ap (λ x. front ++ x) h

same_root : (a b : List ℕ) → root_arn a ≡ root_arn b → a ≡ b
same_root a b e = append_cancel_right a b end (append_cancel_left front (a ++ end) (b ++ end) e)

both : (x y : Bool) → x && y ≡ true → (x ≡ true) × (y ≡ true)
both true true h = (refl, refl)
both true false h = absurd (both_ways false refl h)
both false y h = absurd (both_ways false refl h)

account_len : (a : List ℕ) → is_account a ≡ true → length a ≡ 12
account_len a h = eqb-true (length a) 12 (both (length a == 12) (list_all is_ascii_digit a) h).0

-- the place of the account in a root's ARN
abbrev inside : List ℕ → List ℕ
inside word = take 12 (drop 13 word)

inside_root : (a : List ℕ) → is_account a ≡ true → inside (root_arn a) ≡ a
inside_root a h = take_at a end 12 (account_len a h)

rooted : (word : List ℕ) → is_root word ≡ true → (is_account (inside word) ≡ true) × (word ≡ root_arn (inside word))
rooted word h =
    let b = both (is_account (inside word)) (bytes_eq word (root_arn (inside word))) h in
    (b.0, (bytes_eq-Decides word (root_arn (inside word))).0 b.1)

roots : (word : List ℕ) → is_account (inside word) ≡ true → word ≡ root_arn (inside word) → is_root word ≡ true
roots word h e = rw (h, (bytes_eq-Decides word (root_arn (inside word))).1 e) refl

pub is_root_of : (word a : List ℕ) → word ≡ root_arn a → is_root word ≡ is_account a
is_root_of word a e = elim (cases_Bool (is_account a)) [
  | inl right ↦
      let within : inside word ≡ a = ap inside e ∙ inside_root a right in
      roots word (ap is_account within ∙ right) (e ∙ ap root_arn (sym within)) ∙ sym right
  | inr wrong ↦ elim (cases_Bool (is_root word)) [
    | inl root ↦
        let r = rooted word root in
        absurd (both_ways (is_account a) wrong (ap is_account (same_root a (inside word) (sym e ∙ r.1)) ∙ r.0))
    | inr unlike ↦ unlike ∙ sym wrong
  ]
]

pub no_root : (word : List ℕ) → ((a : List ℕ) → ¬ (word ≡ root_arn a)) → is_root word ≡ false
no_root word none = elim (cases_Bool (is_root word)) [
  | inl root ↦ absurd (none (inside word) (rooted word root).1)
  | inr unlike ↦ unlike
]

pub root_test : (word other account : List ℕ) (r : Bool) → word ≡ root_arn other → r ≡ bytes_eq other account → IsTrue r ↔ (word ≡ root_arn account)
root_test word other account r is e = (
  λ h. is ∙ ap root_arn ((bytes_eq-Decides other account).0 (sym e ∙ h)),
  λ g. e ∙ (bytes_eq-Decides other account).1 (same_root other account (sym is ∙ g)),
)

pub root_test_none : (word account : List ℕ) → ((a : List ℕ) → ¬ (word ≡ root_arn a)) → IsTrue false ↔ (word ≡ root_arn account)
root_test_none word account none = (λ h. absurd (both_ways false refl h), λ g. absurd (none account g))
