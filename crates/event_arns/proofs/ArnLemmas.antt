-- The name in an ARN after a prefix (`prefixed`), in a rule's (`rule_after_bus`, `no_rule`), and that an ARN has one name (`bus_arn_once`,
-- `archive_arn_once`, `rule_arn_once`), so a name outside its syntax means that the text is no ARN (`not_valid`).
use Rattle.std.proofs.Common.{Option, Some, None, MatchOption, Bor, ◌≡◌, ℕ, Bool, true, false, List, [], ◌++◌, codes, cond, sym, ap, ◌∙◌, refl}
use Rattle.std.specs.Str.{bytes_eq}
use Rattle.std.proofs.lemmas.List.{append_cancel_left}
use Rattle.event_shape.specs.Names.{default_bus, events_arn, archive_arn, bus_arn, rule_arn}

by_test : {G : Type 0} (b : Bool) → (b ≡ true → G) → (b ≡ false → G) → G
by_test true t f = t refl
by_test false t f = f refl

pub prefixed : (prefix : List ℕ) (f : List ℕ → List ℕ) (t resource : List ℕ) (r : Option (Bor (List ℕ))) → t ≡ prefix ++ resource
    → MatchOption r ((rest : List ℕ) → ¬ (resource ≡ f rest)) (λ rest. resource ≡ f rest.now)
    → MatchOption r ((rest : List ℕ) → ¬ (t ≡ prefix ++ f rest)) (λ rest. t ≡ prefix ++ f rest.now)
prefixed prefix f t resource None e h = λ rest is. h rest (append_cancel_left prefix resource (f rest) (sym e ∙ is))
prefixed prefix f t resource (Some rest) e h = e ∙ ap (λ r. prefix ++ r) h

-- the ARN of a rule by its bus
abbrev on_default : List ℕ → List ℕ
on_default rule = events_arn (codes "rule/" ++ rule)

abbrev elsewhere : List ℕ → List ℕ → List ℕ
elsewhere bus rule = events_arn (codes "rule/" ++ (bus ++ (codes "/" ++ rule)))

pub rule_on_default : (bus rule : List ℕ) → bytes_eq bus default_bus ≡ true → rule_arn bus rule ≡ on_default rule
rule_on_default bus rule e = ap (λ b. cond b (on_default rule) (elsewhere bus rule)) e

pub rule_elsewhere : (bus rule : List ℕ) → bytes_eq bus default_bus ≡ false → rule_arn bus rule ≡ elsewhere bus rule
rule_elsewhere bus rule e = ap (λ b. cond b (on_default rule) (elsewhere bus rule)) e

abbrev rule_prefix : List ℕ
rule_prefix = on_default []

-- the name after the bus
pub rule_after_bus : (t resource bus : List ℕ) (r : Option (Bor (List ℕ))) → bytes_eq bus default_bus ≡ false → t ≡ on_default resource
    → MatchOption r ((rest : List ℕ) → ¬ (resource ≡ bus ++ (codes "/" ++ rest))) (λ rest. resource ≡ bus ++ (codes "/" ++ rest.now))
    → MatchOption r ((rule : List ℕ) → ¬ (t ≡ rule_arn bus rule)) (λ rule. t ≡ rule_arn bus rule.now)
rule_after_bus t resource bus None e is h =
    λ rule arn. prefixed rule_prefix (λ rest. bus ++ (codes "/" ++ rest)) t resource None is h rule (arn ∙ rule_elsewhere bus rule e)
rule_after_bus t resource bus (Some rest) e is h =
    prefixed rule_prefix (λ rest. bus ++ (codes "/" ++ rest)) t resource (Some rest) is h ∙ sym (rule_elsewhere bus rest.now e)

pub no_rule : (t bus : List ℕ) → ((rest : List ℕ) → ¬ (t ≡ on_default rest)) → (rule : List ℕ) → ¬ (t ≡ rule_arn bus rule)
no_rule t bus none rule is = by_test (bytes_eq bus default_bus)
    (λ e. none rule (is ∙ rule_on_default bus rule e))
    (λ e. none (bus ++ (codes "/" ++ rule)) (is ∙ rule_elsewhere bus rule e))

pub rule_arn_once : (bus a b : List ℕ) → rule_arn bus a ≡ rule_arn bus b → a ≡ b
rule_arn_once bus a b is = by_test (bytes_eq bus default_bus)
    (λ e. append_cancel_left rule_prefix a b (sym (rule_on_default bus a e) ∙ is ∙ rule_on_default bus b e))
    (λ e.
    let both = append_cancel_left rule_prefix (bus ++ (codes "/" ++ a)) (bus ++ (codes "/" ++ b)) (sym (rule_elsewhere bus a e) ∙ is ∙ rule_elsewhere bus b e) in
    append_cancel_left (codes "/") a b (append_cancel_left bus (codes "/" ++ a) (codes "/" ++ b) both))

pub bus_arn_once : (a b : List ℕ) → bus_arn a ≡ bus_arn b → a ≡ b
bus_arn_once a b is = append_cancel_left (bus_arn []) a b is

pub archive_arn_once : (a b : List ℕ) → archive_arn a ≡ archive_arn b → a ≡ b
archive_arn_once a b is = append_cancel_left (archive_arn []) a b is

-- a name outside its syntax: the text is no ARN at all
pub not_valid : (test : List ℕ → Bool) (arn : List ℕ → List ℕ) → ((a b : List ℕ) → arn a ≡ arn b → a ≡ b) → (text name : List ℕ) → text ≡ arn name
    → test name ≡ false → (x : List ℕ) → ¬ ((test x ≡ true) × (text ≡ arn x))
not_valid test arn once text name here invalid x (valid, is) =
    let same : x ≡ name = once x name (sym is ∙ here) in
    let both : false ≡ true = sym invalid ∙ ap test (sym same) ∙ valid in
    absurd (cc)
