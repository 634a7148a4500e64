-- What a reader of ARNs finds is the name behind a prefix: `source_found`, `archive_named`, `rule_named`.
-- A name that is found in an ARN has its syntax: `bus_found`, `archive_found`, `rules_found`.
use Rattle.std.proofs.Common.{◌≡◌, ℕ, Bool, Bor, MatchOption, true, false, List, [], ◌∷◌, Option, Some, None, cond, codes, ◌++◌, refl, sym, ap, ◌∙◌, append_assoc}
use Rattle.std.specs.Prelude.{All, IfSome, option_and_then}
use Rattle.std.specs.Str.{bytes_eq}
use Rattle.std.proofs.lemmas.List.Elements.{All-nil, All-cons}
use Rattle.json_text.specs.Access.{text_in}
use Rattle.json_text.specs.Tree.{Tree}
use Rattle.event_arns.specs.Arns.{IsArchiveArn, IsBusArn, IsRuleArn}
use Rattle.event_shape.specs.Names.{IsArchiveName, IsBusName, IsShortName, is_archive_name, is_bus_name, is_short_name}
use Rattle.event_shape.specs.Names.{archive_arn, bus_arn, events_arn, rule_arn, default_bus, after_prefix, named}
use Rattle.event_shape.proofs.NameLemmas.{after_some, after_is}
use Rattle.api_members.specs.Value.{archive_of_source, bus_of_source, names_of_rules, rule_in, rule_of_source, with_name}

-- the name behind a prefix, if it passes the test
name_of : (test : List ℕ → Bool) (prefix t name : List ℕ) → test name ≡ true → t ≡ prefix ++ name → named test (after_prefix prefix t) ≡ Some name
name_of test prefix t name valid is = ap (named test) (after_some prefix t name is) ∙ ap (λ b. cond b (Some name) None) valid

no_name : (test : List ℕ → Bool) (prefix t : List ℕ) → ((name : List ℕ) → test name ≡ true → ¬ (t ≡ prefix ++ name)) → named test (after_prefix prefix t) ≡ None
no_name test prefix t none = by_prefix (after_prefix prefix t) refl
  where
    by_name : (name : List ℕ) (b : Bool) → test name ≡ b → after_prefix prefix t ≡ Some name → cond b (Some name) None ≡ None
    by_name name true valid is = absurd (none name valid (after_is prefix t name is))
    by_name name false valid is = refl

    by_prefix : (o : Option (List ℕ)) → after_prefix prefix t ≡ o → named test o ≡ None
    by_prefix None is = refl
    by_prefix (Some name) is = by_name name (test name) refl is

pub source_found : (t : List ℕ) (r : Option (Bor (List ℕ))) → MatchOption r ((bus : List ℕ) → ¬ IsBusArn t bus) (λ bus. IsBusArn t bus.now)
    → MatchOption r (bus_of_source t ≡ None) (λ bus. bus_of_source t ≡ Some bus.now)
source_found t None none = no_name is_bus_name (bus_arn []) t (λ name valid is. none name (valid, is))
source_found t (Some bus) is = name_of is_bus_name (bus_arn []) t bus.now is.0 is.1

pub archive_named : (t : List ℕ) (r : Option (Bor (List ℕ))) → MatchOption r ((archive : List ℕ) → ¬ IsArchiveArn t archive) (λ archive. IsArchiveArn t archive.now)
    → MatchOption r (archive_of_source t ≡ None) (λ archive. archive_of_source t ≡ Some archive.now)
archive_named t None none = no_name is_archive_name (archive_arn []) t (λ name valid is. none name (valid, is))
archive_named t (Some archive) is = name_of is_archive_name (archive_arn []) t archive.now is.0 is.1

-- the ARN of a rule is what comes before its name, and its name
rule_parts : (bus rule : List ℕ) → rule_arn bus rule ≡ rule_arn bus [] ++ rule
rule_parts bus rule = by (bytes_eq bus default_bus)
  where
    arn : Bool → List ℕ → List ℕ
    arn b name = cond b (events_arn (codes "rule/" ++ name)) (events_arn (codes "rule/" ++ (bus ++ (codes "/" ++ name))))

    by : (b : Bool) → arn b rule ≡ arn b [] ++ rule
    by true = refl
    by false = ap (λ x. events_arn (codes "rule/" ++ x)) (sym (append_assoc bus (codes "/") rule))

pub rule_named : (bus t : List ℕ) (r : Option (Bor (List ℕ))) → MatchOption r ((rule : List ℕ) → ¬ IsRuleArn t bus rule) (λ rule. IsRuleArn t bus rule.now)
    → MatchOption r (rule_of_source bus t ≡ None) (λ rule. rule_of_source bus t ≡ Some rule.now)
rule_named bus t None none = no_name is_short_name (rule_arn bus []) t (λ name valid is. none name (valid, is ∙ sym (rule_parts bus name)))
rule_named bus t (Some rule) is = name_of is_short_name (rule_arn bus []) t rule.now is.0 (is.1 ∙ rule_parts bus rule.now)

-- a name that passed a test
passed : (test : List ℕ → Bool) (o : Option (List ℕ)) (name : List ℕ) → named test o ≡ Some name → test name ≡ true
passed test None name is = absurd (cc)
passed test (Some given) name is = by (test given) refl is
  where
    by : (b : Bool) → test given ≡ b → cond b (Some given) None ≡ Some name → test name ≡ true
    by true passes is = let same : given ≡ name = cc in ap test (sym same) ∙ passes
    by false fails is = absurd (cc)

pub bus_found : (t bus : List ℕ) → bus_of_source t ≡ Some bus → IsBusName bus
bus_found t bus is = passed is_bus_name (after_prefix (bus_arn []) t) bus is

pub archive_found : (t name : List ℕ) → archive_of_source t ≡ Some name → IsArchiveName name
archive_found t name is = passed is_archive_name (after_prefix (archive_arn []) t) name is

rule_found : (bus t name : List ℕ) → rule_of_source bus t ≡ Some name → IsShortName name
rule_found bus t name is = passed is_short_name (after_prefix (rule_arn bus []) t) name is

rule_short : (bus : List ℕ) (o : Option (List ℕ)) → IfSome (option_and_then (rule_of_source bus) o) IsShortName
rule_short bus None = tt
rule_short bus (Some t) = by (rule_of_source bus t) refl
  where
    by : (o : Option (List ℕ)) → rule_of_source bus t ≡ o → IfSome o IsShortName
    by None is = tt
    by (Some name) is = rule_found bus t name is

one_more : (o : Option (List ℕ)) (names : List (List ℕ)) → IfSome o IsShortName → All IsShortName names → All IsShortName (with_name o names)
one_more None names short all = all
one_more (Some name) names short all = All-cons IsShortName name names short all

pub rules_found : (bus : List ℕ) (trees : List Tree) → All IsShortName (names_of_rules bus trees)
rules_found bus [] = All-nil IsShortName
rules_found bus (tree ∷ trees) = one_more (rule_in bus tree) (names_of_rules bus trees) (rule_short bus (text_in tree)) (rules_found bus trees)
