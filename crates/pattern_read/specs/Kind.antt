-- The tests that an object names (Amazon EventBridge User Guide, "Comparison operators for use in event patterns in Amazon EventBridge").
use Rattle.std.specs.Prelude.{ℕ, List, Option, Some, None, option_map, if◌then◌else◌, codes}
use Rattle.std.specs.Str.{bytes_eq}
use Rattle.json_text.specs.Tree.{Tree, Members, no_members, member}
use Rattle.pattern_read.specs.declared.kind.Kind.{Kind}
use Rattle.pattern_read.specs.declared.kind.Kind.TheVariants.{Prefix, Suffix, EqualsIgnoreCase, Wildcard, AnythingBut, Numeric, Cidr, Exists}

-- The test that a key names: `prefix`, `suffix`, `equals-ignore-case`, `wildcard`, `anything-but`, `numeric`, `cidr` or `exists`.
-- Shown by: tables pattern_read.rows: each_kind_of_test_is_read.
abbrev pub kind_of : List ℕ → Option Kind
kind_of key =
    if bytes_eq key (codes "prefix") then Some Prefix else (
    if bytes_eq key (codes "suffix") then Some Suffix else (
    if bytes_eq key (codes "equals-ignore-case") then Some EqualsIgnoreCase else (
    if bytes_eq key (codes "wildcard") then Some Wildcard else (
    if bytes_eq key (codes "anything-but") then Some AnythingBut else (
    if bytes_eq key (codes "numeric") then Some Numeric else (
    if bytes_eq key (codes "cidr") then Some Cidr else (
    if bytes_eq key (codes "exists") then Some Exists else None)))))))

-- the kind of test and the operand of an object with one member, whose key names a test
abbrev pub named_in : Members → Option (Kind × Tree)
named_in no_members = None
named_in (member key operand no_members) = option_map (λ kind. (kind, operand)) (kind_of key)
named_in (member key operand (member k t ms)) = None
