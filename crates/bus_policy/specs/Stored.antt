-- Which part of a policy's JSON value is stored.
use Rattle.std.specs.Prelude.{◌≡◌, ℕ, List, [], ◌∷◌, codes, unwrap_or}
use Rattle.json_text.specs.Tree.{Tree, text, list, object, Items, members_of}
use Rattle.json_text.specs.Compact.{IsValue, compact_text}
use Rattle.json_text.specs.Access.{member_of}
use Rattle.bus_policy.specs.Parts.{statements_of}
use Rattle.bus_policy.specs.Grammar.{IsPolicy}
use Rattle.bus_policy.specs.Verdict.{names_from}

-- the version of a policy that names none
abbrev pub default_version : Tree
default_version = text (codes "2012-10-17")

-- a policy of this version and these statements
abbrev pub policy_with : Tree → Items → Tree
policy_with version statements = object (members_of ((codes "Version", version) ∷ (codes "Statement", list statements) ∷ []))

-- The stored form of a policy: its Version, or `2012-10-17`, and its statements, as they were given, as a list. Id and other members are
-- dropped.
-- Shown by: tables bus_policy.rows: version_and_statements_are_stored_and_read_back.
abbrev pub stored_of : Tree → Tree
stored_of policy = policy_with (unwrap_or (member_of (codes "Version") policy) default_version) (statements_of policy)

-- A policy in its stored form.
-- Shown by: tables bus_policy.rows: version_and_statements_are_stored_and_read_back.
pub record IsStored (policy : Tree) : Type 0 where
  pub is_policy : IsPolicy policy
  pub stored : stored_of policy ≡ policy
  pub is_value : IsValue policy

-- a policy as it is stored, with its statements' names and its text (no public clause names this)
pub record IsWhole (policy : Tree) (names : List (List ℕ)) (written : List ℕ) : Type 0 where
  pub is_stored : IsStored policy
  pub named : names ≡ names_from 1 (statements_of policy)
  pub is_written : written ≡ compact_text policy
