-- What the doubles in memory hold.
use Rattle.std.specs.Prelude.{◌≡◌, ℕ, zero, suc, List, [], ◌++◌, Contains, Option, Some, None}
use Rattle.std.specs.List.{concat}

-- What a source in memory holds: the bytes that it was made of, what each read gave, the bytes left, and the most that one read gives.
-- Shown by: outside_tests test_router_disk.rt: a_source_gives_the_same_bytes_in_any_pieces.
pub record Supply : Type 0 where
  pub bytes : List ℕ
  pub gave : List (List ℕ)
  pub left : List ℕ
  pub most : ℕ

-- What a source in memory gave, and then what is left, is what it was made of. After the empty piece nothing is left.
-- Shown by: outside_tests test_router_disk.rt: a_source_gives_the_same_bytes_in_any_pieces.
pub record GivesItsBytes (source : Supply) : Type 0 where
  pub whole : concat source.gave ++ source.left ≡ source.bytes
  pub end : Contains source.gave [] → source.left ≡ []

-- What a sink in memory holds: the bytes written, and its count of faults.
-- Shown by: outside_tests test_router_disk.rt: a_failed_call_loses_no_byte_and_is_counted.
pub record Store : Type 0 where
  pub bytes : List ℕ
  pub faults : ℕ

-- How many calls succeed before the planned failure, after one more call.
-- Shown by: outside_tests test_router_disk.rt: a_failed_call_loses_no_byte_and_is_counted.
abbrev pub sound_after : Option ℕ → Option ℕ
sound_after None = None
sound_after (Some zero) = None
sound_after (Some (suc n)) = Some n
