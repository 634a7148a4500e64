-- The walk lists what is wanted in the order of the text (WalkLemmas): below a key it is what `Wanted::below` has (PathLemmas). What is
-- found with one number is what is found if its path alone is wanted, and that is the leaves at it (LeafLemmas). The sort changes the order
-- of no two leaves with one number (SortLemmas, FieldLemmas), and two lists that rise by number and have the same leaves of each number are
-- equal (LeafLemmas).
pub mod SortLemmas
pub mod PathLemmas
pub mod LeafLemmas
pub mod FieldLemmas
pub mod WalkLemmas
