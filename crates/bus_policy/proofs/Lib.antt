-- Total `Bool` functions over the tree, one case a line, let each `match` of the code prove with no file; loops keep `f (rest) ≡ f (all)`.
-- A trait with a ghost member (`wanted`) lets one loop serve five tests of a text.
-- A long chain of `find` or `&&`: one lemma takes it apart into a record, one puts it together, and nothing else unfolds it.
-- In an arm `Json::Obj(members)` whose callee takes a slice: `ap` over `deref.ensures.value`, and `tree_of_object`.
-- A function that drops a `Json` after a `match` joins five cases: pass `&json` to a helper that holds the clauses.
pub mod AccountLemmas
pub mod NameLemmas
pub mod StoredLemmas
pub mod ReadLemmas
pub mod GrammarLemmas
pub mod ItemLemmas
pub mod ChangeLemmas
pub mod LevelLemmas
pub mod LawLemmas
pub mod LengthLemmas
