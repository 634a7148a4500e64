-- A table of checks as data (`Asked`, `Syntax`) and one loop: what is found of the rest is true of all, once for "all sound" and once for
-- "first
-- refusal". After the check values are total functions of the members (`text_of`, `values_in`), without `requires`: most calls need no
-- answer.
-- A helper that returns `Option<&[(Text, Json)]>`, with a clause by `option_map` and `option_copied`, closes what `members.as_slice()`
-- leaves open.
-- `list_all test (trees_of items)` with `list_in` needs one lemma (`values_back`). std's `All` does not compute to a tuple at a literal
-- list.
-- An element of a slice of an enum that is `Copy` is `get_or xs i V`, where V is some variant: pass `_` for it to `at_drop_more`.
-- `parse` is tied to `whole_number` by one lemma, with std's `parse_digits`; a second clause `within` gives the bound that an `as u16`
-- needs.
-- An arm `Json::Str(text)` whose clause has a hidden witness needs `rw (ap tree_of c.in-Str.is ∙ tree_of_text ..)`.
pub mod RefusalLemmas
pub mod ValueLemmas
pub mod CountLemmas
pub mod OneLemmas
pub mod PatternLemmas
pub mod PolicyLemmas
pub mod CheckedLemmas
pub mod TextLemmas
pub mod ArnLemmas
pub mod TimeLemmas
