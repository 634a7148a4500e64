-- `Adds looked rows leaf old new` is what each part of `hits` adds: no mark goes away, a mark comes only from a row that is met, and each row
-- that is met and looked up is marked. `looked` is a property of rows: parts are joined by `adds_then`, and `adds_fewer` changes the property.
-- No list of what was found is needed.
-- That what is met is looked up is `reached`, a law over tests, leaves and lengths alone. Only its cases know the kinds of tests.
-- The signature of a text's first bytes is a fold, so one more byte is one lemma (`signature_more`). The last bytes are the first ones of the
-- reversed text.
-- `leaf.rt` and `address.rt` repeat private functions of pattern_meaning and leaf_match. Their answers cite the lemmas of those crates.
pub mod TableLemmas
pub mod HitLemmas
pub mod RangeLemmas
pub mod NumberLemmas
pub mod KeyLemmas
pub mod AddressLemmas
pub mod EndLemmas
pub mod MakeLemmas
