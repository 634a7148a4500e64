-- An index may find too much, so there is one thing to prove of it: a rule that holds is found (`held_can` of MatchLemmas). It holds on a
-- view; on it one of its anchors is met, by the choice of anchors (AnchorLemmas); the view's leaf there is among the event's leaves (ViewLaw);
-- and the anchor's tests are entered under its path (`IsTableOf`, which the lemmas of TableLemmas keep).
-- `IsTableOf` says of each list of parts what a table has. So a table has no ghost value, and each call that makes one says it for all lists.
pub mod ViewLaw
pub mod KeyLemmas
pub mod MemberLemmas
pub mod AnchorLemmas
pub mod LeafLemmas
pub mod TableLemmas
pub mod RuleLemmas
pub mod MatchLemmas
