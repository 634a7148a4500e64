-- Each step of the pass gives what it read and what follows, so the pass is proved backwards: what follows the last member is the end of
-- the text, and a member before the end of a text makes the end of a text (`closed_by`). Literal parts compute.
-- A string is read in pieces, which join (`texts_joined`). A list or an object is read item by item, which is a list that grows at its
-- end (`another_item`, `another_member`). Nothing is known of the hash but that it is a function of the key.
pub mod TextLemmas
pub mod NumberLemmas
pub mod ListLemmas
pub mod EventLemmas
pub mod NumberedLemmas
