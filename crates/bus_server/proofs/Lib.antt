-- `SameFaults` with the ghost members of a bound as functions: an untouched `&mut` proves it with no file.
-- Lists of values of an associated type (`ghost links_given: { Self → List Self.Link }`), kept in logs, prove with no file in each host. In
-- a clause the
-- members of the link are `H.Link.answered`, in a proof `g.H.Link.Link.answered`.
-- A step on the way of `serve` is a function with a record of its own (`IsOpened`, `Announces`, `ServesBy`, then `Serves`), and one lemma
-- to the next.
-- A clause for every line of words: state it for each command that the words could be read to; one lemma (`command_once` of command_line) says
-- that there is one reading.
pub mod CrewLemmas
pub mod JournalLemmas
pub mod RecordedLemmas
pub mod RunLemmas
pub mod SeatedLemmas
pub mod ServeJournalLemmas
pub mod ServeLemmas
pub mod WordsLemmas
