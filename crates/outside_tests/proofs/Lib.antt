-- The log of the plain book is a list of acts: `mapped` gives one more of them from one more item of the log.
pub mod LogLemmas
