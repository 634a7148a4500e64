-- A session whose reads gave no byte answers no message (`SilentLemmas`). A history whose turns serve no connection has only the turn that
-- opens it (`PrintedLemmas`).
pub mod PrintedLemmas
pub mod SilentLemmas
