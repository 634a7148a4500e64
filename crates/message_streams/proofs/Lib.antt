-- One more read goes on from what is buffered (`IncomingLemmas`).
pub mod IncomingLemmas
