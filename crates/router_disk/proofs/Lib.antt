-- `fail` with `CountsFaults` as its clause closes every `count` goal: the lower bound comes from reading the `u64` there.
-- `Gives` is a record around the cases, so that `Gives-append first second` needs no argument written out; the cases alone are not
-- inferred.
-- `rest-is` of a branch speaks of the reference, `ap (λ r. r.now)` of its bytes. `c.self.view_is` goes from the fields to the model:
-- reverse it.
pub mod ClockLemmas
pub mod StreamLemmas
pub mod DiskLemmas
mod SourceLemmas
