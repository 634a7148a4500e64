-- Acts of a step are one literal list, so what the clock and the book did computes from it. The loop's invariant is `Stepping`.
pub mod ActLemmas
