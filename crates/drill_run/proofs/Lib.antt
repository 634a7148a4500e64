-- A drill is one history of one pass: `OnePassLemmas`. bus_server cites its lemmas, and `same_history` of `DrillLemmas`, for `once`.
pub mod DrillLemmas
pub mod OnePassLemmas
