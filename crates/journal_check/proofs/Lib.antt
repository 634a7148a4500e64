-- A status that is given by a fault is cited by `sym` of that function's clause; what it says of the file comes from `fault_found`.
mod CheckLemmas
