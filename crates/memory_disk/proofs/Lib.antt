-- `c.self.view_is` goes from the fields to the model: reverse it.
mod HeldDiskLemmas
