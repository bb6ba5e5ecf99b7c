-- The lemmas of the crate, in the order in which they are needed.
mod Rows
