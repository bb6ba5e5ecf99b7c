-- The lemmas of the crate, in the order in which they are needed.
pub mod Steps
pub mod Documents
pub mod Sets
pub mod Keys
