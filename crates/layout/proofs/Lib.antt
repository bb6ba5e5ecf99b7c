-- The lemmas of the crate, in the order in which they are needed.
pub mod Windows
pub mod Tables
pub mod Forests
