-- The lemmas of the crate, in the order in which they are needed.
pub mod Answered
pub mod Elements
pub mod Tables
pub mod Compared
pub mod Numbers
pub mod Entries
pub mod Reached
