-- The definitions that the contracts of the crate cite, in the order in which they are needed.
pub mod Layout
pub mod Verdict
pub mod Ranges
pub mod Statement
