-- The definitions that the contracts of the crate cite.
pub mod Refusals
pub mod Comparing
pub mod Walking
