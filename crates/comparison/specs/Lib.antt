-- The definitions that the contracts of the crate cite, in the order in which they are needed.
pub mod Ranged
pub mod Comparing
