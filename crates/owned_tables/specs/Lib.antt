-- The definitions that the contracts of the crate cite.
pub mod Lengths
pub mod Contents
pub mod Faults
