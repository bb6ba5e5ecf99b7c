-- The definitions that the contracts of the crate cite.
pub mod Forest
pub mod Shapes
pub mod Places
