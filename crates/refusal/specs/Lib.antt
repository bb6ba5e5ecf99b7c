-- The definitions that the contracts of the crate cite.
pub mod Layers
pub mod Firsts
pub mod Numbered
