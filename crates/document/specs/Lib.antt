-- The definitions that the contracts of the crate cite, in the order in which they are needed.
pub mod Kinds
pub mod Rows
pub mod Document
pub mod Verdict
pub mod Sets
pub mod Needs
