-- The definitions that the contracts of the crate cite, in the order in which they are needed.
pub mod Meters
pub mod Query
pub mod Queries
