-- The definitions that the contracts of the crate cite, in the order in which they are needed.
pub mod Refusals
pub mod Filling
pub mod Holding
pub mod Naming
pub mod Ruling
pub mod Storing
pub mod Space
pub mod Taking
pub mod Adding
pub mod Lent
pub mod Beginning
pub mod Reading
pub mod Certificate
pub mod Finished
