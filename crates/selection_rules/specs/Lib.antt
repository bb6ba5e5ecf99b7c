-- The definitions that the contracts of the crate cite, in the order in which they are needed.
pub mod Stored
pub mod Settle
pub mod Errors
pub mod Numbers
pub mod Sets
