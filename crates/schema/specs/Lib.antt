-- The definitions that the contracts of the crate cite, in the order in which they are needed.
pub mod Names
pub mod Numbers
pub mod Meaning
pub mod Law
pub mod Open
pub mod Meta
pub mod Lookup
pub mod Laws
