-- The definitions that the contracts of the crate cite, in the order in which they are needed.
pub mod Tables
pub mod Walk
pub mod Listed
pub mod Introspection
pub mod Lent
pub mod Refusals
pub mod Answers
pub mod Turning
