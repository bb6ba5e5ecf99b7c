-- The definitions that the contracts of the crate cite, in the order in which they are needed.
pub mod Refusals
pub mod Script
pub mod Running
pub mod Outcomes
