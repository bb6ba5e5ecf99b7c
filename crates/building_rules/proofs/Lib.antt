-- The lemmas of the crate, in the order in which they are needed.
pub mod Histories
pub mod Settling
pub mod Rows
pub mod Keeping
pub mod Names
pub mod Definitions
pub mod Steps
pub mod Read
pub mod Chosen
pub mod Joined
pub mod GoesOn
pub mod Wholes
pub mod Dangling
pub mod Fits
pub mod Storable
