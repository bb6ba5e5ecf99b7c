-- The definitions that the contracts of the crate cite, in the order in which they are needed.
pub mod Definitions
pub mod Calls
pub mod Rules
pub mod Storable
pub mod Chosen
pub mod Statement
pub mod Runs
pub mod Whole
pub mod Keeping
pub mod Bounds
pub mod Needed
