-- The definitions that the contracts of the crate cite.
pub mod Keys
pub mod Faults
pub mod Found
pub mod Meaning
pub mod Verdict
pub mod Kept
pub mod Table
pub mod Laws
pub mod Original
