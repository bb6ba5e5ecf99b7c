-- The lemmas of the crate, in the order in which they are needed.
pub mod Places
pub mod Following
pub mod Bounds
pub mod Misfits
pub mod Faultless
pub mod Names
pub mod LaidOut
pub mod Clean
