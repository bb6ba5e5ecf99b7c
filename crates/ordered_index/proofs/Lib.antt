-- The lemmas of the crate, in the order in which they are needed.
pub mod Ways
pub mod Probes
pub mod Rounds
pub mod Places
pub mod Adds
pub mod Powers
pub mod Enters
pub mod Firsts
pub mod Used
