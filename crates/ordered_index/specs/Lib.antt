-- The definitions that the contracts of the crate cite, in the order in which they are needed.
pub mod Law
pub mod Slots
pub mod Sound
pub mod Probing
pub mod Entering
pub mod Keys
pub mod Laws
