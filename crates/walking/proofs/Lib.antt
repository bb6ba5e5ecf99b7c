-- Lemmas, by topic.
pub mod Found
pub mod Steps
pub mod Turns
pub mod AtTop
pub mod Numbers
pub mod Places
pub mod Marking
pub mod Closed
pub mod Orders
pub mod Few
pub mod Exact
pub mod Going
pub mod Under
pub mod Shapes
pub mod Whole
pub mod Metas
