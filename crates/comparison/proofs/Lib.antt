-- Lemmas, by topic.
pub mod Rows
pub mod Matches
pub mod Ready
