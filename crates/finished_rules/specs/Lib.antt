-- The definitions that the contracts of the crate cite, in the order in which they are needed.
pub mod Same
pub mod SameTables
pub mod Answered
pub mod Tables
pub mod Compared
pub mod Reaches
pub mod ReachesInTables
pub mod Numbers
pub mod Reached
