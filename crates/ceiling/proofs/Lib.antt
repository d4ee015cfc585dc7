pub mod Tree
pub mod Entries
pub mod Counts
pub mod Base
pub mod Ceiling
