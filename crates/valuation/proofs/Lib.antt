pub mod Families
pub mod Entries
pub mod Pruned
