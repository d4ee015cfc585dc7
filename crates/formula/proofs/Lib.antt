pub mod Counts
pub mod Variables
pub mod Limits
pub mod Places
pub mod Blocks
pub mod Held
pub mod Pruned
