pub mod Variables
pub mod Formula
pub mod Blocks
pub mod Counts
pub mod Pruned
