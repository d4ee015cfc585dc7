pub mod Truth
pub mod Nodes
pub mod Trees
pub mod Added
pub mod Rows
