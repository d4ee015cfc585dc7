pub mod Tree
pub mod Ceiling
pub mod Encoded
