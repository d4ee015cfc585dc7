pub mod Inside
pub mod Conditions
