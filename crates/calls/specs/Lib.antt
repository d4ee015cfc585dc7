pub mod Questions
pub mod Calls
pub mod Ceiling
pub mod Tally
