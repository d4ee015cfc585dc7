pub mod Tally
pub mod History
