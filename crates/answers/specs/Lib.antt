pub mod Answers
pub mod Returned
pub mod Fault
