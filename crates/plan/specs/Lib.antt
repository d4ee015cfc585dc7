pub mod Plan
pub mod Reversing
pub mod Passing
pub mod Rest
