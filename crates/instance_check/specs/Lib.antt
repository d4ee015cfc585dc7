pub mod Read
pub mod Marked
pub mod Returned
