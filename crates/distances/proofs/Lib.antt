pub mod Within
pub mod Walks
pub mod Rounds
pub mod Table
pub mod Goals
