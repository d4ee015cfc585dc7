pub mod Instance
pub mod Exchanged
pub mod Limits
pub mod Ready
pub mod Shows
pub mod Questions
pub mod Accepted
pub mod Problem
