pub mod Goals
pub mod Graph
pub mod Edges
pub mod Neighbours
pub mod Instance
pub mod Exchanged
pub mod Accepted
pub mod Call
