pub mod Room
pub mod Output
