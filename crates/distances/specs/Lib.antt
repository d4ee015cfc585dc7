pub mod Distance
pub mod Table
pub mod Walk
