pub mod Laws
pub mod Entries
pub mod Bounds
pub mod Truth
pub mod Exchanges
pub mod Units
pub mod Steps
pub mod Families
