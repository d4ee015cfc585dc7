pub mod Valuation
pub mod Satisfying
pub mod Places
