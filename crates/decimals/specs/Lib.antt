-- Decimal digits.
pub mod Decimals
