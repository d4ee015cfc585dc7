-- Laws of decimal digits.
pub mod Laws
pub mod Reading
