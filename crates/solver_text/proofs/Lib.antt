-- Laws of a solver's text.
pub mod Pieces
pub mod Walk
pub mod Given
pub mod Cut
pub mod RoundTrip
