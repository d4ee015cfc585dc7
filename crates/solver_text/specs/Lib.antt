-- A solver's text. `Walk` serves the code and the proofs.
pub mod Text
pub mod Cut
pub mod Form
pub mod Printed
pub mod Walk
