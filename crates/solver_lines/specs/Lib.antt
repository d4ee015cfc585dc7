-- What the lines of a text say.
pub mod Lines
