-- What is read from a place of a text.
pub mod Token
