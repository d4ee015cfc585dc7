-- Laws of the text and of its table, what the text says, and examples.
pub mod Laws
pub mod Table
pub mod Reading
pub mod Examples
