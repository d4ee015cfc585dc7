-- The marks of the variables, asked and written.
pub mod Marks
