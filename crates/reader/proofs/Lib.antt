-- The marks, and the questions one after another.
pub mod Marks
pub mod Questions
