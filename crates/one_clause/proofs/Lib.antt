pub mod Clauses
pub mod Stands
pub mod Out
