pub mod LineTokens
pub mod TextLines
