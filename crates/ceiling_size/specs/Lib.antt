-- What the check of a call with a ceiling returns.
pub mod Inspected
