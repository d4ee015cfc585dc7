pub mod Laws
pub mod History
