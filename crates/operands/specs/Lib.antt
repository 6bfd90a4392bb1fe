pub mod Operations
pub mod Laws
