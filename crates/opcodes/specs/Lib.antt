pub mod OpCodes
pub mod Laws
