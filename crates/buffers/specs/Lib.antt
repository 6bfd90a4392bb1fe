pub mod Lent
pub mod Pad
pub mod Laws
