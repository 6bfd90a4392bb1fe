pub mod Weavelist
pub mod Laws
pub mod Fits
mod Rows
