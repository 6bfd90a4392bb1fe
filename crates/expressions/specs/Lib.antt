pub mod Parts
pub mod Laws
pub mod Paths
