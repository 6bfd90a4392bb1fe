pub mod Parts
pub mod Laws
pub mod Entry
pub mod Running
