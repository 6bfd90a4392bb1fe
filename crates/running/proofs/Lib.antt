pub mod Plain
pub mod Calls
pub mod Arriving
pub mod Jumps
pub mod Run
pub mod Examples
