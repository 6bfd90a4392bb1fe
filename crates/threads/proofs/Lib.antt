pub mod Turns
pub mod Represents
pub mod Emitting
pub mod Stepping
pub mod Landing
pub mod Settling
