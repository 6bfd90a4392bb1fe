pub mod Walking
pub mod Insides
pub mod Forming
