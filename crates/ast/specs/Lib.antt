pub mod Operators
pub mod Kinds
pub mod Children
pub mod Refused
