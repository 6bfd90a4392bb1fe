pub mod Counted
pub mod Accepted
pub mod Cases
pub mod Faithful
pub mod Examples
