pub mod Branching
pub mod Binary
pub mod Faithful
pub mod Shape
pub mod Listing
pub mod Fresh
pub mod Marks
pub mod Whole
