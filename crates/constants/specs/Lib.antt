pub mod Entry
pub mod Table
pub mod Relations
pub mod Fours
pub mod Texts
pub mod Laws
pub mod Distinct
pub mod Rows
