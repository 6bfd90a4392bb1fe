pub mod Floor
pub mod Numeral
pub mod Folding
pub mod Laws
pub mod Rows
