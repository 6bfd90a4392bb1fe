pub mod Limits
pub mod Field
pub mod Word
pub mod Laws
pub mod Offset
pub mod Rows
