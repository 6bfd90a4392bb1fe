pub mod Field
pub mod Getting
pub mod Reading
