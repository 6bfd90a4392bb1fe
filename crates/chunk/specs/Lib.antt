pub mod Headers
pub mod Skipping
pub mod Ast
pub mod Form
pub mod Walks
pub mod Rows
