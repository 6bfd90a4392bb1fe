pub mod Listing
pub mod Page
pub mod Laws
pub mod Rows
