pub mod Nodes
pub mod Reads
pub mod Extents
