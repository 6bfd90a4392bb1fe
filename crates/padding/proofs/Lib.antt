pub mod Early
pub mod Emission
pub mod Discharge
pub mod Conditions
pub mod Operators
pub mod Expressions
pub mod Lowering
pub mod Padded
