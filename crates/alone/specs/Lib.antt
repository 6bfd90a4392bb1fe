pub mod Alone
pub mod Emission
pub mod Discharge
pub mod Conditions
pub mod Operators
pub mod Expressions
