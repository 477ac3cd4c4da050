pub mod Factors
pub mod Factored
pub mod Suffix
