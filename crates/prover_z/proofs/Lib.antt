pub mod Suffix
pub mod Parts
pub mod Factored
pub mod Passes
pub mod Both
