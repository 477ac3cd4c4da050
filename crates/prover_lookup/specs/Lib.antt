pub mod Product
pub mod Lookups
pub mod Unique
