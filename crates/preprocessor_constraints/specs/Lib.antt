pub mod Unique
pub mod Lookups
pub mod Copied
pub mod Groups
