pub mod Added
pub mod Group
pub mod Searches
