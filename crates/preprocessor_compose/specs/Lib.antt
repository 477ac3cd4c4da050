pub mod Unique
pub mod Input
pub mod Counted
