pub mod Fronts
pub mod Columns
pub mod Accepted
pub mod Divided
