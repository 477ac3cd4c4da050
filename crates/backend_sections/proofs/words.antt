pub mod Elements
pub mod All
