pub mod Embeds
pub mod Building
pub mod ReadsBack
pub mod Powers
pub mod ConstraintZero
