pub mod Stages
pub mod Kinds
pub mod Outcome
