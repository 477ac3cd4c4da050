pub mod Turns
pub mod Chains
