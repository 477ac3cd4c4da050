pub mod Accepted
pub mod Asked
pub mod Computed
pub mod Bound
pub mod Foretold
