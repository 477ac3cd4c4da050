pub mod Ground
pub mod Missing
pub mod Zero
