pub mod Polys
pub mod Rows
pub mod Summed
pub mod Sixteen
pub mod Answer
pub mod RowSumClaim
