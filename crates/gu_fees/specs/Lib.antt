pub mod Rows
pub mod Sums
pub mod Pairs
pub mod Terms
pub mod Blocks
