pub mod Extended
pub mod Rolled
pub mod Verified
