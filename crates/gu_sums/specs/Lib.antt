pub mod Sums
pub mod Filing
pub mod Filed
