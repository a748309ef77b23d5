pub mod Begins
pub mod Passes
pub mod Runs
pub mod Shares
pub mod Views
