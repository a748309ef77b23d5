pub mod Limits
pub mod Output
pub mod Counts
pub mod Held
pub mod Runs
pub mod Traces
